-- What a file begins with.
use Rattle.std.specs.Prelude.{◌≡◌, ℕ, List, ◌++◌, length, take}
use Rattle.journal.specs.Format.{head, sector}
use Rattle.journal.specs.declared.line.Line.{Line}

-- the first bytes of the first line: "journal\n" (this number in eight bytes), the version of the format, the length of
-- the parameters, and the parameters. Whatever follows in the first sector is part of the line, too.
abbrev pub line_text : List ℕ → List ℕ
line_text parameters = head 7669477824773843978 2 (length parameters) ++ parameters

abbrev pub line_bytes : Line → List ℕ
line_bytes line = line.bytes

-- the file begins with this line
abbrev pub BeginsWith : Line → List ℕ → Type 0
BeginsWith line file = take sector file ≡ line.bytes
