-- The text of a line of the log of requests.
use Rattle.std.specs.Prelude.{ℕ, List, ◌++◌, codes, decimal}

-- the time of day, what is shown of a head, the status, the bytes of the reply's body, and the milliseconds from the
-- head to the end of the reply
abbrev pub line_text : List ℕ → List ℕ → ℕ → ℕ → ℕ → List ℕ
line_text time head status size millis =
    time ++ (codes " " ++ (head ++ (codes " " ++ (decimal status
    ++ (codes " " ++ (decimal size ++ (codes " " ++ (decimal millis ++ codes "ms"))))))))
