-- What writes a number is UTF-8.
use Rattle.std.proofs.Common.{ℕ, List}
use Rattle.std.specs.Str.{IsUtf8}
use Rattle.std.proofs.lemmas.Fmt.{IsAscii-from_digits}
use Rattle.std.proofs.lemmas.Str.{IsUtf8-from_ascii}
use Rattle.blobd_words.specs.Size.{IsNumber}

pub number_utf8 : (digits : List ℕ) (number : ℕ) → IsNumber digits number → IsUtf8 digits
number_utf8 digits number is = IsUtf8-from_ascii digits (IsAscii-from_digits digits is.0.1)
