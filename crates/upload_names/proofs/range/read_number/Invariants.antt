use Rattle.std.proofs.Common.{◌≡◌, take, true}
use Rattle.std.specs.List.{list_all}
use Rattle.std.specs.Char.{is_ascii_digit}
use Rattle.upload_names.specs.ByteRange.{capped_value}
use Rattle.upload_names.proofs.range.read_number.Given as goal

-- the digits so far are digits, and the number is what they spell
abbrev pub invariant-loop-digit : goal.invariant-loop-digit
invariant-loop-digit l =
    (list_all is_ascii_digit (take l.digit-index l.digits) ≡ true)
    × (l.number ≡ capped_value (take l.digit-index l.digits))
