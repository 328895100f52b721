use Rattle.std.proofs.Common.{◌≡◌, take, ◌≤◌, ◌<◌, ◌*◌, ◌+◌, true}
use Rattle.std.specs.List.{list_all}
use Rattle.std.specs.Char.{is_ascii_digit}
use Rattle.std.specs.Str.Parse.{digits_value}
use Rattle.http_wire.proofs.body.length_of.Given as goal

abbrev pub invariant-loop-b : goal.invariant-loop-b
invariant-loop-b l =
    (list_all is_ascii_digit (take l.b-index l.value) ≡ true)
    × (l.total ≤ l.max_body * 10 + 9)
    × (l.total ≤ l.max_body → l.total ≡ digits_value 10 (take l.b-index l.value))
    × (l.max_body < l.total → l.max_body < digits_value 10 (take l.b-index l.value))
