use Rattle.std.proofs.Common.{take, map, ◌≡◌}
use Rattle.std.specs.Prelude.{option_map}
use Rattle.httparse.specs.Spans.{header_bytes}
use Rattle.http_wire.specs.Fields.{first_of, values_of}
use Rattle.http_wire.proofs.fields.first_among.Given as goal

abbrev pub invariant-loop-header : goal.invariant-loop-header
invariant-loop-header l =
    option_map (λ v. v.now) l.found
    ≡ first_of (values_of l.name (map (header_bytes l.head) (take l.header-index l.headers)))
