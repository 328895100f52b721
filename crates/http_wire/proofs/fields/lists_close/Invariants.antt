use Rattle.std.proofs.Common.{◌≡◌, take, map}
use Rattle.std.specs.Prelude.{codes}
use Rattle.std.specs.List.{list_any}
use Rattle.httparse.specs.Spans.{header_bytes}
use Rattle.http_wire.specs.Fields.{values_of, lists_close}
use Rattle.http_wire.proofs.fields.lists_close.Given as goal

abbrev pub invariant-loop-header : goal.invariant-loop-header
invariant-loop-header l =
    l.found
    ≡ list_any lists_close (values_of (codes "connection") (map (header_bytes l.head) (take l.header-index l.headers)))
