use Rattle.std.proofs.Common.{take, map}
use Rattle.httparse.specs.Spans.{header_bytes}
use Rattle.http_wire.specs.Fields.{values_of}
use Rattle.http_wire.specs.Inner.FieldReading.{IsOccurrence}
use Rattle.http_wire.proofs.fields.field_among.Given as goal

abbrev pub invariant-loop-header : goal.invariant-loop-header
invariant-loop-header l =
    IsOccurrence (values_of l.name (map (header_bytes l.head) (take l.header-index l.headers))) l.found
