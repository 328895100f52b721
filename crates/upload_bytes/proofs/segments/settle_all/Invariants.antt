use Rattle.std.proofs.Common.{◌≡◌, ◌≤◌, ◌+◌, ◌++◌}
use Rattle.std.specs.Prelude.{vec_len, vec_capacity}
use Rattle.upload_bytes.proofs.segments.settle_all.Given as goal

abbrev pub invariant-loop-part : goal.invariant-loop-part
invariant-loop-part l = record {
  items : l.settled.items ≡ l.fn.settled.items ++ l.yielded;
  room : vec_len l.settled + l.part-iterator.rest.len ≤ vec_capacity l.settled;
  kept : vec_capacity l.fn.settled ≤ vec_capacity l.settled;
}
