use Rattle.std.specs.Prelude.{◌≡◌, [], All, vec_len}
use Rattle.blobd_serve.proofs.listener.doors.Given as goal

abbrev pub invariant-loop-number : goal.invariant-loop-number
invariant-loop-number g l = record {
  number : vec_len l.doors ≡ l.number;
  new : All (λ door. door.history ≡ []) l.doors.items;
}
