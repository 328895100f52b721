use Rattle.std.proofs.Common.{◌≡◌}
use Rattle.upload_keeper.proofs.seat.Seat.hash_body.Given as goal

abbrev pub invariant-hashes : goal.invariant-hashes
invariant-hashes g l = (l.self ≡ l.fn.self) × (l.body ≡ l.fn.body)
