use Rattle.std.proofs.Common.{◌≡◌, ◌-◌}
use Rattle.upload_claims.specs.Texts.{changes_at}
use Rattle.upload_claims.proofs.Taken.{with_front}
use Rattle.upload_claims.proofs.reading.take_changes.Given as goal

abbrev pub invariant-loop : goal.invariant-loop
invariant-loop l =
    with_front l.changes.items (changes_at (l.count - l.counter) l.bytes.now) ≡ changes_at l.count l.fn.bytes.now
