use Rattle.std.proofs.Common.{◌≡◌, ◌++◌, ◌+◌, ◌≤◌, length}
use Rattle.upload_claims.specs.Fold.{fold}
use Rattle.upload_claims.specs.Records.{records_in}
use Rattle.upload_claims.specs.Damage.{changes_told, damages}
use Rattle.upload_claims.specs.declared.address.Address.{Address}
use Rattle.upload_claims.proofs.claimed.Claimed.read_batch.Given as goal

abbrev pub invariant-loop-rest : goal.invariant-loop-rest
invariant-loop-rest l =
    let first : Address = record { journal = l.fn.journal; batch = l.fn.batch; index = 0 } in
    record {
      claims :
          fold l.self (changes_told (records_in l.at l.rest))
          ≡ fold l.fn.self (changes_told (records_in first l.fn.bytes));
      damage :
          l.damage.items ++ damages l.at (records_in l.at l.rest)
          ≡ l.fn.damage.items ++ damages first (records_in first l.fn.bytes);
      counted : l.at.index + length l.rest ≤ length l.fn.bytes;
    }

abbrev pub decreases-loop-rest : goal.decreases-loop-rest
decreases-loop-rest l = length l.rest
