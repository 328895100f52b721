-- Rounds: bodies, and the batch behind them.
use Rattle.std.specs.Prelude.{◌⊎◌, ◌+◌, ℕ, List, map}
use Rattle.std.specs.List.{flat_map, sum_by}
use Rattle.journal.specs.Format.{Kept}
use Rattle.journal.specs.Batch.{kept_at, batch_size}
use Rattle.bodies.specs.declared.fault.BodyFault.{BodyFault}
use Rattle.upload_store.specs.declared.life.Round.{Round}

-- their batches, in order, if they are added at this time
abbrev pub rounds_kept : ℕ → List Round → List Kept
rounds_kept time rounds = map (λ (round : Round). kept_at time round.batch) rounds

-- their bodies, in order
abbrev pub bodies_of : List Round → List (List ℕ)
bodies_of rounds = flat_map (λ (round : Round). round.bodies.items) rounds

-- how many bytes of the journal the batch of a round takes
abbrev pub round_size : Round → ℕ
round_size round = batch_size round.batch

-- where the gate behind their batches stands, if they are added at this gate
abbrev pub rounds_end : ℕ → List Round → ℕ
rounds_end gate rounds = gate + sum_by round_size rounds

-- Why one of these rounds isn't kept: the store isn't open, the journal would be too long, a call of its disk failed,
-- no number is left for a body, or a body isn't on the disk.
abbrev pub RoundFails : (closed long disk used_up : Type 0) → (BodyFault → Type 0) → Type 0
RoundFails closed long disk used_up body =
    closed ⊎ (long ⊎ (disk ⊎ (used_up ⊎ ((fault : BodyFault) × body fault))))
