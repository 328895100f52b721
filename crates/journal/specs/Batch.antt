-- What a `Batch` shows.
use Rattle.std.specs.Prelude.{ℕ, ◌+◌, List, map, length}
use Rattle.std.specs.List.{sum_by}
use Rattle.journal.specs.Format.{Kept, records, whole, sector}
use Rattle.journal.specs.declared.batch.Batch.{Batch}

-- its records, in order
abbrev pub batch_records : Batch → List (List ℕ)
batch_records batch = records batch.bytes.items

-- how many bytes of the file it takes: its own sectors, and that of the gate behind it
abbrev pub batch_size : Batch → ℕ
batch_size batch = whole (32 + length batch.bytes.items) + sector

-- as it is kept if it is added at this time
abbrev pub kept_at : ℕ → Batch → Kept
kept_at time batch = (time, batch_records batch)

-- these batches, in order, if they are added at this time
abbrev pub kept_of : ℕ → List Batch → List Kept
kept_of time batches = map (kept_at time) batches

-- where the gate behind these batches stands, if they are added at this gate
abbrev pub ends_behind : ℕ → List Batch → ℕ
ends_behind gate batches = gate + sum_by batch_size batches
