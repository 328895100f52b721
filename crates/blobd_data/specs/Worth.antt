-- When a start writes a journal anew.
use Rattle.std.specs.Prelude.{ℕ, ◌+◌, ◌-◌, ◌/◌, ◌<◌, ◌≤◌, ◌⊎◌}
use Rattle.upload_compact.specs.declared.weighing.Weight.{Weight}

-- of a journal of so many bytes 64 MiB or more would go, and that is more than half of them, or more than a tenth of
-- the files
abbrev pub IsWorth : Weight → ℕ → Type 0
IsWorth weight length =
    (67108864 ≤ (length - weight.needed.records) + weight.dead.in_files)
    × ((weight.needed.records < length - weight.needed.records) ⊎ (weight.needed.files / 9 < weight.dead.files))
