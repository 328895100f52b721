-- Counters of calls.
use Rattle.std.specs.Prelude.{◌≡◌, ℕ, ◌+◌, ◌-◌, ◌^◌, ◌<◌, ◌≤◌}

-- the largest count
abbrev pub last_count : ℕ
last_count = 2 ^ 64 - 1

-- the counter went up by one; at its last value nothing is claimed
abbrev pub CountsUp : ℕ → ℕ → Type 0
CountsUp old new = old < last_count → new ≡ old + 1

-- the counter went up by at most n; if it may have come to its last value nothing is claimed
abbrev pub CountsAtMost : ℕ → ℕ → ℕ → Type 0
CountsAtMost old new n = old + n < last_count → new ≤ old + n
