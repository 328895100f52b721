-- Numbers of files.
use Rattle.std.specs.Prelude.{ℕ, IsTrue}
use Rattle.std.specs.BTreeSet.{contains}
use Rattle.std.specs.Ordering.{nat_cmp}
use Rattle.upload_compact.specs.declared.numbers.Numbers.{Numbers}

-- a number is among them
abbrev pub Has : Numbers → ℕ → Type 0
Has it n = IsTrue (contains nat_cmp it.set n)

abbrev pub HasNone : Numbers → Type 0
HasNone it = (n : ℕ) → ¬ (Has it n)
