-- What a shelf in memory shows.
use Rattle.std.specs.Prelude.{ℕ, Bool, List, reverse, Option}
use Rattle.sqlite_disk.specs.declared.memory.Memory.{Memory}
use Rattle.bodies.specs.MemoryFiles.{held_in, left_in}
use Rattle.bodies.specs.Shelf.{KeepsOthers}
use Rattle.bodies.specs.declared.calls.Call.{Call}
use Rattle.bodies.specs.declared.memory.MemoryShelf.{MemoryShelf}

-- its calls, the newest first
abbrev pub calls_of : MemoryShelf → List (Call Memory)
calls_of shelf = reverse shelf.calls.items

-- its member `is_usable`
abbrev pub is_usable_of : MemoryShelf → Bool
is_usable_of shelf = shelf.is_usable

-- its member `faults`
abbrev pub faults_of : MemoryShelf → ℕ
faults_of shelf = shelf.faults

-- its member `held`
abbrev pub held_of : MemoryShelf → ℕ → Option (List ℕ)
held_of shelf = held_in shelf.calls.items

-- its member `may_leave`
abbrev pub left_of : MemoryShelf → ℕ → Option (List ℕ) → Type 0
left_of shelf = left_in shelf.calls.items

-- a crash may leave what is held at this number, and then no more than before; the others are as they were
pub record IsCutAt (old new : MemoryShelf) (number : ℕ) : Type 0 where
  pub left : left_of old number (held_of new number)
  pub fewer : (file : Option (List ℕ)) → left_of new number file → left_of old number file
  pub others : KeepsOthers held_of left_of old new number

-- so it is at each number
pub record IsCut (old new : MemoryShelf) : Type 0 where
  pub left : (number : ℕ) → left_of old number (held_of new number)
  pub fewer : (number : ℕ) (file : Option (List ℕ)) → left_of new number file → left_of old number file
