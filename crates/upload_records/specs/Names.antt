-- The files that records name.
use Rattle.std.specs.Prelude.{◌≡◌, ℕ, Bool, true, List, [], ◌∷◌, Option, IsTrue, is_ok}
use Rattle.std.specs.List.{All}
use Rattle.std.specs.BTreeSet.{contains}
use Rattle.std.specs.Ordering.{nat_cmp}
use Rattle.upload_journal.specs.Entries.{entry_of}
use Rattle.upload_store.specs.Found.{numbers_of}
use Rattle.upload_records.specs.declared.named.Named.{Named}

-- a number is noted
abbrev pub Has : Named → ℕ → Type 0
Has it n = IsTrue (contains nat_cmp it.numbers n)

-- each record was an entry
abbrev pub are_entries : Named → Bool
are_entries it = it.are_entries

abbrev pub IsEntryText : List ℕ → Type 0
IsEntryText text = is_ok (entry_of text) ≡ true

-- these records were noted
pub record Notes (old : Named) (texts : List (List ℕ)) (new : Named) : Type 0 where
  pub more : (n : ℕ) → Has old n → Has new n
  pub named : All (λ text. All (Has new) (numbers_of text)) texts
  pub entries : are_entries new ≡ true → (are_entries old ≡ true) × All IsEntryText texts
