-- What a record that is let through says of the files that it names.
use Rattle.std.specs.Prelude.{◌≡◌, ℕ, List}
use Rattle.std.specs.List.{All}
use Rattle.upload_store.specs.Found.{numbers_of}
use Rattle.upload_compact.specs.Numbers.{Has}
use Rattle.upload_compact.specs.declared.guard.Guard.{Guard}

-- each number that the record names is among those that may be named, which are as they were
pub record Allows (old : Guard) (text : List ℕ) (new : Guard) : Type 0 where
  pub same : new.safe ≡ old.safe
  pub named : All (Has old.safe) (numbers_of text)
