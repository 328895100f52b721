-- What is known of a survey of records: the files that it has noted, these name.
use Rattle.std.specs.Prelude.{ℕ, ◌⊎◌, List, Contains}
use Rattle.journal.specs.Format.{Kept}
use Rattle.journal.specs.Machine.{Runs}
use Rattle.upload_store.specs.Found.{numbers_of}
use Rattle.upload_compact.specs.Numbers.{Has, HasNone}
use Rattle.upload_compact.specs.declared.survey.Survey.{Survey}

-- a record was taken in: each number that was noted then is one that it names
abbrev pub NamesMore : Survey → List ℕ → Survey → Type 0
NamesMore old text new = (n : ℕ) → Has new.named n → Has old.named n ⊎ Contains (numbers_of text) n

-- it has taken in the records of these batches, and nothing else
pub record IsSurveyOf (all : List Kept) (it : Survey) : Type 0 where
  pub first : Survey
  pub none : HasNone first.named
  pub ran : Runs (λ (old : Survey) (time : ℕ) (text : List ℕ) (new : Survey). NamesMore old text new) first all it
