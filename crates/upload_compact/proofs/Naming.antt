-- What runs over the records of a journal say of the files that these name.
use Rattle.std.proofs.Common.{◌≡◌, ◌∙◌, ℕ, List, [], ◌∷◌, inl, inr, ap, subst}
use Rattle.std.specs.List.{All}
use Rattle.std.proofs.lemmas.List.Elements.{All-head, All-tail, All-nil, All-cons, All-append, All-contains}
use Rattle.journal.specs.Format.{Kept}
use Rattle.journal.specs.Machine.{Runs, RunsRecords}
use Rattle.upload_store.specs.Found.{numbers_of, texts_of}
use Rattle.upload_store.proofs.Same.{All-front, All-behind}
use Rattle.upload_compact.specs.Numbers.{Has}
use Rattle.upload_compact.specs.Surveys.{NamesMore, IsSurveyOf}
use Rattle.upload_compact.specs.Guards.{Allows}
use Rattle.upload_compact.specs.declared.numbers.Numbers.{Numbers}
use Rattle.upload_compact.specs.declared.survey.Survey.{Survey}
use Rattle.upload_compact.specs.declared.guard.Guard.{Guard}

-- ---- a survey: what holds of each number that records name holds of each that it has noted

abbrev surveys : Survey → ℕ → List ℕ → Survey → Type 0
surveys old time text new = NamesMore old text new

module _ (P : ℕ → Type 0) where
  abbrev Names : List ℕ → Type 0
  Names text = All P (numbers_of text)

  noted_records : (time : ℕ) (old : Survey) (texts : List (List ℕ)) (new : Survey)
      → RunsRecords surveys time old texts new → All Names texts → ((n : ℕ) → Has old.named n → P n)
      → (n : ℕ) → Has new.named n → P n
  noted_records time old [] new same all before n has =
      before n (subst (λ (it : Survey). Has it.named n) same has)
  noted_records time old (text ∷ rest) new run all before n has =
      noted_records time run.0 rest new run.2 (All-tail Names text rest all)
      (λ m had. elim (run.1 m had) [
        | inl was ↦ before m was
        | inr here ↦ All-contains P (numbers_of text) m (All-head Names text rest all) here
      ])
      n has

  noted_batches : (old : Survey) (all : List Kept) (new : Survey) → Runs surveys old all new → All Names (texts_of all)
      → ((n : ℕ) → Has old.named n → P n) → (n : ℕ) → Has new.named n → P n
  noted_batches old [] new same all before n has = before n (subst (λ (it : Survey). Has it.named n) same has)
  noted_batches old (kept ∷ rest) new run all before n has =
      noted_batches run.0 rest new run.2 (All-behind Names kept.1 (texts_of rest) all)
      (noted_records kept.0 old kept.1 run.0 run.1 (All-front Names kept.1 (texts_of rest) all) before)
      n has

  pub surveyed : (all : List Kept) (it : Survey) → IsSurveyOf all it → All Names (texts_of all) → (n : ℕ)
      → Has it.named n → P n
  surveyed all it survey each n has =
      noted_batches survey.first all it survey.ran each (λ m had. absurd (survey.none m had)) n has

-- ---- a guard: each number that records name is among those that may be named

abbrev allows : Guard → ℕ → List ℕ → Guard → Type 0
allows old time text new = Allows old text new

abbrev Among : Numbers → List ℕ → Type 0
Among safe text = All (Has safe) (numbers_of text)

allowed_records : (time : ℕ) (old : Guard) (texts : List (List ℕ)) (new : Guard)
    → RunsRecords allows time old texts new → (new.safe ≡ old.safe) × All (Among old.safe) texts
allowed_records time old [] new same = (ap (λ (g : Guard). g.safe) same, All-nil (Among old.safe))
allowed_records time old (text ∷ rest) new run =
    let others = allowed_records time run.0 rest new run.2 in (
      others.0 ∙ run.1.same,
      All-cons (Among old.safe) text rest run.1.named
          (subst (λ (safe : Numbers). All (Among safe) rest) run.1.same others.1),
    )

allowed_batches : (old : Guard) (all : List Kept) (new : Guard) → Runs allows old all new
    → (new.safe ≡ old.safe) × All (Among old.safe) (texts_of all)
allowed_batches old [] new same = (ap (λ (g : Guard). g.safe) same, All-nil (Among old.safe))
allowed_batches old (kept ∷ rest) new run =
    let first = allowed_records kept.0 old kept.1 run.0 run.1 in
    let others = allowed_batches run.0 rest new run.2 in (
      others.0 ∙ first.0,
      All-append (Among old.safe) kept.1 (texts_of rest) first.1
          (subst (λ (safe : Numbers). All (Among safe) (texts_of rest)) first.0 others.1),
    )

pub allowed : (old : Guard) (all : List Kept) (new : Guard) → Runs allows old all new
    → All (λ text. All (Has old.safe) (numbers_of text)) (texts_of all)
allowed old all new run = (allowed_batches old all new run).1
