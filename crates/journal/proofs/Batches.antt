-- Records that are added to a batch.
use Rattle.std.proofs.Common.{◌≡◌, ◌⊎◌, inl, inr, ℕ, ◌<◌, ◌^◌, List, [], ◌∷◌, ◌++◌, length, Result, Ok, Err, OnOk}
use Rattle.std.proofs.Common.{OnErr, sym, ◌∙◌, ap, arith, rules}
use Rattle.std.proofs.lemmas.List.{append-nil}
use Rattle.std.proofs.lemmas.List.Elements.{All-push, All-nil, All-same}
use Rattle.std.proofs.lemmas.List.Concat.{flat_map-append}
use Rattle.journal.specs.Format.{block, blocks, records, IsShort, AreShort}
use Rattle.journal.proofs.Reading.{records-blocks, records_none, first_nil}

-- whole records and nothing else
pub record IsBatch (bytes : List ℕ) : Type 0 where
  pub whole : bytes ≡ blocks (records bytes)
  pub short : AreShort (records bytes)

pub records_nil : records [] ≡ []
records_nil = records_none [] first_nil

pub records_of_blocks : (recorded : List (List ℕ)) → AreShort recorded → records (blocks recorded) ≡ recorded
records_of_blocks recorded short =
    ap records (sym (append-nil (blocks recorded))) ∙ records-blocks recorded [] short
    ∙ ap (λ (rs : List (List ℕ)). recorded ++ rs) records_nil ∙ append-nil recorded

pub is_batch : (bytes : List ℕ) (recorded : List (List ℕ)) → bytes ≡ blocks recorded → AreShort recorded → IsBatch bytes
is_batch bytes recorded is short = search (rules, arith, records_of_blocks, All-same)

pub no_batch : (bytes : List ℕ) → bytes ≡ [] → IsBatch bytes
no_batch bytes is = is_batch bytes [] is (All-nil IsShort)

module _ (old new r : List ℕ) (whole : old ≡ blocks (records old)) (short : AreShort (records old))
    (fits : length r < 2 ^ 64) (added : new ≡ old ++ block r) where
  pushed_blocks : new ≡ blocks (records old ++ r ∷ [])
  pushed_blocks = search (rules, arith, append-nil, flat_map-append)

  pushed_short : AreShort (records old ++ r ∷ [])
  pushed_short = All-push IsShort (records old) r short fits

  pub pushed_batch : IsBatch new
  pushed_batch = is_batch new (records old ++ r ∷ []) pushed_blocks pushed_short

  pub records_pushed : records new ≡ records old ++ r ∷ []
  records_pushed = ap records pushed_blocks ∙ records_of_blocks (records old ++ r ∷ []) pushed_short

pub added_or_not : {T E : Type 0} (result : Result T E) (A B : Type 0) → OnOk result A → OnErr result B → A ⊎ B
added_or_not (Ok x) A B ok err = inl ok
added_or_not (Err e) A B ok err = inr err

pub still_batch : (old new : List ℕ) → old ≡ blocks (records old) → AreShort (records old) → new ≡ old → IsBatch new
still_batch old new whole short same = is_batch new (records old) (same ∙ whole) short
