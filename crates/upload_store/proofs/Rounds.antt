-- One round more.
use Rattle.std.proofs.lemmas.Grind.{common_steps}
use Rattle.std.proofs.Common.{◌≡◌, ◌∙◌, ◌+◌, ◌<◌, ℕ, List, [], ◌∷◌, ◌++◌, take, length, get_or, sym, ap, arith, rules}
use Rattle.std.proofs.Common.{Result, Ok, Err, OnOk, is_err, false}
use Rattle.std.proofs.lemmas.List.{append-nil, take_more, map-append}
use Rattle.std.proofs.lemmas.List.Concat.{flat_map-append}
use Rattle.journal.specs.Batch.{kept_at}
use Rattle.upload_store.specs.declared.life.Round.{Round}
use Rattle.std.specs.List.{sum_by}
use Rattle.std.proofs.Common.{IfErr, true}
use Rattle.std.proofs.lemmas.List.Sums.{sum_by_push}
use Rattle.bodies.specs.declared.fault.BodyFault.{BodyFault}
use Rattle.journal.specs.Errors.{WhyNot}
use Rattle.journal.proofs.Causes.{why_not, never}
use Rattle.upload_store.specs.declared.fault.StoreFault.{StoreFault}
use Rattle.upload_store.specs.Faults.{ComesBy, NoRecord}
use Rattle.upload_store.specs.Rounds.{rounds_kept, bodies_of, round_size}

-- what an `Ok` tells
pub if_ok : {T E : Type 0} (result : Result T E) (P : Type 0) → is_err result ≡ false → OnOk result P → P
if_ok (Ok x) P ok told = told
if_ok (Err e) P ok told = absurd (cc ok)

pub if_err_told : {T E : Type 0} (result : Result T E) (P : E → Type 0) → is_err result ≡ true → IfErr result P
    → (error : E) × P error
if_err_told (Ok x) P is told = absurd (cc is)
if_err_told (Err error) P is told = (error, told)

-- what follows from each cause follows
pub round_fails : (closed long disk same : Type 0) (body : BodyFault → Type 0) (used_up goal : Type 0) → (closed → goal)
    → (long → goal) → (disk → goal) → (used_up → goal) → ((fault : BodyFault) → body fault → goal)
    → (fault : StoreFault) → ComesBy (WhyNot closed long disk same) body NoRecord used_up fault → goal
round_fails closed long disk same body used_up goal a b c d e fault why = search (rules, arith, why_not, never)

pub one_more : {X : Type 0} (xs : List X) (i : ℕ) (x : X) → i < length xs → x ≡ get_or xs i x
    → take (i + 1) xs ≡ take i xs ++ x ∷ []
one_more xs i x here is = take_more xs i x here ∙ ap (λ y. take i xs ++ y ∷ []) (sym is)

module _ (rounds : List Round) (i : ℕ) (round : Round) (here : i < length rounds) (is : round ≡ get_or rounds i round)
  where
    pub kept_more : (time : ℕ) → rounds_kept time (take (i + 1) rounds)
        ≡ rounds_kept time (take i rounds) ++ kept_at time round.batch ∷ []
    kept_more time = grind (arith, common_steps, one_more, map-append)

    pub bodies_more : bodies_of (take (i + 1) rounds) ≡ bodies_of (take i rounds) ++ round.bodies.items
    bodies_more = grind (arith, common_steps, one_more, flat_map-append, append-nil)

    pub size_more : sum_by round_size (take (i + 1) rounds) ≡ sum_by round_size (take i rounds) + round_size round
    size_more = ap (sum_by round_size) (one_more rounds i round here is) ∙ sum_by_push round_size (take i rounds) round
