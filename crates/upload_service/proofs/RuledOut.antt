-- What the headline's claims rule out.
use Rattle.std.proofs.Common.{◌≡◌, ℕ, ◌<◌, List, [], ◌∷◌, ◌++◌, length, Bool, true, false, not, Option, Some, None}
use Rattle.std.proofs.Common.{refl, sym, ◌∙◌, ap, ◌⊎◌, inl, inr, cond, arith, filter, map as list_map, rules}
use Rattle.std.specs.Prelude.{◌||◌, All}
use Rattle.std.proofs.lemmas.Bool.{true≢false}
use Rattle.std.proofs.lemmas.List.Elements.{All-nil, All-cons, All-head, All-tail}
use Rattle.upload_service.specs.declared.limits.Limits.{Limits}
use Rattle.upload_service.specs.declared.ask.Ask.{Ask}
use Rattle.upload_service.specs.declared.answer.Refusal.TheVariants as refusals
use Rattle.upload_service.specs.declared.answer.Answer.{Answer}
use Rattle.upload_service.specs.declared.answer.Answer.TheVariants as answers
use Rattle.upload_service.specs.UploadView.{upload_view}
use Rattle.upload_service.specs.UploadView.{opened_under}
use Rattle.upload_service.specs.Machine.{Session, State, SessionChange}
use Rattle.upload_service.specs.Machine.{answer_of, outcome}
use Rattle.upload_service.specs.Run.{Exchange}
use Rattle.upload_service.specs.Session.{carries, begins, is_part, part, is_taken, received}
use Rattle.upload_service.specs.Alone.{Life, Unborn, Open, Gone, life_of, life_with}
use Rattle.upload_service.specs.Alone.{alone_answer, alone_after, lacks_memory, told}
use Rattle.upload_service.specs.Alone.{IsToldAsAlone}
use Rattle.upload_service.specs.Headline.{Aim, aim_of, IsAwake, IsOrderly}
use Rattle.upload_service.specs.RuledOut.{IsBorn, HeadlineRulesOut}
use Rattle.upload_service.proofs.UploadView.{carried}
use Rattle.upload_service.proofs.Keeping.Tables.{get-insert_same}
use Rattle.upload_service.proofs.Steps.{None≢Some, outcome_of_view, turn_fits}
use Rattle.upload_service.proofs.Effects.{FitsChange}
use Rattle.upload_service.proofs.Alone.{told_other, told_none, told_own, SoFar}

overlap : (start : State) (front : List Exchange) (before : State) (x : Exchange) (after : State)
    → IsOrderly start front before x after → (aim : Aim)
    → aim_of x.ask ≡ Some aim → IsAwake before x.now aim.name aim.at → aim.first < length (received start front aim.at)
    → is_taken x.answer ≡ false
overlap start front before x after orderly aim e awake lt = search (rules, arith)

-- ---- what a request to a session is never answered

-- what doesn't ask to begin a session isn't answered that one was begun
quiet_turn : (s : State) (ask : Ask) (secret : List ℕ) (now : ℕ) (at : List ℕ) → opened_under (upload_view ask) ≡ None
    → begins at (answer_of (outcome s ask secret now)) ≡ false
quiet_turn s ask secret now at none = search (rules, arith, turn_fits, FitsChange, None≢Some)

quiet_alone : (at : List ℕ) (limits : Limits) (life : Life) (ask : Ask) (now : ℕ) → IsBorn life
    → begins at (alone_answer limits at life ask now) ≡ false
quiet_alone at limits life ask now h = search (rules, arith, outcome_of_view, get-insert_same, quiet_turn)

born_with : (session : Session) (now : ℕ) (change : SessionChange) → IsBorn (life_with session now change)
born_with session now change = search (rules, arith)

stays_born : (at : List ℕ) (limits : Limits) (life : Life) (ask : Ask) (now : ℕ) → IsBorn life
    → IsBorn (alone_after limits life ask now)
stays_born at limits life ask now h = search (rules, arith, born_with)

-- ---- over a list

or_false : (a b : Bool) → (a || b) ≡ false → b ≡ false
or_false true b e = absurd (true≢false e)
or_false false b e = e

or_false_left : (a b : Bool) → (a || b) ≡ false → a ≡ false
or_false_left true b e = absurd (true≢false e)
or_false_left false b e = refl

or_from_right : (a b : Bool) → (a || b) ≡ true → b ≡ false → a ≡ true
or_from_right true b e n = refl
or_from_right false b e n = absurd (true≢false (sym e ∙ n))

lacking_is : (answer : Answer) → lacks_memory answer ≡ true → answer ≡ answers.NoMemory
lacking_is answers.NoMemory e = refl
lacking_is other e = absurd (true≢false (sym e))

lacking : (answer : Answer) (at : List ℕ) → lacks_memory answer ≡ true → begins at answer ≡ false
lacking answer at e = ap (begins at) (lacking_is answer e)

-- a list comes apart at its first exchange
record Parted (limits : Limits) (at : List ℕ) (life : Life) (x : Exchange) (xs : List Exchange) : Type 0 where
  pub first : x.answer ≡ alone_answer limits at life x.ask x.now
  pub later : SoFar limits at (alone_after limits life x.ask x.now) xs

skip : (limits : Limits) (at : List ℕ) (life : Life) (x : Exchange) (xs : List Exchange) → told (x ∷ xs) at ≡ told xs at
    → SoFar limits at life (x ∷ xs) → SoFar limits at life xs
skip limits at life x xs e h = cc

parted : (limits : Limits) (at : List ℕ) (life : Life) (x : Exchange) (xs : List Exchange)
    → told (x ∷ xs) at ≡ x ∷ told xs at → SoFar limits at life (x ∷ xs) → Parted limits at life x xs
parted limits at life x xs e h = search (rules, arith, list_map)

again_from : (limits : Limits) (at : List ℕ) (xs : List Exchange) (life : Life) → IsBorn life → SoFar limits at life xs
    → All (λ x. begins at x.answer ≡ false) xs
again_from limits at [] life born h = All-nil (λ y. begins at y.answer ≡ false)
again_from limits at (x ∷ xs) life born h =
    elim (lacks_memory x.answer) as (λ b. lacks_memory x.answer ≡ b → All (λ y. begins at y.answer ≡ false) (x ∷ xs)) [
      | true ↦ λ m. All-cons (λ y. begins at y.answer ≡ false) x xs (lacking x.answer at m)
          (again_from limits at xs life born (skip limits at life x xs (told_none x xs at m) h))
      | false ↦ λ m. elim (is_part at x) as (λ b. is_part at x ≡ b → All (λ y. begins at y.answer ≡ false) (x ∷ xs)) [
        | true ↦ λ p.
            let apart = parted limits at life x xs (told_own x xs at p m) h in
            All-cons (λ y. begins at y.answer ≡ false) x xs
            (ap (begins at) apart.first ∙ quiet_alone at limits life x.ask x.now born)
            (again_from limits at xs _ (stays_born at limits life x.ask x.now born) apart.later)
        | false ↦
            λ p. All-cons (λ y. begins at y.answer ≡ false) x xs (or_false (carries at x.ask) (begins at x.answer) p)
            (again_from limits at xs life born (skip limits at life x xs (told_other x xs at p) h))
      ] refl
    ] refl

-- a session that isn't there
abbrev IsAbsent : Life → Type 0
IsAbsent Unborn = Unit {0}
IsAbsent (Open session) = ⊥
IsAbsent Gone = Unit {0}

absent_answer : (at : List ℕ) (limits : Limits) (life : Life) (ask : Ask) (now : ℕ) → IsAbsent life → carries at ask
    ≡ true → alone_answer limits at life ask now ≡ answers.Refused refusals.NoUpload
absent_answer at limits life ask now h = search (rules, arith, carried)

absent_after : (at : List ℕ) (limits : Limits) (life : Life) (ask : Ask) (now : ℕ) → IsAbsent life
    → carries at ask ≡ true → IsAbsent (alone_after limits life ask now)
absent_after at limits life ask now h = search (rules, arith, carried)

abbrev GetsNothing : List ℕ → Exchange → Type 0
GetsNothing at x =
    carries at x.ask ≡ true → (x.answer ≡ answers.Refused refusals.NoUpload) ⊎ (x.answer ≡ answers.NoMemory)

stranger_from : (limits : Limits) (at : List ℕ) (xs : List Exchange) (life : Life) → IsAbsent life
    → All (λ x. begins at x.answer ≡ false) xs → SoFar limits at life xs → All (GetsNothing at) xs
stranger_from limits at [] life none quiet h = All-nil (GetsNothing at)
stranger_from limits at (x ∷ xs) life none quiet h =
    let rest : All (λ y. begins at y.answer ≡ false) xs = All-tail (λ y. begins at y.answer ≡ false) x xs quiet in
    elim (lacks_memory x.answer) as (λ b. lacks_memory x.answer ≡ b → All (GetsNothing at) (x ∷ xs)) [
      | true ↦ λ m. All-cons (GetsNothing at) x xs (λ c. inr (lacking_is x.answer m))
          (stranger_from limits at xs life none rest (skip limits at life x xs (told_none x xs at m) h))
      | false ↦ λ m. elim (is_part at x) as (λ b. is_part at x ≡ b → All (GetsNothing at) (x ∷ xs)) [
        | true ↦ λ p.
            let apart = parted limits at life x xs (told_own x xs at p m) h in
            let c : carries at x.ask ≡ true =
            or_from_right (carries at x.ask) (begins at x.answer) p
            (All-head (λ y. begins at y.answer ≡ false) x xs quiet) in
            All-cons (GetsNothing at) x xs (λ _. inl (apart.first ∙ absent_answer at limits life x.ask x.now none c))
            (stranger_from limits at xs _ (absent_after at limits life x.ask x.now none c) rest apart.later)
        | false ↦ λ p. All-cons (GetsNothing at) x xs
            (λ c. absurd (true≢false (sym c ∙ or_false_left (carries at x.ask) (begins at x.answer) p)))
            (stranger_from limits at xs life none rest (skip limits at life x xs (told_other x xs at p) h))
      ] refl
    ] refl

absent_at_start : (o : Option Session) (b : Bool) → o ≡ None → IsAbsent (life_of o b)
absent_at_start o b h = search (rules, arith)

-- an exchange that was answered NoMemory isn't told
told-skip : (front : List Exchange) (x : Exchange) (rest : List Exchange) (at : List ℕ) → lacks_memory x.answer ≡ true
    → told (front ++ x ∷ rest) at ≡ told (front ++ rest) at
told-skip [] x rest at m = told_none x rest at m
told-skip (y ∷ ys) x rest at m =
    elim (is_part at y) as (λ b.
    filter (λ z. not (lacks_memory z.answer)) (cond b (y ∷ part (ys ++ x ∷ rest) at) (part (ys ++ x ∷ rest) at))
    ≡ filter (λ z. not (lacks_memory z.answer)) (cond b (y ∷ part (ys ++ rest) at) (part (ys ++ rest) at))) [
      | true ↦ ap (λ zs. cond (not (lacks_memory y.answer)) (y ∷ zs) zs) (told-skip ys x rest at m)
      | false ↦ told-skip ys x rest at m
    ]

trace : (start : State) (front : List Exchange) (x : Exchange) (rest : List Exchange) (at : List ℕ)
    → x.answer ≡ answers.NoMemory → IsToldAsAlone start (front ++ x ∷ rest) at → IsToldAsAlone start (front ++ rest) at
trace start front x rest at e h = search (rules, arith, list_map, told-skip)

pub headline_rules_out : HeadlineRulesOut
headline_rules_out = search (rules, arith, overlap, stranger_from, absent_at_start, again_from, trace)
