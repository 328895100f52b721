-- What changed nothing can be left out of a run.
use Rattle.std.proofs.Common.{◌≡◌, ℕ, ◌≤◌, true, false, List, [], ◌∷◌, rules}
use Rattle.std.proofs.Common.{refl, subst, arith}
use Rattle.upload_service.specs.declared.ask.Ask.{Ask}
use Rattle.upload_service.specs.declared.answer.Answer.{Answer}
use Rattle.upload_service.specs.Machine.{State, Outcome, Turn, Comes, outcome}
use Rattle.upload_service.specs.Run.{Exchange, Run, NeverBefore}
use Rattle.upload_keeper.specs.Log.{last_moment}
use Rattle.upload_keeper.specs.Safety.{changes, changed}
use Rattle.upload_keeper.proofs.LineMoves.{is_either}

-- an answer that tells of no change leaves the service as it was
comes_still : (old : State) (now : ℕ) (o : Outcome) (answer : Answer) (new : State) → Comes old now o answer new
    → changes answer ≡ false → new ≡ old
comes_still old now o answer new c e = search (rules, arith)

pub turn_still : (old : State) (ask : Ask) (secret : List ℕ) (now : ℕ) (answer : Answer) (new : State)
    → Turn old ask secret now answer new → changes answer ≡ false → new ≡ old
unfolding Turn
turn_still old ask secret now answer new t e = comes_still old now (outcome old ask secret now) answer new t e

-- by whether the first exchange changed something
pub by_first : (P : List Exchange → Type 0) (x : Exchange) (xs : List Exchange)
    → (changes x.answer ≡ true → P (x ∷ changed xs)) → (changes x.answer ≡ false → P (changed xs))
    → P (changed (x ∷ xs))
by_first P x xs some none = search (rules, arith, is_either)

pub leaves_out : (old : State) (xs : List Exchange) (new : State) → Run old xs new → Run old (changed xs) new
leaves_out old [] new r = r
leaves_out old (x ∷ xs) new r =
    let rest = leaves_out r.0 xs new r.2 in
    by_first (λ ys. Run old ys new) x xs (λ some. (r.0, r.1, rest))
    (λ none. subst (λ s. Run s (changed xs) new) (turn_still old x.ask x.secret x.now x.answer r.0 r.1 none) rest)

pub changed_twice : (xs : List Exchange) → changed (changed xs) ≡ changed xs
changed_twice [] = refl
changed_twice (x ∷ xs) = search (rules, arith, by_first, changed_twice xs)

-- an earlier moment before the first exchange
sooner : (a b : ℕ) (xs : List Exchange) → a ≤ b → NeverBefore b xs → NeverBefore a xs
sooner a b [] le h = tt
sooner a b (x ∷ xs) le h = (omega (arith, h.0), h.1)

pub last_moment-from : (a b : ℕ) (xs : List Exchange) → a ≤ b → last_moment a xs ≤ last_moment b xs
last_moment-from a b [] le = le
last_moment-from a b (x ∷ xs) le = omega arith

pub moments_of_changes : (moment : ℕ) (xs : List Exchange) → NeverBefore moment xs
    → NeverBefore moment (changed xs) × (last_moment moment (changed xs) ≤ last_moment moment xs)
moments_of_changes moment [] h = (tt, omega arith)
moments_of_changes moment (x ∷ xs) h =
    search (rules, arith, by_first, sooner, last_moment-from, moments_of_changes x.now xs h.1)
