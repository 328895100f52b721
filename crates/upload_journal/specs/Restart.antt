-- A restart runs only the exchanges that changed something, and begins at a moment that none of the others was after.
use Rattle.std.specs.Prelude.{◌≡◌, ℕ, ◌≤◌, Bool, List, [], ◌∷◌, ◌++◌, filter, is_some, None}
use Rattle.upload_service.specs.declared.ask.Ask.{Ask}
use Rattle.upload_service.specs.declared.answer.Answer.{Answer}
use Rattle.upload_service.specs.Machine.{State, Turn, IsLawful}
use Rattle.upload_service.specs.Run.{Exchange, Run, NeverBefore, NeverFall}
use Rattle.upload_service.specs.Headline.{Headline}
use Rattle.upload_journal.specs.declared.body.BodyFile.{BodyFile}
use Rattle.upload_journal.specs.Short.{told_of, kept_of}

-- an exchange that changed something, by its answer
abbrev pub changes : Exchange → Bool
changes x = is_some (told_of x.answer)

abbrev pub changes_of : List Exchange → List Exchange
changes_of xs = filter changes xs

-- no moment of the list is after this one
abbrev pub NeverAfter : ℕ → List Exchange → Type 0
NeverAfter moment [] = Unit {0}
NeverAfter moment (x ∷ xs) = (x.now ≤ moment) × NeverAfter moment xs

pub record ChangesAreEnough : Type 0 where
  -- an answer that isn't kept leaves the state as it was
  pub unchanged : (old : State) (ask : Ask) (secret : List ℕ) (now : ℕ) (answer : Answer) (new : State)
      → Turn old ask secret now answer new → told_of answer ≡ None → new ≡ old
  -- and a request that isn't kept gets none other
  pub unkept : (old : State) (ask : Ask) (files : List BodyFile) (secret : List ℕ) (now : ℕ) (answer : Answer)
      (new : State) → kept_of ask files ≡ None → Turn old ask secret now answer new → told_of answer ≡ None
  -- the others lead to the same state
  pub same_state : (old : State) (xs : List Exchange) (new : State) → Run old xs new → Run old (changes_of xs) new
  -- and to no other
  pub only : (old : State) (xs : List Exchange) (new other : State) → Run old xs new → Run old (changes_of xs) other
      → other ≡ new
  -- at moments that don't fall either
  pub moments : (moment : ℕ) (xs : List Exchange) → NeverBefore moment xs → NeverBefore moment (changes_of xs)
  -- So the headline holds of all exchanges, over a restart that ran only those that changed something, if it begins at
  -- a moment that none of them was after: at the last change's, an upload that was found idle since could be open.
  pub over_a_restart : (old : State) (xs : List Exchange) (mid again : State) (moment : ℕ) (ys : List Exchange)
      (new : State) → IsLawful old → NeverFall xs → Run old xs mid → Run old (changes_of xs) again
      → NeverAfter moment xs → NeverBefore moment ys → Run again ys new → Headline old (xs ++ ys) new
