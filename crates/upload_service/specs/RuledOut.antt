-- What the headline rules out, shown from its claims alone.
use Rattle.std.specs.Prelude.{◌≡◌, ℕ, ◌<◌, true, false, List, ◌∷◌, ◌++◌, length, Some, None, All, ◌⊎◌}
use Rattle.std.specs.FinMap as map
use Rattle.upload_service.specs.declared.answer.Refusal.TheVariants as refusals
use Rattle.upload_service.specs.declared.answer.Answer.TheVariants as answers
use Rattle.upload_service.specs.Machine.{State}
use Rattle.upload_service.specs.Run.{Exchange}
use Rattle.upload_service.specs.Session.{carries, begins, is_taken, received}
use Rattle.upload_service.specs.Alone.{Life, Unborn, Open, Gone, life_in, IsToldAsAlone}
use Rattle.upload_service.specs.Headline.{Aim, aim_of, IsAwake, IsOrderly}

-- a session that is open, or whose number was given out
abbrev pub IsBorn : Life → Type 0
IsBorn Unborn = ⊥
IsBorn (Open session) = Unit {0}
IsBorn Gone = Unit {0}

pub record HeadlineRulesOut : Type 0 where
  -- a chunk that overlaps the received bytes isn't taken
  pub overlap : (start : State) (front : List Exchange) (before : State) (x : Exchange) (after : State)
      → IsOrderly start front before x after → (aim : Aim) → aim_of x.ask ≡ Some aim
      → IsAwake before x.now aim.name aim.at → aim.first < length (received start front aim.at)
      → is_taken x.answer ≡ false
  -- a reference that no answer began, as one of a number that was given out with another secret, gets nothing
  pub stranger : (start : State) (xs : List Exchange) (at : List ℕ) → IsToldAsAlone start xs at
      → map.get start.sessions at ≡ None → All (λ x. begins at x.answer ≡ false) xs
      → All (λ x. carries at x.ask ≡ true
      → (x.answer ≡ answers.Refused refusals.NoUpload) ⊎ (x.answer ≡ answers.NoMemory)) xs
  -- a reference that is open, or whose number was given out, isn't begun again
  pub again : (start : State) (xs : List Exchange) (at : List ℕ) → IsToldAsAlone start xs at
      → IsBorn (life_in start at) → All (λ x. begins at x.answer ≡ false) xs
  -- a request that was answered NoMemory leaves no trace: the replies around it are those of the list without it
  pub trace : (start : State) (front : List Exchange) (x : Exchange) (rest : List Exchange) (at : List ℕ)
      → x.answer ≡ answers.NoMemory → IsToldAsAlone start (front ++ x ∷ rest) at
      → IsToldAsAlone start (front ++ rest) at
