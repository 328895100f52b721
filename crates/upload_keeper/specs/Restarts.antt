-- WHAT A RESTART HAS: it serves again what is kept, and so has every answer that anybody heard.
use Rattle.std.specs.Prelude.{◌≡◌, ◌≢◌, ◌≤◌, ℕ, true, List, ◌∷◌, ◌++◌, map}
use Rattle.std.specs.List.{AllByRecursion}
use Rattle.upload_service.specs.declared.answer.Answer.{Answer}
use Rattle.upload_service.specs.declared.answer.Answer.TheVariants.{NoMemory}
use Rattle.upload_service.specs.Machine.{State, Turn}
use Rattle.upload_service.specs.Run.{Exchange, Run}
use Rattle.upload_keeper.specs.Safety.{Asked, asked, changes, MayBeHeard}

-- an exchange but for its answer
abbrev pub asked_of : Exchange → Asked
asked_of x = asked x.ask x.secret x.now

-- no answer was out of memory
abbrev pub AreRemembered : List Exchange → Type 0
AreRemembered xs = AllByRecursion (λ (x : Exchange). x.answer ≢ NoMemory) xs

-- A restart that served these exchanges from this service, and came to that one, has an answer that was heard. It was
-- given by the service as the first of these exchanges left it, at a moment that is not after this one. If it tells of
-- a change, the next exchange is that change.
pub record HasAnswer (start : State) (served : List Exchange) (service : State) (upto : ℕ) (answer : Answer)
    : Type 0 where
  pub before : List Exchange
  pub after : List Exchange
  pub all : served ≡ before ++ after
  pub mid : State
  pub run : Run start before mid
  pub on : Run mid after service
  pub x : Exchange
  pub left : State
  pub turn : Turn mid x.ask x.secret x.now x.answer left
  pub answer_is : x.answer ≡ answer
  pub by : x.now ≤ upto
  pub change : changes answer ≡ true → (rest : List Exchange) × (after ≡ x ∷ rest)

-- If an answer may be heard, a restart has it that serves what is kept again: the same requests in the same order, with
-- the same secrets and at the same moments, if memory isn't out. It gives the same answers.
abbrev pub ToldIsKept : Type 0
ToldIsKept =
    (start : State) (kept : List Exchange) (upto : ℕ) (answer : Answer) → MayBeHeard start kept upto answer
    → (served : List Exchange) (service : State) → Run start served service
    → map asked_of served ≡ map asked_of kept → AreRemembered served
    → (served ≡ kept) × HasAnswer start served service upto answer
