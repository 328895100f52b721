-- Whose requests the steps of a pool are.
use Rattle.std.specs.Prelude.{◌≡◌, ℕ, List, [], ◌∷◌, ◌++◌, map, Option, Some, None, ⊤}
use Rattle.upload_service.specs.Run as served
use Rattle.upload_service.specs.declared.ask.Ask.{Ask}
use Rattle.upload_client.specs.declared.heard.Heard.{Heard}
use Rattle.upload_keeper.specs.Log.{Step}
use Rattle.upload_push.specs.Promise.{Avoids}
use Rattle.upload_push.specs.Runs.{IsHeardOf}
use Rattle.upload_push.specs.Slices.{Push, Attempt, IsSoundAsk, place_after}

-- a request of another client, or one of a push of which this was heard, or of which nothing was
pub data Mark : Type 0 where
  other : Mark
  heard : Ask → Heard → Mark
  unheard : Ask → Mark

abbrev pub mark_of : Ask → Option Heard → Mark
mark_of ask None = unheard ask
mark_of ask (Some what) = heard ask what

-- a step with its mark
abbrev pub Marked : Type 0
Marked = Step × Mark

abbrev pub steps_in : List Marked → List Step
steps_in ms = map (λ (m : Marked). m.0) ms

abbrev pub exchanges_in : List Marked → List served.Exchange
exchanges_in ms = map (λ (m : Marked). m.0.exchange) ms

-- ---- order

abbrev pub asked_and_told : Ask → Option Heard → List (Ask × Heard)
asked_and_told ask None = []
asked_and_told ask (Some what) = (ask, what) ∷ []

-- what was heard of these steps, in their order
abbrev pub heard_in : List Marked → List (Ask × Heard)
heard_in [] = []
heard_in ((step, other) ∷ ms) = heard_in ms
heard_in ((step, heard ask what) ∷ ms) = (ask, what) ∷ heard_in ms
heard_in ((step, unheard ask) ∷ ms) = heard_in ms

-- what a push heard, in the order in which it asked; a push's list has the newest first
abbrev pub heard_by : List Attempt → List (Ask × Heard)
heard_by [] = []
heard_by (e ∷ log) = heard_by log ++ asked_and_told e.ask e.heard

-- ---- what a mark says of its step

abbrev pub Agrees : Marked → Type 0
Agrees (step, other) = ⊤
Agrees (step, heard ask what) = (step.exchange.ask ≡ ask) × IsHeardOf step.exchange.answer (Some what)
Agrees (step, unheard ask) = step.exchange.ask ≡ ask

-- the request is sound behind some of the requests of a push
abbrev pub IsOwn : Push → Ask → Type 0
IsOwn p ask = (log : List Attempt) × IsSoundAsk p log ask

-- one that is said to be the push's is one of its requests
abbrev pub IsFair : Push → Marked → Type 0
IsFair p (step, other) = ⊤
IsFair p (step, heard ask what) = IsOwn p ask
IsFair p (step, unheard ask) = IsOwn p ask

-- The premise on other clients: from the opening on whose reply the push heard, and up to the last reply that it heard,
-- none of their requests carries the reference that the push has heard by then.
abbrev pub AreApart : List ℕ → Option (List ℕ) → List Marked → Type 0
AreApart name place [] = ⊤
AreApart name place ((step, other) ∷ ms) =
    (¬ (heard_in ms ≡ []) → Avoids place step.exchange.ask) × AreApart name place ms
AreApart name place ((step, heard ask what) ∷ ms) = AreApart name (place_after name (Some what) place) ms
AreApart name place ((step, unheard ask) ∷ ms) = AreApart name place ms
