-- A service behind a network that loses requests and replies, beside other clients: what one request may come to.
use Rattle.std.specs.Prelude.{◌≡◌, ℕ, ◌+◌, ◌-◌, ◌<◌, ◌^◌, min, List, [], ◌∷◌, length, Option, Some, None, ◌⊎◌}
use Rattle.std.specs.List.{All}
use Rattle.upload_service.specs.Machine.{State, Turn, IsLawful}
use Rattle.upload_service.specs.declared.ask.Ask.{Ask}
use Rattle.upload_service.specs.declared.answer.Answer.{Answer}
use Rattle.upload_client.specs.Heard.{reply_heard}
use Rattle.upload_client.specs.declared.heard.Heard.{Heard}
use Rattle.upload_push.specs.declared.world.Event.{Event}
use Rattle.upload_push.specs.declared.world.Event.TheVariants.{Delivered, ReplyLost, NotDelivered, Other, Passes}
use Rattle.upload_push.specs.declared.world.Fate.{Fate}
use Rattle.upload_push.specs.declared.world.Fate.TheVariants as fates

-- the service, the secret and the moment of its turns, and what becomes of the requests to come
pub record World : Type 0 where
  pub service : State
  pub secret : List ℕ
  pub now : ℕ
  pub events : List Event

abbrev pub world_of : State → List ℕ → ℕ → List Event → World
world_of service secret now events = record { service = service; secret = secret; now = now; events = events }

-- the last moment, at which time stands still
abbrev pub end_of_time : ℕ
end_of_time = 2 ^ 64 - 1

abbrev pub moment_after : ℕ → ℕ → ℕ
moment_after now seconds = min (now + seconds) end_of_time

-- the same world, with this service and these events to come
abbrev pub world_with : World → State → List Event → World
world_with w service events = record { service = service; secret = w.secret; now = w.now; events = events }

-- the same world at a later moment
abbrev pub world_later : World → ℕ → List Event → World
world_later w seconds events =
    record { service = w.service; secret = w.secret; now = moment_after w.now seconds; events = events }

-- a reply is heard as what it says, or, if memory is out, not at all
abbrev pub Reaches : Answer → Option Heard → Type 0
Reaches answer heard = (heard ≡ Some (reply_heard answer)) ⊎ (heard ≡ None)

-- the request is a turn of the service, and its reply comes back
abbrev pub IsDelivered : World → List Event → Ask → Option Heard → World → Type 0
IsDelivered w events ask heard new =
    (answer : Answer) × (mid : State) × Turn w.service ask w.secret w.now answer mid × Reaches answer heard
    × (new ≡ world_with w mid events)

-- the request is a turn of the service, and nothing is heard of it
abbrev pub IsReplyLost : World → List Event → Ask → Option Heard → World → Type 0
IsReplyLost w events ask heard new =
    (answer : Answer) × (mid : State) × Turn w.service ask w.secret w.now answer mid × (heard ≡ None)
    × (new ≡ world_with w mid events)

-- One request, by the events to come. Another client's request in front of it is a turn of its own, and time may pass
-- in front of it; then it is delivered, or its reply is lost, or it is lost itself. With no event left it is delivered.
abbrev pub AskedBy : World → List Event → Ask → Option Heard → World → Type 0
AskedBy w (Other other ∷ events) ask heard new =
    (answer : Answer) × (mid : State) × Turn w.service other w.secret w.now answer mid
    × AskedBy (world_with w mid events) events ask heard new
AskedBy w (Passes seconds ∷ events) ask heard new = AskedBy (world_later w seconds events) events ask heard new
AskedBy w (Delivered ∷ events) ask heard new = IsDelivered w events ask heard new
AskedBy w (ReplyLost ∷ events) ask heard new = IsReplyLost w events ask heard new
AskedBy w (NotDelivered ∷ events) ask heard new = (heard ≡ None) × (new ≡ world_with w w.service events)
AskedBy w [] ask heard new = IsDelivered w [] ask heard new

-- One request in the world.
abbrev pub Asked : World → Ask → Option Heard → World → Type 0
Asked w ask heard new = AskedBy w w.events ask heard new

-- what becomes of a request, if nothing stands in front of it any more
abbrev pub Meets : Fate → World → Ask → Option Heard → World → Type 0
Meets fates.Delivered w ask heard new = IsDelivered w w.events ask heard new
Meets fates.ReplyLost w ask heard new = IsReplyLost w w.events ask heard new
Meets fates.NotDelivered w ask heard new = (heard ≡ None) × (new ≡ w)

-- twelve bytes
pub record IsSecret (secret : List ℕ) : Type 0 where
  pub twelve : length secret ≡ 12
  pub bytes : All (λ b. b < 256) secret

-- a lawful service, and a secret of twelve bytes
pub record IsLawfulWorld (w : World) : Type 0 where
  pub service : IsLawful w.service
  pub secret : IsSecret w.secret
