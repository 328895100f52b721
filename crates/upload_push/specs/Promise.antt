-- What the end of a push is worth, over a world that loses, beside other clients.
use Rattle.std.specs.Prelude.{Result, Ok, ◌≡◌, ℕ, false, List, [], ◌∷◌, Option, Some, None, IsTrue}
use Rattle.std.specs.FinMap as map
use Rattle.upload_names.specs.Digest.{HasDigest}
use Rattle.upload_service.specs.Machine.{State, holds}
use Rattle.upload_service.specs.Session.{carries}
use Rattle.upload_service.specs.declared.ask.Ask.{Ask}
use Rattle.upload_push.specs.Slices.{Push, IsLawfulPush, Attempt, heard_place, log_of, IsPush}
use Rattle.upload_push.specs.World.{World, Asked, IsLawfulWorld}
use Rattle.upload_client.specs.declared.heard.Heard.{Heard}
use Rattle.upload_push.specs.declared.pusher.Outcome.{Outcome}
use Rattle.upload_push.specs.declared.pusher.Outcome.TheVariants.{Pushed, Already}
use Rattle.upload_push.specs.declared.pushing.PushFault.{PushFault}
use Rattle.upload_push.specs.declared.world.Event.{Event}
use Rattle.upload_push.specs.declared.world.Event.TheVariants.{Other, Passes}

-- the other clients' requests that are served in front of the next request
abbrev pub others_in_front : List Event → List Ask
others_in_front (Other ask ∷ events) = ask ∷ others_in_front events
others_in_front (Passes seconds ∷ events) = others_in_front events
others_in_front events = []

-- the events that are left after one request
abbrev pub events_left : List Event → List Event
events_left (Other ask ∷ events) = events_left events
events_left (Passes seconds ∷ events) = events_left events
events_left (event ∷ events) = events
events_left [] = []

-- the events that are left after the requests of a push
abbrev pub events_after : List Event → List Attempt → List Event
events_after events [] = events
events_after events (e ∷ log) = events_left (events_after events log)

-- the request doesn't carry the reference, if there is one
abbrev pub Avoids : Option (List ℕ) → Ask → Type 0
Avoids None ask = Unit {0}
Avoids (Some at) ask = carries at ask ≡ false

abbrev pub AvoidAll : Option (List ℕ) → List Ask → Type 0
AvoidAll place [] = Unit {0}
AvoidAll place (ask ∷ asks) = Avoids place ask × AvoidAll place asks

-- The premise on other clients: from the opening on whose reply the pusher heard, no other client's request carries the
-- reference that the pusher has heard by then.
abbrev pub IsQuiet : List ℕ → List Event → List Attempt → Type 0
IsQuiet name events [] = Unit {0}
IsQuiet name events (e ∷ log) =
    AvoidAll (heard_place name log) (others_in_front (events_after events log)) × IsQuiet name events log

-- no event is another client's request
abbrev pub AreOwn : List Event → Type 0
AreOwn [] = Unit {0}
AreOwn (Other ask ∷ events) = ⊥
AreOwn (event ∷ events) = AreOwn events

-- if there is no other client, the premise holds
abbrev pub AloneIsQuiet : Type 0
AloneIsQuiet = (name : List ℕ) (events : List Event) (log : List Attempt) → AreOwn events → IsQuiet name events log

-- exactly the file stands under the digest, and the repository has it
pub record IsStored (p : Push) (s : State) : Type 0 where
  pub bytes : map.get s.blobs p.digest ≡ Some p.file
  pub pair : IsTrue (holds s p.name p.digest)

-- the repository has the digest, and the bytes that stand under it have that digest
pub record IsThere (p : Push) (s : State) : Type 0 where
  pub blob : List ℕ
  pub bytes : map.get s.blobs p.digest ≡ Some blob
  pub own_digest : HasDigest blob p.digest
  pub pair : IsTrue (holds s p.name p.digest)

-- what a push is worth, by its end
pub record IsWorth (p : Push) (heard : List (Option Heard)) (old new : World)
    (end : Result Outcome PushFault) : Type 0 where
  pub pushed : end ≡ Ok Pushed → IsQuiet p.name old.events (log_of p heard) → IsStored p new.service
  pub pushed_beside_others : end ≡ Ok Pushed → IsThere p new.service
  pub already : end ≡ Ok Already → IsThere p new.service
  pub lawful : IsLawfulWorld new

-- The promise of a push over a lossy world with any events.
abbrev pub PushPromise : Type 0
PushPromise = (p : Push) (old new : World) (end : Result Outcome PushFault) → IsLawfulPush p → IsLawfulWorld old
    → (run : IsPush Asked p old new end) → IsWorth p run.heard old new end
