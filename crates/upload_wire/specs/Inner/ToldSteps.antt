-- What the observer is told by the parts of a served connection.
use Rattle.std.specs.Prelude.{◌≡◌, ℕ, List, [], ◌∷◌, ◌++◌, Result, Ok, Err}
use Rattle.http_wire.specs.States.{InputState}
use Rattle.http_wire.specs.declared.fault.WireFault.{WireFault}
use Rattle.upload_wire.specs.Events.{Event, Telling, Hears}
use Rattle.upload_wire.specs.Told.{TellsHead, TellsLine, TellsExchange, TellsCut, TellsEnd, Rules}
use Rattle.upload_wire.specs.RequestText.{ReadsNext}
use Rattle.upload_wire.specs.Conversation.{connection, stand}
use Rattle.upload_wire.specs.Inner.ConversationSteps.{Progress, GoesOn, Stops}
use Rattle.upload_wire.specs.declared.request.Next.{Next}
use Rattle.upload_wire.specs.declared.request.Next.TheVariants.{Request, Over}
use Rattle.upload_wire.specs.declared.request.Next.TheVariants as nexts
use Rattle.upload_wire.specs.declared.connection.ConnEnd.{ConnEnd}

-- ---- reading

-- what is read, and the observer
pub record Listening (O : Type 0) : Type 0 where
  pub input : InputState
  pub observer : O

abbrev pub listening : {O : Type 0} → InputState → O → Listening O
listening input observer = record { input = input; observer = observer }

-- what is told of what was found in the text
abbrev pub TellsNext : List ℕ → Result Next WireFault → List Event → Type 0
TellsNext text (Ok (Request ask style)) events = TellsLine text events
TellsNext text (Ok Over) events = events ≡ []
TellsNext text (Ok (nexts.Bad why)) events = (head : Event) × TellsHead text head × (events ≡ head ∷ [])
TellsNext text (Err fault) events = TellsCut text events

-- what came next was read, and its head was told
pub record ReadsTold {O : Type 0} (telling : Telling O) (max_body : ℕ) (old new : Listening O)
    (r : Result Next WireFault) : Type 0 where
  pub next : ReadsNext max_body old.input new.input r
  pub events : List Event
  pub tells : TellsNext (old.input.held ++ next.given) r events
  pub told : Hears telling old.observer events new.observer

-- ---- serving

-- how far a server is with a connection, and the connection's observer
pub record Observed (D O : Type 0) : Type 0 where
  pub progress : Progress D
  pub observer : O

abbrev pub observed : {D O : Type 0} → Progress D → O → Observed D O
observed progress observer = record { progress = progress; observer = observer }

-- the connection goes on behind a request that was told with its reply
pub record GoesOnTold {D O : Type 0} (r : Rules D O) (old new : Observed D O) : Type 0 where
  pub goes_on : GoesOn r.moves r.max_body old.progress new.progress
  pub events : List Event
  pub tells : TellsExchange goes_on.exchange events
  pub told : Hears r.told old.observer events new.observer

-- what ended the connection was told
pub record StopsTold {D O : Type 0} (r : Rules D O) (old new : Observed D O) (end : ConnEnd) : Type 0 where
  pub stops : Stops r.moves r.max_body old.progress new.progress end
  pub events : List Event
  pub tells : TellsEnd (record {
    moves = r.moves;
    max_body = r.max_body;
    stood =
        stand old.progress.answered (old.progress.held ++ stops.given) old.progress.desk old.progress.sink;
    left = connection new.progress.source new.progress.desk new.progress.sink;
  }) end stops.ended events
  pub told : Hears r.told old.observer events new.observer
