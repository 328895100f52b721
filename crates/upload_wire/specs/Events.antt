-- What an observer of a connection is told.
use Rattle.std.specs.Prelude.{◌≡◌, ℕ, List, [], ◌∷◌, Option, Some, None}
use Rattle.upload_wire.specs.declared.observer.RequestLine.{RequestLine}

-- A head came, with this method and this target; what came has no head that can be read; or a reply was written, or
-- begun, with this status and so many bytes of body.
pub data Event : Type 0 where
  Head : List ℕ → List ℕ → Event
  Unreadable : Event
  Replied : ℕ → ℕ → Event

-- the event of a head, by its line
abbrev pub head_event : Option RequestLine → Event
head_event (Some line) = Head line.method.now line.target.now
head_event None = Unreadable

-- how an observer takes what it is told: its state, the event, and its new state
abbrev pub Telling : Type 0 → Type 1
Telling O = O → Event → O → Type 0

-- it was told of these events, one after another, and of nothing else
abbrev pub Hears : {O : Type 0} → Telling O → O → List Event → O → Type 0
Hears told old [] new = new ≡ old
Hears {O} told old (event ∷ events) new = (mid : O) × told old event mid × Hears told mid events new
