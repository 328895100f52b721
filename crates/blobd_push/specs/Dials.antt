-- The connections that a push makes and gives back, and what it hears over them.
use Rattle.std.specs.Prelude.{◌≡◌, ◌⊎◌, ℕ, List, [], ◌∷◌, ◌++◌, Option, Some, None, if◌then◌else◌}
use Rattle.upload_service.specs.declared.ask.Ask.{Ask}
use Rattle.upload_client.specs.declared.heard.Heard.{Heard}
use Rattle.upload_client.specs.TransportText.{WireState, AsksOverWire, stays_open}
use Rattle.upload_push.specs.Dialed.{AsksDialed, IsNew}
use Rattle.upload_push.specs.Slices.{Attempt, Leads}
use Rattle.blobd_shared.specs.Connections.{ConnEvent, transcript_of}
use Rattle.blobd_shared.specs.Connections.ConnEvent.{made, given_back}

-- between two asks: the connection that is kept, and what happened so far
pub record Dialing : Type 0 where
  pub kept : Option WireState
  pub history : List ConnEvent

-- the same of a dialer, whose connections tell this history
abbrev pub dialing_of : {D : Type 0} → (D → List ConnEvent) → Option WireState → D → Dialing
dialing_of history kept dials = record { kept = kept; history = history dials }

-- no connection is kept yet
abbrev pub dialing : List ConnEvent → Dialing
dialing history = record { kept = None; history = history }

-- this connection was given back
abbrev pub with_back : List ConnEvent → WireState → List ConnEvent
with_back history wire = history ++ given_back (transcript_of wire.reader.input.source) wire.writer.taken ∷ []

-- a connection is kept if more can be asked over it, and is given back if not
abbrev pub behind_ask : List ConnEvent → WireState → Dialing
behind_ask history wire =
    if stays_open wire then record { kept = Some wire; history = history } else dialing (with_back history wire)

-- what happened once the connection that is kept, if any, is given back too
abbrev pub with_kept_back : List ConnEvent → Option WireState → List ConnEvent
with_kept_back history (Some wire) = with_back history wire
with_kept_back history None = history

abbrev pub history_at_end : Dialing → List ConnEvent
history_at_end state = with_kept_back state.history state.kept

-- The connection for one ask, and what happened up to then: the one that was kept, or else one that was made just now.
abbrev pub Gets : List ℕ → Option WireState → List ConnEvent → WireState → List ConnEvent → Type 0
Gets host (Some kept) before wire behind = (wire ≡ kept) × (behind ≡ before)
Gets host None before wire behind = IsNew host wire × (behind ≡ before ++ made ∷ [])

-- There is no connection for an ask: none was made, or there was no memory to use one, which was given back unused.
abbrev pub GetsNone : List ℕ → Option WireState → List ConnEvent → List ConnEvent → Type 0
GetsNone host (Some kept) before behind = ⊥
GetsNone host None before behind =
    (behind ≡ before)
    ⊎ ((wire : WireState) × IsNew host wire × (behind ≡ with_back (before ++ made ∷ []) wire))

-- One ask of a push: this was heard over its connection; if there is none, nothing was heard.
abbrev pub AsksIn : List ℕ → Dialing → Ask → Option Heard → Dialing → Type 0
AsksIn host before ask heard behind =
    ((wire new : WireState) × (history : List ConnEvent) × Gets host before.kept before.history wire history
    × AsksOverWire wire ask heard new × (behind ≡ behind_ask history new))
    ⊎ (GetsNone host before.kept before.history behind.history × (heard ≡ None) × (behind.kept ≡ None))

-- Such requests, one after the other, are asked over connections as `upload_push` has them.
abbrev pub AsksAreDialed : Type 0
AsksAreDialed =
    (host : List ℕ) (before behind : Dialing) (log : List Attempt) → Leads (AsksIn host) before log behind
    → Leads (AsksDialed host) before.kept log behind.kept
