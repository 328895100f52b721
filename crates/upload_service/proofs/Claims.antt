-- The headline's claims, one by one, as the lemmas prove them.
use Rattle.std.specs.Prelude.{◌≡◌, ◌≢◌, ℕ, Bool, true, false, List, [], ◌∷◌, ◌++◌, length, Option, Some, IsTrue}
use Rattle.std.specs.FinMap as map
use Rattle.upload_names.specs.Digest.{Digest}
use Rattle.upload_service.specs.declared.ask.Extent.{Extent}
use Rattle.upload_service.specs.declared.answer.Refusal.TheVariants as refusals
use Rattle.upload_service.specs.declared.ask.Ask.TheVariants as asks
use Rattle.upload_service.specs.declared.answer.Answer.TheVariants as answers
use Rattle.upload_service.specs.Machine.{State, Turn, IsLawful}
use Rattle.upload_service.specs.Run.{Exchange, Run, NeverFall}
use Rattle.upload_service.specs.Session.{carries, received, session_is_closed}
use Rattle.upload_service.specs.Headline.{Aim, aim_of, IsAwake, IsCommitted}
use Rattle.upload_service.specs.Stored.{IsHandedOut, IsGiven, IsStoreAfter, is_held, stored, last_under}
use Rattle.upload_service.specs.Alone.{IsToldAsAlone}

-- A run up to an exchange, and that exchange.
pub record Moment (start : State) (front : List Exchange) (before : State) (x : Exchange) (after : State) : Type 0 where
  pub lawful : IsLawful start
  pub never_fall : NeverFall (front ++ x ∷ [])
  pub so_far : Run start front before
  pub turn : Turn before x.ask x.secret x.now x.answer after

abbrev pub CommitsItsChunks : Type 0
CommitsItsChunks =
    (start : State) (front : List Exchange) (before : State) (x : Exchange) (after : State)
    → Moment start front before x after
    → (name at : List ℕ) (range : Extent) (asked : Option Digest) (body : List ℕ) (name' : List ℕ) (digest : Digest)
    → x.ask ≡ asks.Close name at range asked body → x.answer ≡ answers.Stored name' digest
    → IsCommitted name asked
    (record { name = name'; digest = digest; blob = received start (front ++ x ∷ []) at }) after

abbrev pub MissedChunkChangesNothing : Type 0
MissedChunkChangesNothing =
    (start : State) (front : List Exchange) (before : State) (x : Exchange) (after : State)
    → Moment start front before x after
    → (aim : Aim) → aim_of x.ask ≡ Some aim → IsAwake before x.now aim.name aim.at
    → aim.first ≢ length (received start front aim.at)
    → (x.answer ≡ answers.Misplaced aim.name aim.at (length (received start front aim.at))) × (after ≡ before)

abbrev pub MisplacedOnlyThere : Type 0
MisplacedOnlyThere =
    (start : State) (front : List Exchange) (before : State) (x : Exchange) (after : State)
    → Moment start front before x after
    → (name at : List ℕ) (next : ℕ) → x.answer ≡ answers.Misplaced name at next
    → (first : ℕ) × (aim_of x.ask ≡ Some (record { name = name; at = at; first = first }))
    × IsAwake before x.now name at × (next ≡ length (received start front at)) × (first ≢ next)

abbrev pub ClosedTakesNothing : Type 0
ClosedTakesNothing =
    (start : State) (front : List Exchange) (before : State) (x : Exchange) (after : State)
    → Moment start front before x after
    → (at : List ℕ) → IsTrue (session_is_closed start front at x.now) → IsTrue (carries at x.ask)
    → (x.answer ≡ answers.Refused refusals.NoUpload) × (after ≡ before)

abbrev pub AnsweredAsAlone : Type 0
AnsweredAsAlone =
    (start : State) (xs : List Exchange) (end : State) → IsLawful start → NeverFall xs → Run start xs end
    → (at : List ℕ) → IsToldAsAlone start xs at

abbrev pub StoreIsWhatWasStored : Type 0
StoreIsWhatWasStored =
    (start : State) (xs : List Exchange) (end : State) → IsLawful start → Run start xs end → IsStoreAfter start xs end

abbrev pub BlobIsWhatWasStored : Type 0
BlobIsWhatWasStored =
    (start : State) (front : List Exchange) (before : State) (x : Exchange) (after : State)
    → Moment start front before x after
    → (name : List ℕ) (digest : Digest) (head : Bool) (of : Digest) (size : ℕ) (bytes : Option (List ℕ))
    → x.ask ≡ asks.Has name digest head → x.answer ≡ answers.Blob of size bytes
    → IsHandedOut digest head (last_under digest (stored start front) (map.get start.blobs digest)) x.answer

abbrev pub HeldIsGiven : Type 0
HeldIsGiven =
    (start : State) (front : List Exchange) (before : State) (x : Exchange) (after : State)
    → Moment start front before x after
    → (name : List ℕ) (digest : Digest) (head : Bool) → x.ask ≡ asks.Has name digest head
    → is_held start front name digest ≡ true
    → IsGiven digest head (last_under digest (stored start front) (map.get start.blobs digest)) x.answer
    × (after ≡ before)

abbrev pub OthersAreNoBlob : Type 0
OthersAreNoBlob =
    (start : State) (front : List Exchange) (before : State) (x : Exchange) (after : State)
    → Moment start front before x after
    → (name : List ℕ) (digest : Digest) (head : Bool) → x.ask ≡ asks.Has name digest head
    → is_held start front name digest ≡ false → (x.answer ≡ answers.Refused refusals.NoBlob) × (after ≡ before)

abbrev pub StaysLawful : Type 0
StaysLawful = (start : State) (xs : List Exchange) (end : State) → IsLawful start → Run start xs end → IsLawful end
