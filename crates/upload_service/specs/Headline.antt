-- What holds of every run.
use Rattle.std.specs.Prelude.{◌≡◌, ◌≢◌, ℕ, Bool, true, false, List, [], ◌∷◌, ◌++◌, length, Option, Some, None, IsTrue, ◌⊎◌}
use Rattle.std.specs.FinMap as map
use Rattle.upload_names.specs.Digest.{Digest, HasDigest}
use Rattle.upload_service.specs.declared.ask.Extent.{Extent}
use Rattle.upload_service.specs.declared.ask.Extent.TheVariants.{Given}
use Rattle.upload_service.specs.declared.answer.Refusal.TheVariants as refusals
use Rattle.upload_service.specs.declared.ask.Ask.{Ask}
use Rattle.upload_service.specs.declared.ask.Ask.TheVariants as asks
use Rattle.upload_service.specs.declared.answer.Answer.{Answer}
use Rattle.upload_service.specs.declared.answer.Answer.TheVariants as answers
use Rattle.upload_service.specs.UploadView.{Act, act_view, upload_view, on_session}
use Rattle.upload_service.specs.Machine.{is_idle, awake, Session, State, Turn, IsLawful, holds}
use Rattle.upload_service.specs.Run.{Exchange, Run, NeverFall}
use Rattle.upload_service.specs.Session.{carries, received, session_is_closed}
use Rattle.upload_service.specs.Alone.{IsToldAsAlone}
use Rattle.upload_service.specs.Stored.{Stored, stored, last_under, is_held, IsStoreAfter, IsHandedOut, IsGiven}

-- Where a Given range is aimed: a session, and the first position.
pub record Aim : Type 0 where
  pub name : List ℕ
  pub at : List ℕ
  pub first : ℕ

abbrev pub aim_at : List ℕ → List ℕ → Extent → Option Aim
aim_at name at (Given range) = Some (record { name = name; at = at; first = range.first })
aim_at name at other = None

abbrev pub aim_with : List ℕ → List ℕ → Option (Extent × List ℕ) → Option Aim
aim_with name at None = None
aim_with name at (Some (range, body)) = aim_at name at range

abbrev pub aim_by : List ℕ → List ℕ → Act → Option Aim
aim_by name at act = aim_with name at (act_view act).chunk

abbrev pub aim_of : Ask → Option Aim
aim_of ask = on_session (upload_view ask) None aim_by

-- a session is open under a name, and isn't idle then
abbrev pub IsAwake : State → ℕ → List ℕ → List ℕ → Type 0
IsAwake s now name at = (session : Session) × (awake s now at ≡ Some session) × (session.name ≡ name)

-- What a session of this name commits: the blob has the digest asked for, stands under it, and the repository has it.
pub record IsCommitted (name : List ℕ) (asked : Option Digest) (done : Stored) (new : State) : Type 0 where
  pub named : done.name ≡ name
  pub asked_for : asked ≡ Some done.digest
  pub own_digest : HasDigest done.blob done.digest
  pub stored : map.get new.blobs done.digest ≡ Some done.blob
  pub held : IsTrue (holds new name done.digest)

-- What holds of every exchange of a run, where front are the exchanges before it, and received start front at is what a
-- session has received by then.
pub record IsOrderly (start : State) (front : List Exchange) (before : State) (x : Exchange)
    (after : State) : Type 0 where
  -- what a session commits is what it received, with the digest asked for, stored under it
  pub committed : (name at : List ℕ) (range : Extent) (asked : Option Digest) (body : List ℕ) (name' : List ℕ)
      (digest : Digest) → x.ask ≡ asks.Close name at range asked body → x.answer ≡ answers.Stored name' digest
      → IsCommitted name asked
      (record { name = name'; digest = digest; blob = received start (front ++ x ∷ []) at }) after
  -- a chunk that misses the next offset is answered so, and changes nothing
  pub missed : (aim : Aim) → aim_of x.ask ≡ Some aim → IsAwake before x.now aim.name aim.at
      → aim.first ≢ length (received start front aim.at)
      → (x.answer ≡ answers.Misplaced aim.name aim.at (length (received start front aim.at))) × (after ≡ before)
  -- and nothing else is
  pub misplaced : (name at : List ℕ) (next : ℕ) → x.answer ≡ answers.Misplaced name at next
      → (first : ℕ) × (aim_of x.ask ≡ Some (record { name = name; at = at; first = first }))
      × IsAwake before x.now name at × (next ≡ length (received start front at)) × (first ≢ next)
  -- a closed session takes nothing more, nor does one that this request finds idle
  pub closed : (at : List ℕ) → IsTrue (session_is_closed start front at x.now) → IsTrue (carries at x.ask)
      → (x.answer ≡ answers.Refused refusals.NoUpload) × (after ≡ before)
  -- a blob that is handed out is the last that was stored there
  pub blob : (name : List ℕ) (digest : Digest) (head : Bool) (of : Digest) (size : ℕ) (bytes : Option (List ℕ))
      → x.ask ≡ asks.Has name digest head → x.answer ≡ answers.Blob of size bytes
      → IsHandedOut digest head (last_under digest (stored start front) (map.get start.blobs digest)) x.answer
  -- a blob that the repository has is given, and nothing changes
  pub has : (name : List ℕ) (digest : Digest) (head : Bool) → x.ask ≡ asks.Has name digest head
      → is_held start front name digest ≡ true
      → IsGiven digest head (last_under digest (stored start front) (map.get start.blobs digest)) x.answer
      × (after ≡ before)
  -- of a blob that it doesn't have it is told so, and nothing changes
  pub has_not : (name : List ℕ) (digest : Digest) (head : Bool) → x.ask ≡ asks.Has name digest head
      → is_held start front name digest ≡ false → (x.answer ≡ answers.Refused refusals.NoBlob) × (after ≡ before)

-- The headline of a run: each exchange is orderly, each session is told what it would be told alone, and the store is
-- what was stored.
pub record Headline (start : State) (xs : List Exchange) (end : State) : Type 0 where
  pub each : (front : List Exchange) (x : Exchange) (rest : List Exchange) → xs ≡ front ++ x ∷ rest
      → (before : State) × (after : State) × Run start front before × Turn before x.ask x.secret x.now x.answer after
      × Run after rest end × IsOrderly start front before x after
  -- each session is told what it would be told alone, refusals for memory left out
  pub alone : (at : List ℕ) → IsToldAsAlone start xs at
  pub store : IsStoreAfter start xs end
  pub lawful : IsLawful end

-- The headline holds of every run from every lawful state, if the moments don't fall.
abbrev pub HeadlineHolds : Type 0
HeadlineHolds =
    (start : State) (xs : List Exchange) (end : State) → IsLawful start → NeverFall xs → Run start xs end
    → Headline start xs end

-- Other requests leave an open session as it is, or it is idle then and leaves the table.
abbrev pub OthersLeaveIt : Type 0
OthersLeaveIt = (old : State) (ask : Ask) (secret : List ℕ) (now : ℕ) (answer : Answer) (new : State)
    → IsLawful old → Turn old ask secret now answer new
    → (at : List ℕ) (session : Session) → map.get old.sessions at ≡ Some session → carries at ask ≡ false
    → (map.get new.sessions at ≡ Some session)
    ⊎ (IsTrue (is_idle old.limits.max_idle now session) × (map.get new.sessions at ≡ None))
