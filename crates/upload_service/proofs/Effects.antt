-- What an outcome says of the request and the state that it came from, by what it changes and what it answers: so no
-- proof behind `Steps` goes through all outcomes.
use Rattle.std.proofs.Common.{◌≡◌, ◌≢◌, ℕ, ◌+◌, ◌<◌, ◌≤◌, List, [], ◌++◌, length, Bool, true, false, Option, Some, None}
use Rattle.std.proofs.Common.{refl, sym, ◌⊎◌, arith, rules}
use Rattle.std.specs.Prelude.{◌&&◌, if◌then◌else◌}
use Rattle.std.proofs.lemmas.Bool.{true≢false}
use Rattle.std.specs.FinMap as map
use Rattle.upload_names.specs.Digest.{Digest, HasDigest}
use Rattle.upload_names.specs.Reference.{reference}
use Rattle.upload_service.specs.declared.ask.Ask.{Ask}
use Rattle.upload_service.specs.declared.ask.Ask.TheVariants as asks
use Rattle.upload_service.specs.declared.ask.Extent.{Extent}
use Rattle.upload_service.specs.declared.answer.Answer.{Answer}
use Rattle.upload_service.specs.declared.answer.Answer.TheVariants as answers
use Rattle.upload_service.specs.UploadView.{upload_view}
use Rattle.upload_service.specs.UploadView.{opened_under, answer_view}
use Rattle.upload_service.specs.Machine.{same, is_idle, awake, all_awake, Session, State, Outcome, SessionChange}
use Rattle.upload_service.specs.Machine.{AllStay, OneBegins, OneTakes, OneLeaves, effect, answer_of, issued_with}
use Rattle.upload_service.specs.Machine.{sessions_with, last_number, holds}
use Rattle.upload_service.specs.Session.{carries, is_taken, is_stored, chunk_if, accepted_of, closes_of}
use Rattle.upload_service.specs.Alone.{lacks_memory}
use Rattle.upload_service.specs.Headline.{aim_of}
use Rattle.upload_service.proofs.UploadView.{on_each}

-- ---- what is said of each change

-- the session that a request names: open and not idle, and under that name
pub record Found (s : State) (now : ℕ) (name at : List ℕ) : Type 0 where
  pub session : Session
  pub is_awake : awake s now at ≡ Some session
  pub is_open : map.get s.sessions at ≡ Some session
  pub not_idle : is_idle s.limits.max_idle now session ≡ false
  pub named : session.name ≡ name

pub record IsMisplaced (s : State) (now : ℕ) (ask : Ask) (name at : List ℕ) (next : ℕ) : Type 0 where
  pub found : Found s now name at
  pub first : ℕ
  pub aimed : aim_of ask ≡ Some (record { name = name; at = at; first = first })
  pub is_next : next ≡ length found.session.received
  pub missed : first ≢ next

pub record IsBlob (s : State) (ask : Ask) (digest : Digest) (size : ℕ) (bytes : Option (List ℕ)) : Type 0 where
  pub name : List ℕ
  pub head : Bool
  pub blob : List ℕ
  pub asked : ask ≡ asks.Has name digest head
  pub held : holds s name digest ≡ true
  pub is_stored : map.get s.blobs digest ≡ Some blob
  pub is_size : size ≡ length blob
  pub is_bytes : bytes ≡ (if head then None else Some blob)

abbrev pub AsksToBegin : List ℕ → Ask → Type 0
AsksToBegin name ask = opened_under (upload_view ask) ≡ Some name

pub record IsBegun (s : State) (ask : Ask) (secret : List ℕ) (now : ℕ) (name at : List ℕ) : Type 0 where
  pub asked : AsksToBegin name ask
  pub is_new : at ≡ reference (s.issued + 1) secret
  pub numbers_left : s.issued < last_number
  pub room : map.len (all_awake s now) < s.limits.max_open

pub record IsTaken (s : State) (now : ℕ) (ask : Ask) (name at received : List ℕ) : Type 0 where
  pub found : Found s now name at
  pub range : Extent
  pub body : List ℕ
  pub asked : ask ≡ asks.Chunk name at range body
  pub grown : received ≡ found.session.received ++ body
  pub small : length received ≤ s.limits.max_blob

pub record IsCommit (s : State) (now : ℕ) (ask : Ask) (name at : List ℕ) (digest : Digest)
    (blob : List ℕ) : Type 0 where
  pub found : Found s now name at
  pub range : Extent
  pub body : List ℕ
  pub asked : ask ≡ asks.Close name at range (Some digest) body
  pub grown : blob ≡ found.session.received ++ body
  pub own_digest : HasDigest blob digest

pub record IsStore (s : State) (ask : Ask) (name : List ℕ) (digest : Digest) (blob : List ℕ) : Type 0 where
  pub asked : ask ≡ asks.Single name (Some digest) blob
  pub own_digest : HasDigest blob digest

pub record IsMount (s : State) (ask : Ask) (name : List ℕ) (digest : Digest) : Type 0 where
  pub source : List ℕ
  pub asked : ask ≡ asks.Mount name digest source
  pub held : holds s source digest ≡ true

-- ---- what an answer says that isn't Taken or Stored

chunk_if_not : (chunk : Option (Extent × List ℕ)) → chunk_if false chunk ≡ []
chunk_if_not None = refl
chunk_if_not (Some chunk) = refl

either_false : (b : Bool) (x y : Bool) → x ≡ false → y ≡ false → (if b then x else y) ≡ false
either_false true x y e f = e
either_false false x y e f = f

pub and_false : (a : Bool) → (a && false) ≡ false
and_false true = refl
and_false false = refl

and_left : (a b : Bool) → (a && b) ≡ true → a ≡ true
and_left true b e = refl
and_left false b e = absurd (true≢false (sym e))

-- no body was taken
pub not_accepted : (ask : Ask) (answer : Answer) → is_taken answer ≡ false → is_stored answer ≡ false
    → accepted_of ask answer ≡ []
not_accepted ask answer t s = search (rules, arith, on_each, either_false, chunk_if_not)

-- no session was closed
pub not_closed : (at : List ℕ) (ask : Ask) (answer : Answer) → (answer_view answer).closed ≡ false
    → closes_of at ask answer ≡ false
not_closed at ask answer s = search (rules, arith, on_each, and_false)

-- what closes a session carries its reference
pub closes_carried : (at : List ℕ) (ask : Ask) (answer : Answer) → closes_of at ask answer ≡ true
    → carries at ask ≡ true
closes_carried at ask answer c = search (rules, arith, and_left)

-- ---- the sessions

-- the state with this change of its sessions, and with the blobs and the pairs of another
abbrev pub state_with : State → ℕ → SessionChange → State → State
state_with s now change rest = record s {
  issued = issued_with s.issued change;
  sessions = sessions_with s now change;
  blobs = rest.blobs;
  pairs = rest.pairs;
}

-- a request that leaves all sessions as they are
pub record LeavesAll (ask : Ask) (answer : Answer) : Type 0 where
  pub begins_none : (answer_view answer).begun ≡ None
  pub took_none : (answer_view answer).took ≡ false
  pub accepts_none : accepted_of ask answer ≡ []
  pub closes_none : (at : List ℕ) → closes_of at ask answer ≡ false

-- a request that carries the reference of a session, after which that is gone
pub record Removes (s : State) (now : ℕ) (ask : Ask) (answer : Answer) (to : List ℕ) : Type 0 where
  pub name : List ℕ
  pub found : Found s now name to
  pub carried : (at : List ℕ) → carries at ask ≡ same at to
  pub begins_none : (answer_view answer).begun ≡ None
  pub took_none : (answer_view answer).took ≡ false

abbrev pub FitsChange : State → Ask → List ℕ → ℕ → Answer → SessionChange → Type 0
FitsChange s ask secret now answer AllStay = LeavesAll ask answer
FitsChange s ask secret now answer (OneBegins name at) =
    IsBegun s ask secret now name at × (answer ≡ answers.Begun name at)
FitsChange s ask secret now answer (OneTakes name at received) =
    IsTaken s now ask name at received × (answer ≡ answers.Taken name at (length received))
FitsChange s ask secret now answer (OneLeaves at) = Removes s now ask answer at

-- ---- the blobs and the pairs

-- a blob is stored by a commit or as a whole, and under the pair that its repository gets; a pair alone, by a mount
abbrev pub FitsStore : State → ℕ → Ask → Option (Digest × List ℕ) → Option (List ℕ × Digest) → Type 0
FitsStore s now ask None None = Unit {0}
FitsStore s now ask (Some stored) None = ⊥
FitsStore s now ask None (Some (name, digest)) = IsMount s ask name digest
FitsStore s now ask (Some (of, blob)) (Some (name, digest)) =
    (of ≡ digest) × (((at : List ℕ) × IsCommit s now ask name at digest blob) ⊎ IsStore s ask name digest blob)

-- ---- an outcome

-- a blob is handed out, and a body misses the offset, if the answer says so
abbrev pub FitsAnswer : State → ℕ → Ask → Answer → Type 0
FitsAnswer s now ask (answers.Blob digest size bytes) = IsBlob s ask digest size bytes
FitsAnswer s now ask (answers.Misplaced name at next) = IsMisplaced s now ask name at next
FitsAnswer s now ask other = Unit {0}

-- what its change of the sessions and of the store says of the request, and what its answer says
pub record IsOutcome (s : State) (ask : Ask) (secret : List ℕ) (now : ℕ) (o : Outcome) : Type 0 where
  pub change : FitsChange s ask secret now (answer_of o) (effect o).sessions
  pub store : FitsStore s now ask (effect o).blob (effect o).pair
  pub pair_told : (answer_view (answer_of o)).pair ≡ (effect o).pair
  pub has_memory : lacks_memory (answer_of o) ≡ false
  pub answered : FitsAnswer s now ask (answer_of o)
