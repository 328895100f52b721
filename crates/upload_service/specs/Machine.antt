-- The upload service as a machine over plain data: the open sessions, the stored blobs, and which repository
-- has which blob. A name, a reference and a body are lists of bytes; moments are in seconds.
use Rattle.std.specs.Prelude.{◌≡◌, ℕ, ◌+◌, ◌-◌, ◌<◌, ◌≤◌, ◌^◌, ◌==◌, ◌||◌, nat_lt, nat_le, not, Bool, true, List}
use Rattle.std.specs.Prelude.{[], ◌++◌, length, Option, Some, None, is_some, IsSome, IsTrue, ◌⊎◌, if◌then◌else◌}
use Rattle.std.specs.declared.cmp.Ordering.{Ordering}
use Rattle.std.specs.Ordering.{nat_cmp, eq_by_cmp, ordering_then}
use Rattle.std.specs.Cmp.Lexicographic.{slice_cmp}
use Rattle.std.specs.FinMap as map
use Rattle.std.specs.FinMap.{FinMap}
use Rattle.std.specs.FinSet as set
use Rattle.std.specs.FinSet.{FinSet}
use Rattle.upload_names.specs.Digest.{Digest, content_digest, HasDigest, digest_cmp}
use Rattle.upload_names.specs.Reference.{reference, number_of}
use Rattle.upload_service.specs.declared.limits.Limits.{Limits}
use Rattle.upload_service.specs.declared.ask.Extent.{Extent}
use Rattle.upload_service.specs.declared.ask.Extent.TheVariants.{Absent, Bad, Given}
use Rattle.upload_service.specs.declared.answer.Refusal.{Refusal}
use Rattle.upload_service.specs.declared.answer.Refusal.TheVariants as refusals
use Rattle.upload_service.specs.declared.ask.Ask.{Ask}
use Rattle.upload_service.specs.declared.ask.Ask.TheVariants as asks
use Rattle.upload_service.specs.UploadView.{Act, Sends, AsksOffset, Closes, answer_view}
use Rattle.upload_service.specs.declared.answer.Answer.{Answer}
use Rattle.upload_service.specs.declared.answer.Answer.TheVariants as answers

-- each limit is in its range
pub record AreLawful (limits : Limits) : Type 0 where
  pub most_blob : limits.max_blob ≤ 2 ^ 40
  pub most_body : limits.max_body ≤ 2 ^ 31
  pub least_open : 1 ≤ limits.max_open
  pub most_open : limits.max_open ≤ 1024
  pub least_idle : 1 ≤ limits.max_idle
  pub most_idle : limits.max_idle ≤ 2 ^ 40

-- whether two lists of bytes are the same
abbrev pub same : List ℕ → List ℕ → Bool
same x y = eq_by_cmp (slice_cmp nat_cmp) x y

abbrev pub same_digest : Digest → Digest → Bool
same_digest x y = eq_by_cmp digest_cmp x y

-- what stands under each reference
abbrev pub Table : Type 0 → Type 0
Table X = FinMap (slice_cmp nat_cmp) X

-- by the name, and then by the digest
abbrev pub pair_cmp : List ℕ × Digest → List ℕ × Digest → Ordering
pair_cmp a b = ordering_then (slice_cmp nat_cmp a.0 b.0) (digest_cmp a.1 b.1)

-- an open session: the name it was opened under, the bytes of the chunks it took, and the moment when it was
-- begun or last took a chunk
pub record Session : Type 0 where
  pub name : List ℕ
  pub received : List ℕ
  pub seen : ℕ

-- the service: how many numbers were issued, the open sessions by their references, the blobs by their
-- digests, and each (name, digest) of a repository that has a blob
pub record State : Type 0 where
  pub limits : Limits
  pub issued : ℕ
  pub sessions : Table Session
  pub blobs : FinMap digest_cmp (List ℕ)
  pub pairs : FinSet pair_cmp

abbrev pub empty_state : Limits → ℕ → State
empty_state limits issued =
    record { limits = limits; issued = issued; sessions = map.empty; blobs = map.empty; pairs = set.empty }

-- a session that took nothing for more than max_idle seconds
abbrev pub is_idle : ℕ → ℕ → Session → Bool
is_idle max_idle now session = nat_lt (session.seen + max_idle) now

abbrev pub unless_idle : ℕ → ℕ → Option Session → Option Session
unless_idle max_idle now None = None
unless_idle max_idle now (Some session) = if is_idle max_idle now session then None else Some session

-- the session of a reference, if it is open and isn't idle then
abbrev pub awake : State → ℕ → List ℕ → Option Session
awake s now at = unless_idle s.limits.max_idle now (map.get s.sessions at)

-- the sessions that aren't idle then
abbrev pub awake_of : ℕ → ℕ → Table Session → Table Session
awake_of max_idle now sessions =
    map.retain_keys sessions (λ at. is_some (unless_idle max_idle now (map.get sessions at)))

abbrev pub all_awake : State → ℕ → Table Session
all_awake s now = awake_of s.limits.max_idle now s.sessions

-- the sessions beside which one more is opened: if the table is full, the idle ones leave
abbrev pub swept_of : Limits → ℕ → Table Session → Table Session
swept_of limits now sessions =
    if nat_le limits.max_open (map.len sessions) then awake_of limits.max_idle now sessions else sessions

abbrev pub swept : State → ℕ → Table Session
swept s now = swept_of s.limits now s.sessions

-- What a request comes to: an answer that changes nothing, or one of the five changes.
pub data Outcome : Type 0 where
  Replies : (answer : Answer) → Outcome
  Begins : (name at : List ℕ) → Outcome  -- the session is open, with no bytes
  Takes : (name at received : List ℕ) → Outcome  -- the session has received these bytes now
  Commits : (name at : List ℕ) (digest : Digest) (blob : List ℕ) → Outcome  -- the session is closed, its blob is stored
  Stores : (name : List ℕ) (digest : Digest) (blob : List ℕ) → Outcome  -- a blob is stored without a session
  Mounts : (name : List ℕ) (digest : Digest) → Outcome  -- the repository has the blob too

-- what becomes of the open sessions: all stay, or one begins, takes a chunk, or leaves
pub data SessionChange : Type 0 where
  AllStay : SessionChange
  OneBegins : (name at : List ℕ) → SessionChange
  OneTakes : (name at received : List ℕ) → SessionChange
  OneLeaves : (at : List ℕ) → SessionChange

-- what an outcome is answered, and what it changes
pub record Effect : Type 0 where
  pub answer : Answer
  pub sessions : SessionChange
  pub blob : Option (Digest × List ℕ)  -- this one is stored
  pub pair : Option (List ℕ × Digest)  -- this repository has this blob

abbrev pub no_change : Answer → Effect
no_change answer = record { answer = answer; sessions = AllStay; blob = None; pair = None }

abbrev pub gets : List ℕ → Digest → Effect
gets name digest = record (no_change (answers.Stored name digest)) { pair = Some (name, digest) }

abbrev pub effect : Outcome → Effect
effect (Replies answer) = no_change answer
effect (Begins name at) = record (no_change (answers.Begun name at)) { sessions = OneBegins name at }
effect (Takes name at received) =
    record (no_change (answers.Taken name at (length received))) { sessions = OneTakes name at received }
effect (Commits name at digest blob) = record (gets name digest) { sessions = OneLeaves at; blob = Some (digest, blob) }
effect (Stores name digest blob) = record (gets name digest) { blob = Some (digest, blob) }
effect (Mounts name digest) = gets name digest

abbrev pub answer_of : Outcome → Answer
answer_of o = (effect o).answer

abbrev pub issued_with : ℕ → SessionChange → ℕ
issued_with issued AllStay = issued
issued_with issued (OneBegins name at) = issued + 1
issued_with issued (OneTakes name at received) = issued
issued_with issued (OneLeaves at) = issued

-- the sessions with this change, at this moment
abbrev pub sessions_with : State → ℕ → SessionChange → Table Session
sessions_with s now AllStay = s.sessions
sessions_with s now (OneBegins name at) =
    map.insert (swept s now) at (record { name = name; received = []; seen = now })
sessions_with s now (OneTakes name at received) =
    map.insert s.sessions at (record { name = name; received = received; seen = now })
sessions_with s now (OneLeaves at) = map.remove s.sessions at

-- the blobs with this one, and the pairs with this one, if there is one
abbrev pub blobs_with : FinMap digest_cmp (List ℕ) → Option (Digest × List ℕ) → FinMap digest_cmp (List ℕ)
blobs_with blobs None = blobs
blobs_with blobs (Some (digest, blob)) = map.insert blobs digest blob

abbrev pub pairs_with : FinSet pair_cmp → Option (List ℕ × Digest) → FinSet pair_cmp
pairs_with pairs None = pairs
pairs_with pairs (Some pair) = set.insert pairs pair

-- the state after it, at this moment
abbrev pub state_after : State → ℕ → Outcome → State
state_after s now o = record s {
  issued = issued_with s.issued (effect o).sessions;
  sessions = sessions_with s now (effect o).sessions;
  blobs = blobs_with s.blobs (effect o).blob;
  pairs = pairs_with s.pairs (effect o).pair;
}

abbrev pub refused : Refusal → Outcome
refused refusal = Replies (answers.Refused refusal)

-- why a body isn't taken behind `next` bytes, by the first cause that applies; None if it is
abbrev pub size_fault : ℕ → ℕ → List ℕ → Option Answer
size_fault max_blob next body =
    if nat_lt max_blob (next + length body) then Some (answers.Refused refusals.TooLarge) else None

-- how far an upload has come: its name, its reference, and how many bytes it has received
pub record Progress : Type 0 where
  pub name : List ℕ
  pub at : List ℕ
  pub next : ℕ

abbrev pub body_fault : ℕ → Progress → Extent → List ℕ → Option Answer
body_fault max_blob upload Absent body = size_fault max_blob upload.next body
body_fault max_blob upload Bad body = Some (answers.Refused refusals.BadRange)
body_fault max_blob upload (Given range) body =
    if not (range.first == upload.next) then Some (answers.Misplaced upload.name upload.at upload.next)
    else if nat_lt range.last range.first
    || not (range.last - range.first + 1 == length body) then Some (answers.Refused refusals.WrongLength)
    else size_fault max_blob upload.next body

abbrev pub unless_fault : Option Answer → Outcome → Outcome
unless_fault (Some answer) outcome = Replies answer
unless_fault None outcome = outcome

-- a blob under the digest asked for: what is done with it if the digest is the blob's own
abbrev pub checked : Option Digest → List ℕ → (Digest → Outcome) → Outcome
checked None blob done = refused refusals.NoDigest
checked (Some digest) blob done =
    if same_digest (content_digest digest.algorithm blob) digest then done digest else refused refusals.Mismatch

abbrev pub progress_of : Session → List ℕ → List ℕ → Progress
progress_of session name at = record { name = name; at = at; next = length session.received }

-- a request to an open session
abbrev pub in_session : ℕ → Session → List ℕ → List ℕ → Act → Outcome
in_session max_blob session name at (Sends range body) =
    unless_fault (body_fault max_blob (progress_of session name at) range body)
    (Takes name at (session.received ++ body))
in_session max_blob session name at AsksOffset = Replies (answers.Standing name at (length session.received))
in_session max_blob session name at (Closes range digest body) =
    unless_fault (body_fault max_blob (progress_of session name at) range body)
    (checked digest (session.received ++ body) (λ d. Commits name at d (session.received ++ body)))

-- a request that names a session: the session has to be there, under that name
abbrev pub at_session : ℕ → Option Session → List ℕ → List ℕ → Act → Outcome
at_session max_blob None name at act = refused refusals.NoUpload
at_session max_blob (Some session) name at act =
    if same session.name name then in_session max_blob session name at act else refused refusals.NoUpload

-- the last number that a session may have
abbrev pub last_number : ℕ
last_number = 4294967295

abbrev pub opening : State → List ℕ → List ℕ → ℕ → Outcome
opening s name secret now =
    if nat_le s.limits.max_open (map.len (all_awake s now)) || nat_le last_number s.issued then refused refusals.TooMany
    else Begins name (reference (s.issued + 1) secret)

abbrev pub blob_reply : Digest → Bool → Option (List ℕ) → Outcome
blob_reply digest head None = refused refusals.NoBlob
blob_reply digest head (Some blob) = Replies (answers.Blob digest (length blob) (if head then None else Some blob))

abbrev pub holds : State → List ℕ → Digest → Bool
holds s name digest = set.contains s.pairs (name, digest)

-- what a request comes to, with this secret and at this moment
abbrev pub outcome : State → Ask → List ℕ → ℕ → Outcome
outcome s asks.Base secret now = Replies answers.Base
outcome s (asks.Refused refusal) secret now = refused refusal
outcome s (asks.Has name digest head) secret now =
    if holds s name digest then blob_reply digest head (map.get s.blobs digest) else refused refusals.NoBlob
outcome s (asks.Opening name) secret now = opening s name secret now
outcome s (asks.Mount name digest source) secret now =
    if holds s source digest then Mounts name digest else opening s name secret now
outcome s (asks.Single name digest body) secret now =
    unless_fault (size_fault s.limits.max_blob 0 body) (checked digest body (λ d. Stores name d body))
outcome s (asks.Chunk name at range body) secret now =
    at_session s.limits.max_blob (awake s now at) name at (Sends range body)
outcome s (asks.Status name at) secret now = at_session s.limits.max_blob (awake s now at) name at AsksOffset
outcome s (asks.Close name at range digest body) secret now =
    at_session s.limits.max_blob (awake s now at) name at (Closes range digest body)

-- where out of memory may be answered: at a change, and where the bytes of a blob are handed out
abbrev pub hands_out : Answer → Bool
hands_out answer = is_some (answer_view answer).bytes

abbrev pub may_lack_memory : Outcome → Bool
may_lack_memory (Replies answer) = hands_out answer
may_lack_memory other = true

-- From old, this outcome, at this moment, may give this answer and lead to new.
abbrev pub Comes : State → ℕ → Outcome → Answer → State → Type 0
Comes old now o answer new =
    ((answer ≡ answer_of o) × (new ≡ state_after old now o))
    ⊎ (IsTrue (may_lack_memory o) × (answer ≡ answers.NoMemory) × (new ≡ old))

-- From old, the service may give this answer to the ask at this moment and go on to new.
unfoldable pub Turn : State → Ask → List ℕ → ℕ → Answer → State → Type 0
Turn old ask secret now answer new = Comes old now (outcome old ask secret now) answer new

-- A lawful state: what holds of the service whatever it was asked.
pub record IsLawful (s : State) : Type 0 where
  pub numbered : (at : List ℕ) (session : Session) → map.get s.sessions at ≡ Some session
      → (0 < number_of at) × (number_of at ≤ s.issued)
  pub different : (a b : List ℕ) → IsSome (map.get s.sessions a) → IsSome (map.get s.sessions b)
      → number_of a ≡ number_of b → a ≡ b
  pub few : map.len s.sessions ≤ s.limits.max_open
  pub small : (at : List ℕ) (session : Session) → map.get s.sessions at ≡ Some session
      → length session.received ≤ s.limits.max_blob
  pub own_digest : (digest : Digest) (blob : List ℕ) → map.get s.blobs digest ≡ Some blob → HasDigest blob digest
  pub stored : (name : List ℕ) (digest : Digest) → IsTrue (holds s name digest) → IsSome (map.get s.blobs digest)
