-- Whole pushes: the list of what was asked and heard, the newest first, and what is true of each such list.
use Rattle.std.specs.Prelude.{Result, Ok, Err, ◌≡◌, ℕ, ◌+◌, ◌-◌, ◌*◌, ◌/◌, ◌^◌, ◌<◌, ◌≤◌, true, ◌==◌, if◌then◌else◌}
use Rattle.std.specs.Prelude.{List, [], ◌∷◌, length, slice_range, Option, Some, None}
use Rattle.std.specs.List.{AllByRecursion}
use Rattle.upload_names.specs.Digest.{Digest, content_digest}
use Rattle.upload_names.specs.ByteRange.{Span}
use Rattle.upload_names.specs.declared.digest.Algorithm.{Algorithm}
use Rattle.upload_service.specs.declared.ask.Extent.{Extent}
use Rattle.upload_service.specs.declared.ask.Extent.TheVariants.{Absent, Given}
use Rattle.upload_service.specs.declared.ask.Ask.{Ask}
use Rattle.upload_service.specs.declared.ask.Ask.TheVariants.{Has, Opening, Chunk, Status, Close}
use Rattle.upload_service.specs.UploadView.{act_view, UploadView, OfSession, Opens, WholeBlob, Unrelated, upload_view}
use Rattle.upload_push.specs.Steps.{Plan, Stand, turn, ask_at, count_to, place_of}
use Rattle.upload_client.specs.declared.heard.Heard.{Heard}
use Rattle.upload_push.specs.declared.pusher.PushAsk.{PushAsk}
use Rattle.upload_push.specs.declared.pusher.PushAsk.TheVariants as asks
use Rattle.upload_push.specs.declared.pusher.Outcome.{Outcome}
use Rattle.upload_push.specs.declared.pusher.Phase.{Phase}
use Rattle.upload_push.specs.declared.pusher.Phase.TheVariants as phases
use Rattle.upload_push.specs.declared.pushing.PushFault.{PushFault}
use Rattle.upload_push.specs.declared.pushing.PushFault.TheVariants as faults

-- what is to be pushed
pub record Push : Type 0 where
  pub name : List ℕ
  pub digest : Digest
  pub file : List ℕ
  pub chunk : ℕ
  pub tries : ℕ

-- the push of a file under a name and under a digest
abbrev pub push_under : Digest → List ℕ → List ℕ → ℕ → ℕ → Push
push_under digest name file chunk tries =
    record { name = name; digest = digest; file = file; chunk = chunk; tries = tries }

-- the same under its digest by an algorithm
abbrev pub push_of : Algorithm → List ℕ → List ℕ → ℕ → ℕ → Push
push_of algorithm name file chunk tries = push_under (content_digest algorithm file) name file chunk tries

-- at most 2^40 bytes, in chunks of 1 to 2^31 bytes
pub record IsLawfulPush (p : Push) : Type 0 where
  pub size : length p.file ≤ 2 ^ 40
  pub chunk_least : 1 ≤ p.chunk
  pub chunk_most : p.chunk ≤ 2 ^ 31

-- one request and what was heard
pub record Attempt : Type 0 where
  pub ask : Ask
  pub heard : Option Heard

abbrev pub plan_of : Push → Plan
plan_of p = record { name = p.name; digest = p.digest; size = length p.file; chunk = p.chunk }

-- the request, with the bytes of the file
abbrev pub request_of : List ℕ → Digest → List ℕ → PushAsk → Ask
request_of name digest file asks.Opening = Opening name
request_of name digest file (asks.Chunk at range) =
    Chunk name at (Given range) (slice_range file range.first (range.last + 1))
request_of name digest file (asks.Status at) = Status name at
request_of name digest file (asks.Close at) = Close name at Absent (Some digest) []
request_of name digest file asks.Head = Has name digest true

abbrev pub request : Push → PushAsk → Ask
request p ask = request_of p.name p.digest p.file ask

-- the list with one more exchange, if something was asked
abbrev pub logged : Push → Option PushAsk → Option Heard → List Attempt → List Attempt
logged p None heard log = log
logged p (Some ask) heard log = record { ask = request p ask; heard = heard } ∷ log

-- where a push stands after all that was heard, the newest first
abbrev pub after_all : Push → List (Option Heard) → Stand
after_all p [] = record { phase = phases.Opening; tries = p.tries }
after_all p (heard ∷ earlier) = turn (plan_of p) (after_all p earlier) heard

-- what it has asked and heard by then
abbrev pub log_of : Push → List (Option Heard) → List Attempt
log_of p [] = []
log_of p (heard ∷ earlier) = logged p (ask_at (plan_of p) (after_all p earlier).phase) heard (log_of p earlier)

-- The heard offset: the offset that the server named last. It is 0 after the opening's 202, and one more than the
-- last position (0 without one) after a chunk's 202 or 416 or a status' 204.
abbrev pub offset_told : Option (Extent × List ℕ) → Heard → ℕ → ℕ
offset_told (Some chunk) h offset =
    if h.status == 202 then count_to h.upto else if h.status == 416 then count_to h.upto else offset
offset_told None h offset = if h.status == 204 then count_to h.upto else offset

abbrev pub offset_by : UploadView → Heard → ℕ → ℕ
offset_by (OfSession name at act) h offset =
    if (act_view act).closes then offset else offset_told (act_view act).chunk h offset
offset_by (Opens name) h offset = if h.status == 202 then 0 else offset
offset_by (WholeBlob body) h offset = offset
offset_by Unrelated h offset = offset

abbrev pub offset_after : Ask → Option Heard → ℕ → ℕ
offset_after ask None offset = offset
offset_after ask (Some h) offset = offset_by (upload_view ask) h offset

abbrev pub heard_offset : List Attempt → ℕ
heard_offset [] = 0
heard_offset (e ∷ log) = offset_after e.ask e.heard (heard_offset log)

-- The heard place: the reference of the place in the last 202 that was heard.
abbrev pub place_after : List ℕ → Option Heard → Option (List ℕ) → Option (List ℕ)
place_after name None place = place
place_after name (Some h) place = if h.status == 202 then place_of name h else place

abbrev pub heard_place : List ℕ → List Attempt → Option (List ℕ)
heard_place name [] = None
heard_place name (e ∷ log) = place_after name e.heard (heard_place name log)

-- a chunk of the file from an offset on, of a byte or more and at most the chunk's length
pub record IsNextChunk (p : Push) (offset : ℕ) (range : Span) (body : List ℕ) : Type 0 where
  pub first : range.first ≡ offset
  pub some : range.first ≤ range.last
  pub within : range.last < length p.file
  pub most : range.last + 1 ≤ range.first + p.chunk
  pub bytes : body ≡ slice_range p.file range.first (range.last + 1)

abbrev pub IsGiven : Extent → (Span → Type 0) → Type 0
IsGiven (Given range) P = P range
IsGiven _ P = ⊥

-- a close of the whole file, under its digest, without a body of its own
pub record IsWholeClose (p : Push) (offset : ℕ) (range : Extent) (digest : Option Digest) (body : List ℕ) : Type 0 where
  pub no_range : range ≡ Absent
  pub own_digest : digest ≡ Some p.digest
  pub no_body : body ≡ []
  pub all : offset ≡ length p.file

-- a request that is sound after this list
abbrev pub IsSoundAsk : Push → List Attempt → Ask → Type 0
IsSoundAsk p log (Opening name) = name ≡ p.name
IsSoundAsk p log (Chunk name at range body) =
    (name ≡ p.name) × (heard_place p.name log ≡ Some at) × IsGiven range (λ r. IsNextChunk p (heard_offset log) r body)
IsSoundAsk p log (Status name at) = (name ≡ p.name) × (heard_place p.name log ≡ Some at)
IsSoundAsk p log (Close name at range digest body) =
    (name ≡ p.name) × (heard_place p.name log ≡ Some at) × IsWholeClose p (heard_offset log) range digest body
IsSoundAsk p log (Has name digest head) = (name ≡ p.name) × (digest ≡ p.digest) × (head ≡ true)
IsSoundAsk p log other = ⊥

-- The push is sound: each request is sound after those before it.
abbrev pub IsSound : Push → List Attempt → Type 0
IsSound p [] = Unit {0}
IsSound p (e ∷ log) = IsSoundAsk p log e.ask × IsSound p log

-- a reply with this status was heard
abbrev pub HeardStatus : Option Heard → ℕ → Type 0
HeardStatus None status = ⊥
HeardStatus (Some h) status = h.status ≡ status

-- the last exchange is a request of this kind that was answered with this status
abbrev pub LastIsAnswered : (Ask → Type 0) → ℕ → List Attempt → Type 0
LastIsAnswered P status [] = ⊥
LastIsAnswered P status (e ∷ log) = P e.ask × HeardStatus e.heard status

-- a reply with this status and this code was heard
abbrev pub IsHeardAs : Option Heard → ℕ → Option (List ℕ) → Type 0
IsHeardAs None status code = ⊥
IsHeardAs (Some h) status code = (h.status ≡ status) × (h.code ≡ code)

-- the last exchange heard such a reply
abbrev pub EndsRefused : ℕ → Option (List ℕ) → List Attempt → Type 0
EndsRefused status code [] = ⊥
EndsRefused status code (e ∷ log) = IsHeardAs e.heard status code

-- nothing was heard to any request
abbrev pub AreUnheard : List (Option Heard) → Type 0
AreUnheard heard = AllByRecursion (λ (h : Option Heard). h ≡ None) heard

-- a close, of whatever upload
abbrev pub IsClose : Ask → Type 0
IsClose ask =
    (name : List ℕ) × (at : List ℕ) × (range : Extent) × (digest : Option Digest) × (body : List ℕ)
    × (ask ≡ Close name at range digest body)

-- a HEAD of a blob, of whatever digest
abbrev pub IsHead : Ask → Type 0
IsHead ask = (name : List ℕ) × (digest : Digest) × (ask ≡ Has name digest true)

-- how many chunks of a size these bytes make
abbrev pub chunks : ℕ → ℕ → ℕ
chunks size chunk = (size + (chunk - 1)) / chunk

-- the most requests that a push makes
abbrev pub most_asks : Push → ℕ
most_asks p = (p.tries + 1) * (chunks (length p.file) p.chunk + 2)

-- a transport goes from one state to another by these requests and what was heard to each, the newest first
abbrev pub Leads : {S : Type 0} → (S → Ask → Option Heard → S → Type 0) → S → List Attempt → S → Type 0
Leads {S} asked old [] new = new ≡ old
Leads {S} asked old (e ∷ log) new = (mid : S) × Leads asked old log mid × asked mid e.ask e.heard new

-- how a push may answer in this phase; out of memory may end it in any
abbrev pub IsEnd : Phase → Result Outcome PushFault → Type 0
IsEnd phase (Ok outcome) = phase ≡ phases.Done outcome
IsEnd phase (Err (faults.GaveUp why)) = phase ≡ phases.GaveUp why
IsEnd phase (Err faults.NoMemory) = Unit {0}

-- A push over a transport: there is all that was heard, the transport went by the requests of that run and no others,
-- and the answer is the run's end.
pub record IsPush {S : Type 0}
    (asked : S → Ask → Option Heard → S → Type 0) (p : Push) (old new : S) (end : Result Outcome PushFault)
    : Type 0 where
  pub heard : List (Option Heard)
  pub leads : Leads asked old (log_of p heard) new
  pub ends : IsEnd (after_all p heard).phase end
