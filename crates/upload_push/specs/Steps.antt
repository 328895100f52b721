-- The table of a push's steps: where it stands, what it asks there, and where a reply leads.
use Rattle.std.specs.Prelude.{◌≡◌, ℕ, ◌+◌, ◌-◌, ◌^◌, ◌<◌, ◌≤◌, min, ◌==◌, nat_le, nat_lt, if◌then◌else◌, List, Option}
use Rattle.std.specs.Prelude.{Some, None}
use Rattle.upload_names.specs.Digest.{Digest}
use Rattle.upload_client.specs.Heard.{place_in}
use Rattle.upload_client.specs.declared.heard.Heard.{Heard}
use Rattle.upload_push.specs.declared.pusher.Outcome.TheVariants.{Pushed, Already}
use Rattle.upload_push.specs.declared.pusher.Why.TheVariants.{Refused, BadServer, OutOfTries}
use Rattle.upload_push.specs.declared.pusher.PushAsk.{PushAsk}
use Rattle.upload_push.specs.declared.pusher.PushAsk.TheVariants as asks
use Rattle.upload_push.specs.declared.pusher.PushStep.{PushStep}
use Rattle.upload_push.specs.declared.pusher.PushStep.TheVariants as steps
use Rattle.upload_push.specs.declared.pusher.Phase.{Phase}
use Rattle.upload_push.specs.declared.pusher.Phase.TheVariants.{Opening, Sending, Asking, Looking, Done, GaveUp}

-- what stays the same over a push; size is the file's length
pub record Plan : Type 0 where
  pub name : List ℕ
  pub digest : Digest
  pub size : ℕ
  pub chunk : ℕ

-- where a push stands: its phase, with the upload's reference and the offset, and the tries that are left
pub record Stand : Type 0 where
  pub phase : Phase
  pub tries : ℕ

pub record PushState : Type 0 where
  pub plan : Plan
  pub stand : Stand

-- the same push, standing there
abbrev pub standing_at : PushState → Stand → PushState
standing_at s stand = record { plan = s.plan; stand = stand }

-- at most 2^40 bytes, in chunks of 1 to 2^31 bytes
pub record IsLawfulPlan (p : Plan) : Type 0 where
  pub size : p.size ≤ 2 ^ 40
  pub chunk_least : 1 ≤ p.chunk
  pub chunk_most : p.chunk ≤ 2 ^ 31

-- an offset is at most the file's size
abbrev pub IsWithin : ℕ → Phase → Type 0
IsWithin size (Sending at offset) = offset ≤ size
IsWithin size _ = Unit {0}

-- how many bytes there are up to a last position, and none without it
abbrev pub count_to : Option ℕ → ℕ
count_to None = 0
count_to (Some last) = last + 1

-- where the next chunk ends
abbrev pub chunk_end : Plan → ℕ → ℕ
chunk_end p offset = min (offset + p.chunk) p.size

-- on to a phase; the tries stay
abbrev pub to_phase : Stand → Phase → Stand
to_phase s phase = record { phase = phase; tries = s.tries }

-- a try is taken, and then this phase follows; with none left the push is given up
abbrev pub retry : Stand → Phase → Stand
retry s phase =
    if s.tries == 0 then record { phase = GaveUp OutOfTries; tries = 0 }
    else record { phase = phase; tries = s.tries - 1 }

-- sending from an offset that the server named
abbrev pub send_from : Plan → List ℕ → ℕ → Phase
send_from p at offset = if nat_le offset p.size then Sending at offset else GaveUp BadServer

abbrev pub refused_by : Heard → Phase
refused_by h = GaveUp (Refused h.status h.code)

-- nothing was heard, or 503: a try is taken; what became of a chunk or of a close is asked first
abbrev pub unheard : Stand → Phase → Stand
unheard s Opening = retry s Opening
unheard s (Sending at offset) = retry s (Asking at)
unheard s (Asking at) = retry s (Asking at)
unheard s Looking = retry s Looking
unheard s (Done outcome) = s
unheard s (GaveUp why) = s

-- the reference of a reply's place
abbrev pub place_of : List ℕ → Heard → Option (List ℕ)
place_of name h = elim h.place [ None ↦ None | Some path ↦ place_in path name ]

abbrev pub opened : Option (List ℕ) → Phase
opened (Some at) = Sending at 0
opened None = GaveUp BadServer

-- a chunk up to `end` was taken, if the reply says so
abbrev pub chunk_confirmed : ℕ → Option (List ℕ) → Option ℕ → Phase
chunk_confirmed end (Some at) (Some last) = if last + 1 == end then Sending at end else GaveUp BadServer
chunk_confirmed end _ _ = GaveUp BadServer

-- a reply to a chunk
abbrev pub chunk_answered : Plan → Stand → List ℕ → ℕ → Heard → Stand
chunk_answered p s at offset h =
    if h.status == 202 then to_phase s (chunk_confirmed (chunk_end p offset) (place_of p.name h) h.upto)
    else if h.status == 416 then retry s (send_from p at (count_to h.upto))
    else to_phase s (refused_by h)

abbrev pub close_answered : Stand → Heard → Stand
close_answered s h = if h.status == 201 then to_phase s (Done Pushed) else to_phase s (refused_by h)

-- another reply than 503
abbrev pub phase_answered : Plan → Stand → Phase → Heard → Stand
phase_answered p s Opening h =
    if h.status == 202 then to_phase s (opened (place_of p.name h)) else to_phase s (refused_by h)
phase_answered p s (Sending at offset) h =
    if nat_lt offset p.size then chunk_answered p s at offset h else close_answered s h
phase_answered p s (Asking at) h =
    if h.status == 204 then to_phase s (send_from p at (count_to h.upto))
    else if h.status == 404 then to_phase s Looking
    else to_phase s (refused_by h)
phase_answered p s Looking h = if h.status == 200 then to_phase s (Done Already) else to_phase s (refused_by h)
phase_answered p s (Done outcome) h = s
phase_answered p s (GaveUp why) h = s

abbrev pub turn_at : Plan → Stand → Phase → Option Heard → Stand
turn_at p s phase None = unheard s phase
turn_at p s phase (Some h) = if h.status == 503 then unheard s phase else phase_answered p s phase h

-- where a push stands after what was heard
abbrev pub turn : Plan → Stand → Option Heard → Stand
turn p s heard = turn_at p s s.phase heard

-- the push has ended
abbrev pub IsOver : Phase → Type 0
IsOver (Done outcome) = Unit {0}
IsOver (GaveUp why) = Unit {0}
IsOver phase = ⊥

-- what is asked next, if anything is
abbrev pub ask_at : Plan → Phase → Option PushAsk
ask_at p Opening = Some asks.Opening
ask_at p (Sending at offset) =
    if nat_lt offset p.size
    then Some (asks.Chunk at (record { first = offset; last = chunk_end p offset - 1 }))
    else Some (asks.Close at)
ask_at p (Asking at) = Some (asks.Status at)
ask_at p Looking = Some asks.Head
ask_at p (Done outcome) = None
ask_at p (GaveUp why) = None

-- what a pusher says that it does next: it asks what the table says, or tells how the push ended
abbrev pub IsStepAt : Plan → Phase → PushStep → Type 0
IsStepAt p (Done outcome) step = step ≡ steps.Done outcome
IsStepAt p (GaveUp why) (steps.GaveUp shown) = shown.now ≡ why
IsStepAt p (GaveUp why) _ = ⊥
IsStepAt p phase (steps.Ask ask) = ask_at p phase ≡ Some ask
IsStepAt p phase _ = ⊥

abbrev pub IsStepOf : PushState → PushStep → Type 0
IsStepOf s step = IsStepAt s.plan s.stand.phase step

-- a chunk that is asked for has a byte or more, all of the file
abbrev pub IsAskWithin : ℕ → PushAsk → Type 0
IsAskWithin size (asks.Chunk at range) = (range.first ≤ range.last) × (range.last < size)
IsAskWithin size _ = Unit {0}

abbrev pub IsStepWithin : ℕ → PushStep → Type 0
IsStepWithin size (steps.Ask ask) = IsAskWithin size ask
IsStepWithin size _ = Unit {0}
