-- What the service's tables stand for, and what a body that was sent for an upload comes to.
use Rattle.std.specs.Prelude.{◌≡◌, ℕ, ◌+◌, ◌<◌, ◌^◌, ◌++◌, List, Option, Some, None, length}
use Rattle.std.specs.FinMap as map
use Rattle.upload_names.specs.Digest.{Digest}
use Rattle.upload_service.specs.declared.ask.Extent.{Extent}
use Rattle.upload_service.specs.declared.answer.Answer.{Answer}
use Rattle.upload_service.specs.declared.answer.Answer.TheVariants as answers
use Rattle.upload_service.specs.declared.turn.Tables.{Tables}
use Rattle.upload_service.specs.declared.turn.Sent.{Sent}
use Rattle.upload_service.specs.declared.turn.Placed.{Placed}
use Rattle.upload_service.specs.declared.turn.Verdict.{Verdict}
use Rattle.upload_service.specs.declared.turn.Verdict.TheVariants as verdicts
use Rattle.upload_service.specs.UploadView.{Sends, Closes}
use Rattle.upload_service.specs.Machine.{Session, State, Outcome, Replies, Takes, Commits, IsLawful, AreLawful, awake}
use Rattle.upload_service.specs.Machine.{Progress, body_fault, checked, at_session}

abbrev pub state_of : Tables → State
state_of t =
    record { limits = t.limits; issued = t.issued; sessions = t.sessions; blobs = t.stock.blobs; pairs = t.stock.pairs }

-- the answer by which a body is turned away
abbrev pub turned_away : Progress → Verdict → Option Answer
turned_away upload verdicts.Fits = None
turned_away upload verdicts.Misplaced = Some (answers.Misplaced upload.name upload.at upload.next)
turned_away upload (verdicts.Refused refusal) = Some (answers.Refused refusal)

abbrev pub IsVerdict : ℕ → ℕ → Extent → ℕ → Verdict → Type 0
IsVerdict max_blob next range size verdict =
    (name at body : List ℕ) → length body ≡ size
    → body_fault max_blob (record { name = name; at = at; next = next }) range body
    ≡ turned_away (record { name = name; at = at; next = next }) verdict

-- what a chunk of this body comes to, and a close with it
abbrev pub chunk_of : State → ℕ → Sent → Outcome
chunk_of s now sent = at_session s.limits.max_blob (awake s now sent.at) sent.name sent.at (Sends sent.range sent.body)

abbrev pub close_of : State → ℕ → Sent → Option Digest → Outcome
close_of s now sent digest =
    at_session s.limits.max_blob (awake s now sent.at) sent.name sent.at (Closes sent.range digest sent.body)

-- A body that fits: a chunk of it is taken, and a close with it goes on to the digest.
pub record IsPlaced (s : State) (now : ℕ) (sent : Sent) (placed : Placed) : Type 0 where
  pub session : Session
  pub is_open : map.get s.sessions placed.at ≡ Some session
  pub named : session.name ≡ placed.name
  pub is_next : placed.next ≡ length session.received
  pub fits : placed.next + length placed.body < 2 ^ 64
  pub chunk : chunk_of s now sent ≡ Takes placed.name placed.at (session.received ++ placed.body)
  pub close : (digest : Option Digest) → close_of s now sent digest
      ≡ checked digest (session.received ++ placed.body)
      (λ d. Commits placed.name placed.at d (session.received ++ placed.body))

-- A body that is turned away: a chunk of it and a close with it are answered so.
pub record IsTurnedAway (s : State) (now : ℕ) (sent : Sent) (answer : Answer) : Type 0 where
  pub chunk : chunk_of s now sent ≡ Replies answer
  pub close : (digest : Option Digest) → close_of s now sent digest ≡ Replies answer

-- what a service keeps: its limits and its state are lawful
pub record IsService (tables : Tables) : Type 0 where
  pub bounds : AreLawful tables.limits
  pub state : IsLawful (state_of tables)
