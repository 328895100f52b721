-- What a request asks of an upload, and what an answer says was done: the two lists of all requests and of all answers
-- by which the definitions tell what concerns a session and the store.
use Rattle.std.specs.Prelude.{ℕ, Bool, true, false, List, Option, Some, None}
use Rattle.upload_names.specs.Digest.{Digest}
use Rattle.upload_service.specs.declared.ask.Extent.{Extent}
use Rattle.upload_service.specs.declared.ask.Ask.{Ask}
use Rattle.upload_service.specs.declared.ask.Ask.TheVariants as asks
use Rattle.upload_service.specs.declared.answer.Answer.{Answer}
use Rattle.upload_service.specs.declared.answer.Answer.TheVariants as answers

-- what a request asks of the session that it names
pub data Act : Type 0 where
  Sends : (range : Extent) (body : List ℕ) → Act  -- that it take a chunk
  AsksOffset : Act  -- how many bytes it has
  Closes : (range : Extent) (digest : Option Digest) (body : List ℕ) → Act  -- that it take a last chunk and be stored

-- what it brings the session, and whether the session is to be closed
pub record ActView : Type 0 where
  pub chunk : Option (Extent × List ℕ)  -- a chunk of this range
  pub closes : Bool

abbrev pub act_view : Act → ActView
act_view (Sends range body) = record { chunk = Some (range, body); closes = false }
act_view AsksOffset = record { chunk = None; closes = false }
act_view (Closes range digest body) = record { chunk = Some (range, body); closes = true }

pub data UploadView : Type 0 where
  OfSession : (name at : List ℕ) (act : Act)
      → UploadView  -- something of the session of this reference, under this name
  Opens : (name : List ℕ) → UploadView  -- a new session; a mount may be answered without one
  WholeBlob : (body : List ℕ) → UploadView  -- a blob without a session
  Unrelated : UploadView  -- nothing of an upload

abbrev pub upload_view : Ask → UploadView
upload_view asks.Base = Unrelated
upload_view (asks.Has name digest head) = Unrelated
upload_view (asks.Opening name) = Opens name
upload_view (asks.Single name digest body) = WholeBlob body
upload_view (asks.Mount name digest source) = Opens name
upload_view (asks.Chunk name at range body) = OfSession name at (Sends range body)
upload_view (asks.Status name at) = OfSession name at AsksOffset
upload_view (asks.Close name at range digest body) = OfSession name at (Closes range digest body)
upload_view (asks.Refused refusal) = Unrelated

-- what is said of a request to a session, and else this
abbrev pub on_session : {A : Type 0} → UploadView → A → (List ℕ → List ℕ → Act → A) → A
on_session (OfSession name at act) none said = said name at act
on_session (Opens name) none said = none
on_session (WholeBlob body) none said = none
on_session Unrelated none said = none

-- the name under which a request asks for a new session
abbrev pub opened_under : UploadView → Option (List ℕ)
opened_under (OfSession name at act) = None
opened_under (Opens name) = Some name
opened_under (WholeBlob body) = None
opened_under Unrelated = None

-- what an answer says was done
pub record AnswerView : Type 0 where
  pub begun : Option (List ℕ)  -- a session of this reference was begun
  pub took : Bool  -- the session took the chunk
  pub closed : Bool  -- the session, if the request asked to close one, is closed
  pub pair : Option (List ℕ × Digest)  -- the repository of this name got the blob of this digest
  pub bytes : Option (List ℕ)  -- these bytes of a blob were handed out
  pub no_memory : Bool  -- nothing, since memory was out

abbrev pub nothing_done : AnswerView
nothing_done =
    record { begun = None; took = false; closed = false; pair = None; bytes = None; no_memory = false }

abbrev pub answer_view : Answer → AnswerView
answer_view answers.Base = nothing_done
answer_view (answers.Blob digest size bytes) = record nothing_done { bytes = bytes }
answer_view (answers.Begun name at) = record nothing_done { begun = Some at }
answer_view (answers.Stored name digest) = record nothing_done { closed = true; pair = Some (name, digest) }
answer_view (answers.Taken name at next) = record nothing_done { took = true }
answer_view (answers.Standing name at next) = nothing_done
answer_view (answers.Misplaced name at next) = nothing_done
answer_view (answers.Refused refusal) = nothing_done
answer_view answers.NoMemory = record nothing_done { no_memory = true }
