-- What the end of a push says of its last connection.
use Rattle.std.specs.Prelude.{◌≡◌, ℕ, Bool, true, ◌⊎◌, List, [], ◌∷◌, ◌++◌, length, codes, decimal, Option, Some}
use Rattle.std.specs.Io.KnownBytes.{Appends}
use Rattle.upload_names.specs.Digest.{Digest, content_digest, digest_text}
use Rattle.upload_names.specs.declared.digest.Algorithm.TheVariants.{Sha256}
use Rattle.upload_service.specs.declared.ask.Ask.{Ask}
use Rattle.upload_service.specs.declared.ask.Ask.TheVariants.{Close, Has}
use Rattle.upload_service.specs.declared.ask.Extent.TheVariants.{Absent}
use Rattle.http_wire.specs.States.{InputState, TranscriptState}
use Rattle.upload_client.specs.AskText.{ask_text, wants_head}
use Rattle.upload_client.specs.AnswerText.{TellsHeard}
use Rattle.upload_client.specs.declared.heard.Heard.{Heard}
use Rattle.blobd_shared.specs.Status.{line}
use Rattle.blobd_shared.specs.Connections.{ConnEvent}
use Rattle.blobd_shared.specs.Connections.ConnEvent.{given_back}
use Rattle.blobd_push.specs.Pushed.{IsPushedOver}
use Rattle.blobd_push.specs.Sights.{HasHead}

-- the text is a whole reply with this status
pub record IsReply (head_only : Bool) (text : List ℕ) (status : ℕ) : Type 0 where
  pub input : InputState
  pub heard : Heard
  pub keep : Bool
  pub tells : TellsHeard head_only text input heard keep
  pub is_status : heard.status ≡ status

-- The last connection of a push to this host was given back after this request, which is the last that was written
-- over it, and after a reply with this status, the last that was read over it.
pub record EndsAnswered (host : List ℕ) (ask : Ask) (status : ℕ) (old new : List ConnEvent) : Type 0 where
  pub since : List ConnEvent
  -- what was written and read before
  pub asked : List ℕ
  pub told : List ℕ
  pub reply : List ℕ
  pub ended : Bool
  pub last : new ≡ (old ++ since)
      ++ given_back (record { bytes = told ++ reply; ended = ended }) (asked ++ ask_text ask host) ∷ []
  pub answers : IsReply (wants_head ask) reply status

-- The last connection of a push to this host was made for a HEAD of this blob, and given back after it: that is all
-- that was written over it, and what was read begins with a head that shows the blob, of this length.
pub record EndsSeen (host name : List ℕ) (digest : Digest) (size : ℕ) (old new : List ConnEvent) : Type 0 where
  pub since : List ConnEvent
  pub given : TranscriptState
  pub last : new ≡ (old ++ since) ++ given_back given (ask_text (Has name digest true) host) ∷ []
  pub shows : HasHead (decimal size) (digest_text digest) given.bytes true

-- this word and this digest were printed, and nothing else
abbrev pub PrintsDigest : List ℕ → Digest → Option (List ℕ) → Option (List ℕ) → Type 0
PrintsDigest word digest before after = Appends before after (line (word ++ (codes " " ++ digest_text digest)))

-- A push that ends with 0 was answered. `pushed` was printed after a 201 to a close of an upload under the file's
-- digest, and `already` after a reply to a HEAD of it that shows the file's length and no other digest; nothing came
-- after either on any connection.
abbrev pub PushesAreAnswered : Type 0
PushesAreAnswered =
    (host name file : List ℕ) (chunk : ℕ) (old new : List ConnEvent) (before after : Option (List ℕ))
    → IsPushedOver host name file chunk old new before after 0
    → (PrintsDigest (codes "pushed") (content_digest Sha256 file) before after
    × ((at : List ℕ) × EndsAnswered host (Close name at Absent (Some (content_digest Sha256 file)) []) 201 old new))
    ⊎ (PrintsDigest (codes "already") (content_digest Sha256 file) before after
    × EndsSeen host name (content_digest Sha256 file) (length file) old new)
