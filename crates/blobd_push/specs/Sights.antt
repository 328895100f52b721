-- What the reply to a HEAD of a blob shows of it.
use Rattle.std.specs.Prelude.{◌≡◌, ℕ, ◌==◌, ◌&&◌, Bool, true, false, ◌⊎◌, List, [], ◌∷◌, ◌++◌, bytes_eq, codes, decimal}
use Rattle.std.specs.Prelude.{Option, Some, None}
use Rattle.httparse.specs.Grammar.{ResponseHead, status_code}
use Rattle.http_wire.specs.States.{TranscriptState}
use Rattle.http_wire.specs.Fields.{Fields, first_of, head_fields, values_of}
use Rattle.http_wire.specs.Fronts.{IsRefused, IsTooLong, ReadsHead, responses}
use Rattle.upload_names.specs.Digest.{Digest, digest_text}
use Rattle.upload_service.specs.declared.ask.Ask.{Ask}
use Rattle.upload_service.specs.declared.ask.Ask.TheVariants.{Has}
use Rattle.upload_client.specs.AskText.{ask_text}
use Rattle.blobd_shared.specs.Connections.{ConnEvent}
use Rattle.blobd_push.specs.Dials.{Dialing, history_at_end}
use Rattle.blobd_shared.specs.Connections.ConnEvent.{made, given_back}
use Rattle.blobd_push.specs.declared.sight.Sight.{Sight}
use Rattle.blobd_push.specs.declared.sight.Sight.TheVariants as sights

-- there is a value, and it is this text
abbrev pub is_text : List ℕ → Option (List ℕ) → Bool
is_text text None = false
is_text text (Some value) = bytes_eq value text

-- there is no value that is another text
abbrev pub is_no_other : List ℕ → Option (List ℕ) → Bool
is_no_other text None = true
is_no_other text (Some value) = bytes_eq value text

-- A reply with this status and these fields shows the blob of this length and this digest, as texts: it is a 200 with
-- this Content-Length, and with no other Docker-Content-Digest (OCI Distribution Specification 1.1, section "Checking
-- if content exists").
abbrev pub shows_blob : List ℕ → List ℕ → ℕ → Fields → Bool
shows_blob size digest status fields =
    status == 200
    && (is_text size (first_of (values_of (codes "content-length") fields))
    && is_no_other digest (first_of (values_of (codes "docker-content-digest") fields)))

-- the text begins with a head that shows the blob, or with one that doesn't
pub record HasHead (size digest : List ℕ) (text : List ℕ) (shows : Bool) : Type 0 where
  pub head : ResponseHead
  pub rest : List ℕ
  pub reads : ReadsHead responses text head rest
  pub shown : shows_blob size digest (status_code head) (head_fields head.fields) ≡ shows

-- what is seen in a text that was read: a head that shows the blob; something else than that; or nothing is said
abbrev pub SeesIn : List ℕ → List ℕ → Sight → List ℕ → Type 0
SeesIn size digest sights.Blob text = HasHead size digest text true
SeesIn size digest sights.Other text =
    HasHead size digest text false ⊎ (IsRefused responses text ⊎ IsTooLong responses text)
SeesIn size digest sights.Nothing text = Unit {0}

-- A connection was made and given back. Over it this request was written, whole unless nothing was seen, and this is
-- seen in what was read.
pub record SeesOver (host : List ℕ) (ask : Ask) (size digest : List ℕ) (before : List ConnEvent) (sight : Sight)
    (behind : List ConnEvent) : Type 0 where
  pub given : TranscriptState
  pub taken : List ℕ
  pub over : behind ≡ (before ++ made ∷ []) ++ given_back given taken ∷ []
  pub asked : (sight ≡ sights.Nothing) ⊎ (taken ≡ ask_text ask host)
  pub seen : SeesIn size digest sight given.bytes

-- the same, or nothing was seen, since no connection was made
abbrev pub IsSightOver : List ℕ → Ask → List ℕ → List ℕ → List ConnEvent → Sight → List ConnEvent → Type 0
IsSightOver host ask size digest before sight behind =
    SeesOver host ask size digest before sight behind ⊎ ((sight ≡ sights.Nothing) × (behind ≡ before))

-- The connection that was kept was given back, and a HEAD of the blob was asked over another, in whose reply this was
-- seen.
abbrev pub AreSeen : List ℕ → List ℕ → Digest → ℕ → Dialing → Sight → Dialing → Type 0
AreSeen host name digest size before sight behind =
    (behind.kept ≡ None)
    × IsSightOver host (Has name digest true) (decimal size) (digest_text digest) (history_at_end before) sight
    behind.history

-- the blob was seen
abbrev pub is_blob : Sight → Bool
is_blob sights.Blob = true
is_blob sights.Other = false
is_blob sights.Nothing = false
