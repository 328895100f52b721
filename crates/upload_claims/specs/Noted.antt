-- The changes of an exchange, by its request and its answer, and where its body is.
use Rattle.std.specs.Prelude.{Bool, false, ℕ, ◌+◌, ◌-◌, ◌==◌, nat_le, List, [], ◌∷◌, ◌++◌, length, Option, Some, None}
use Rattle.std.specs.Prelude.{if◌then◌else◌}
use Rattle.std.specs.FinMap as map
use Rattle.std.specs.FinSet as set
use Rattle.upload_names.specs.Digest.{Digest}
use Rattle.upload_names.specs.Reference.{number_of}
use Rattle.upload_service.specs.declared.limits.Limits.{Limits}
use Rattle.upload_service.specs.declared.ask.Ask.{Ask}
use Rattle.upload_service.specs.declared.ask.Ask.TheVariants as asks
use Rattle.upload_service.specs.declared.answer.Answer.{Answer}
use Rattle.upload_service.specs.declared.answer.Answer.TheVariants as answers
use Rattle.upload_service.specs.Run.{Exchange}
use Rattle.upload_claims.specs.declared.change.Place.{Place}
use Rattle.upload_claims.specs.declared.change.Stretch.{Stretch}
use Rattle.upload_claims.specs.declared.change.Change.{Change}
use Rattle.upload_claims.specs.declared.change.Change.TheVariants as changes
use Rattle.upload_claims.specs.declared.noted.Brought.{Brought}
use Rattle.upload_claims.specs.declared.noted.Brought.TheVariants as brings
use Rattle.upload_claims.specs.declared.noted.Noted.{Noted}
use Rattle.upload_claims.specs.Claims.{Upload, Claims, received_by}
use Rattle.upload_claims.specs.Fold.{fold}

-- the body that a request brings
abbrev pub body_of : Ask → List ℕ
body_of (asks.Single name digest body) = body
body_of (asks.Chunk name at range body) = body
body_of (asks.Close name at range digest body) = body
body_of other = []

-- what is noted of it
abbrev pub brought_by : Ask → Brought
brought_by (asks.Single name digest body) = brings.Blob (length body)
brought_by (asks.Chunk name at range body) = brings.Chunk (length body)
brought_by (asks.Close name at range digest body) = brings.Last at (length body)
brought_by other = brings.Nothing

-- how many bytes that is
abbrev pub len_of : Brought → ℕ
len_of brings.Nothing = 0
len_of (brings.Blob len) = len
len_of (brings.Chunk len) = len
len_of (brings.Last at len) = len

-- the sweep before one more upload is begun: if as many are open as may be, the idle ones leave
abbrev pub sweep : Limits → Claims → ℕ → List Change
sweep limits c now =
    if nat_le limits.max_open (map.len c.uploads) then changes.LapsedBefore (now - limits.max_idle) ∷ [] else []

-- a body that is kept there and ends there
abbrev pub stretch_to : Noted → ℕ → Stretch
stretch_to x end = record { place = x.place; end = end }

-- the upload was begun or last seen at this moment
abbrev pub was_seen : Option Upload → ℕ → Bool
was_seen None now = false
was_seen (Some upload) now = upload.seen == now

abbrev pub seen_by : Claims → List ℕ → ℕ → List Change
seen_by c at now = if was_seen (map.get c.uploads at) now then [] else changes.Seen at now ∷ []

-- a chunk of so many bytes, up to so many: one of none does no more than that its upload is seen
abbrev pub taken_by : Claims → Noted → List ℕ → ℕ → ℕ → List Change
taken_by c x at len end =
    if len == 0 then seen_by c at x.moment else changes.Took at x.moment (end - len) (stretch_to x end) ∷ []

-- the last chunk of an upload, of so many bytes, after so many
abbrev pub last_by : Noted → List ℕ → ℕ → ℕ → List Change
last_by x at from len = if len == 0 then [] else changes.Took at x.moment from (stretch_to x (from + len)) ∷ []

-- an upload that is closed
abbrev pub closed_by : Claims → Noted → List ℕ → Digest → ℕ → List Change
closed_by c x at digest len =
    last_by x at (received_by (map.get c.uploads at)) len
    ++ changes.Closed at digest (received_by (map.get c.uploads at) + len) ∷ []

-- a whole blob of so many bytes, unless it is known to be there
abbrev pub blob_by : Noted → Digest → ℕ → List Change
blob_by x digest len =
    if x.known then [] else
    if len == 0 then changes.Laid digest ∷ [] else changes.Stored digest (stretch_to x len) ∷ []

-- how a request that was answered Stored has stored the blob
abbrev pub stored_by : Claims → Noted → Digest → Brought → List Change
stored_by c x digest (brings.Blob len) = blob_by x digest len
stored_by c x digest (brings.Last at len) = closed_by c x at digest len
stored_by c x digest other = []

-- a pair, unless it is there
abbrev pub has_by : Claims → List ℕ → Digest → List Change
has_by c name digest = if set.contains c.pairs (name, digest) then [] else changes.Has name digest ∷ []

-- The changes of what was noted and was answered so, after these claims. What changes nothing has none.
abbrev pub changes_by : Limits → Claims → Noted → Answer → List Change
changes_by limits c x (answers.Begun name at) =
    sweep limits c x.moment ++ changes.NumbersUpTo (number_of at) ∷ changes.Began at name x.moment ∷ []
changes_by limits c x (answers.Taken name at next) = taken_by c x at (len_of x.brought) next
changes_by limits c x (answers.Stored name digest) = stored_by c x digest x.brought ++ has_by c name digest
changes_by limits c x other = []

-- an exchange, where its body is kept, and whether the blob of its digest is known to be there with just these bytes,
-- so that it isn't kept
pub record Served : Type 0 where
  pub exchange : Exchange
  pub place : Place
  pub known : Bool

abbrev pub noted_of : Served → Noted
noted_of x =
    record { brought = brought_by x.exchange.ask; moment = x.exchange.now; place = x.place; known = x.known }

abbrev pub changes_of : Limits → Claims → Served → List Change
changes_of limits c x = changes_by limits c (noted_of x) x.exchange.answer

-- the changes of exchanges, one after another
abbrev pub journal_of : Limits → Claims → List Served → List Change
journal_of limits c [] = []
journal_of limits c (x ∷ xs) = changes_of limits c x ++ journal_of limits (fold c (changes_of limits c x)) xs
