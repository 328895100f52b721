-- A push beside a run of the service: between its requests others are served, each turn has a secret and a moment of
-- its own, and a request of the push that was taken to be lost may be served late.
use Rattle.std.specs.Prelude.{Result, Ok, ◌≡◌, ℕ, ◌+◌, ◌<◌, ◌≤◌, ◌⊎◌, List, [], ◌∷◌, length, slice_range, Option, Some}
use Rattle.std.specs.Prelude.{None, ⊤}
use Rattle.upload_names.specs.ByteRange.{Span}
use Rattle.upload_service.specs.Machine.{State, Turn, IsLawful}
use Rattle.upload_service.specs.Run as served
use Rattle.upload_service.specs.Run.{Run}
use Rattle.upload_service.specs.UploadView.{Act, Sends, AsksOffset, Closes, UploadView, OfSession, Opens, WholeBlob}
use Rattle.upload_service.specs.UploadView.{Unrelated, upload_view}
use Rattle.upload_service.specs.declared.ask.Ask.{Ask}
use Rattle.upload_service.specs.declared.ask.Extent.TheVariants.{Absent, Given}
use Rattle.upload_service.specs.declared.answer.Answer.{Answer}
use Rattle.upload_client.specs.Heard.{reply_heard}
use Rattle.upload_client.specs.declared.heard.Heard.{Heard}
use Rattle.upload_push.specs.Promise.{Avoids, IsStored, IsThere}
use Rattle.upload_push.specs.Slices.{Push, IsLawfulPush, Attempt, Leads, IsPush, heard_place, log_of}
use Rattle.upload_push.specs.World.{IsSecret}
use Rattle.upload_push.specs.declared.pusher.Outcome.{Outcome}
use Rattle.upload_push.specs.declared.pusher.Outcome.TheVariants.{Pushed, Already}
use Rattle.upload_push.specs.declared.pushing.PushFault.{PushFault}

-- Of the answer nothing is heard, or what it says, but perhaps for its error code: the reply to a HEAD lacks it, and no
-- step of a push depends on it.
abbrev pub IsHeardOf : Answer → Option Heard → Type 0
IsHeardOf answer heard =
    (heard ≡ None) ⊎ ((code : Option (List ℕ)) × (heard ≡ Some (record (reply_heard answer) { code = code })))

-- the request is a turn of the service, and its reply is heard or not
pub record IsTurn (met : State) (ask : Ask) (heard : Option Heard) (new : State) : Type 0 where
  pub secret : List ℕ
  pub now : ℕ
  pub answer : Answer
  pub is_secret : IsSecret secret
  pub turn : Turn met ask secret now answer new
  pub reaches : IsHeardOf answer heard

-- the request is such a turn; or it is none, and nothing is heard of it
abbrev pub ComesTo : State → Ask → Option Heard → State → Type 0
ComesTo met ask heard new = IsTurn met ask heard new ⊎ ((new ≡ met) × (heard ≡ None))

-- One request of a push in a run, behind what is served before it.
pub record AskedInRun (old : State) (ask : Ask) (heard : Option Heard) (new : State) : Type 0 where
  pub before : List served.Exchange
  pub met : State
  pub run : Run old before met
  pub comes : ComesTo met ask heard new

-- bytes of the file, one or more, under the range at which they stand there
pub record IsPart (p : Push) (range : Span) (body : List ℕ) : Type 0 where
  pub some : range.first ≤ range.last
  pub within : range.last < length p.file
  pub bytes : body ≡ slice_range p.file range.first (range.last + 1)

-- that its upload take such bytes
pub record SendsPart (p : Push) (act : Act) : Type 0 where
  pub range : Span
  pub body : List ℕ
  pub is : act ≡ Sends (Given range) body
  pub part : IsPart p range body

-- what a push asks of its upload: a part, the offset, or a close under the push's digest, without a body of its own
abbrev pub IsActOf : Push → Act → Type 0
IsActOf p act = SendsPart p act ⊎ ((act ≡ AsksOffset) ⊎ (act ≡ Closes Absent (Some p.digest) []))

-- a request that the push made of this upload, or could have made
abbrev pub IsRequestOf : Push → List ℕ → UploadView → Type 0
IsRequestOf p at (OfSession name to act) = (name ≡ p.name) × (to ≡ at) × IsActOf p act
IsRequestOf p at (Opens name) = ⊥
IsRequestOf p at (WholeBlob body) = ⊥
IsRequestOf p at Unrelated = ⊥

-- The request doesn't carry the reference, if there is one; or it is one of the push itself, which comes late.
abbrev pub IsHarmless : Push → Option (List ℕ) → Ask → Type 0
IsHarmless p None ask = ⊤
IsHarmless p (Some at) ask = Avoids (Some at) ask ⊎ IsRequestOf p at (upload_view ask)

abbrev pub AreHarmless : Push → Option (List ℕ) → List served.Exchange → Type 0
AreHarmless p place [] = ⊤
AreHarmless p place (x ∷ xs) = IsHarmless p place x.ask × AreHarmless p place xs

-- The premise on what is served between the requests of a push: from the opening on whose reply the push heard, it
-- doesn't carry the reference that was heard by then, unless it is a late request of the push itself.
abbrev pub IsQuietRun : (p : Push) (log : List Attempt) (old new : State) → Leads AskedInRun old log new → Type 0
IsQuietRun p [] old new leads = ⊤
IsQuietRun p (e ∷ log) old new leads =
    AreHarmless p (heard_place p.name log) leads.2.before × IsQuietRun p log old leads.0 leads.1

-- what a push is worth, by its end
pub record IsWorthInRun (p : Push) (old new : State) (end : Result Outcome PushFault)
    (push : IsPush AskedInRun p old new end) : Type 0 where
  pub pushed : end ≡ Ok Pushed → IsQuietRun p (log_of p push.heard) old new push.leads → IsStored p new
  pub pushed_beside_others : end ≡ Ok Pushed → IsThere p new
  pub already : end ≡ Ok Already → IsThere p new
  pub lawful : IsLawful new

-- The promise of a push in any run of a lawful service.
abbrev pub PushPromiseInRuns : Type 0
PushPromiseInRuns = (p : Push) (old new : State) (end : Result Outcome PushFault) → IsLawfulPush p → IsLawful old
    → (push : IsPush AskedInRun p old new end) → IsWorthInRun p old new end push
