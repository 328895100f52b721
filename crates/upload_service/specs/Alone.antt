-- One session with nothing else of the service, and what it would be told.
use Rattle.std.specs.Prelude.{◌≡◌, ℕ, not, nat_le, Bool, true, false, List, [], ◌∷◌, map as list_map, filter, Option}
use Rattle.std.specs.Prelude.{Some, None}
use Rattle.std.specs.FinMap as map
use Rattle.upload_names.specs.Reference.{number_of}
use Rattle.upload_service.specs.declared.limits.Limits.{Limits}
use Rattle.upload_service.specs.declared.answer.Refusal.TheVariants as refusals
use Rattle.upload_service.specs.declared.ask.Ask.{Ask}
use Rattle.upload_service.specs.declared.answer.Answer.{Answer}
use Rattle.upload_service.specs.declared.answer.Answer.TheVariants as answers
use Rattle.upload_service.specs.UploadView.{upload_view, on_session, opened_under, answer_view}
use Rattle.upload_service.specs.Machine.{unless_idle, Session, State, Outcome, SessionChange, AllStay, OneBegins}
use Rattle.upload_service.specs.Machine.{OneTakes, OneLeaves, effect, answer_of, refused, at_session}
use Rattle.upload_service.specs.Run.{Exchange}
use Rattle.upload_service.specs.Session.{part, received}

-- One session, with nothing else of the service but its limits, of which two count: the largest size of a blob and the
-- longest idle time.
pub data Life : Type 0 where
  Unborn : Life
  Open : (session : Session) → Life
  Gone : Life

abbrev pub life_of : Option Session → Bool → Life
life_of (Some session) issued = Open session
life_of None true = Gone
life_of None false = Unborn

-- what a session is in a state
abbrev pub life_in : State → List ℕ → Life
life_in s at = life_of (map.get s.sessions at) (nat_le (number_of at) s.issued)

-- an open session after a change of just this one, and after what a request came to
abbrev pub life_with : Session → ℕ → SessionChange → Life
life_with session now AllStay = Open session
life_with session now (OneBegins name at) = Open session
life_with session now (OneTakes name at received) = Open (record { name = name; received = received; seen = now })
life_with session now (OneLeaves at) = Gone

abbrev pub life_after : Session → ℕ → Outcome → Life
life_after session now o = life_with session now (effect o).sessions

-- what a request to the session comes to
abbrev pub alone_outcome : Limits → Session → Ask → ℕ → Outcome
alone_outcome limits session ask now =
    on_session (upload_view ask) (refused refusals.NoUpload)
    (at_session limits.max_blob (unless_idle limits.max_idle now (Some session)))

-- the answer to a request, and the session after it, if the session isn't there yet: by the name under which the
-- request asks for a new one
abbrev pub first_answer : List ℕ → Option (List ℕ) → Answer
first_answer at (Some name) = answers.Begun name at
first_answer at None = answers.Refused refusals.NoUpload

abbrev pub first_life : Option (List ℕ) → ℕ → Life
first_life (Some name) now = Open (record { name = name; received = []; seen = now })
first_life None now = Unborn

-- the answer to a request, and the session after it, if the session is alone
abbrev pub alone_answer : Limits → List ℕ → Life → Ask → ℕ → Answer
alone_answer limits at Unborn ask now = first_answer at (opened_under (upload_view ask))
alone_answer limits at (Open session) ask now = answer_of (alone_outcome limits session ask now)
alone_answer limits at Gone ask now = answers.Refused refusals.NoUpload

abbrev pub alone_after : Limits → Life → Ask → ℕ → Life
alone_after limits Unborn ask now = first_life (opened_under (upload_view ask)) now
alone_after limits (Open session) ask now = life_after session now (alone_outcome limits session ask now)
alone_after limits Gone ask now = Gone

-- the answers to the requests of one session that is alone, each at its moment
abbrev pub alone : Limits → List ℕ → Life → List (Ask × ℕ) → List Answer
alone limits at life [] = []
alone limits at life ((ask, now) ∷ asked) =
    alone_answer limits at life ask now ∷ alone limits at (alone_after limits life ask now) asked

abbrev pub lacks_memory : Answer → Bool
lacks_memory answer = (answer_view answer).no_memory

-- what one session was told, refusals for memory left out
abbrev pub told : List Exchange → List ℕ → List Exchange
told xs at = filter (λ x. not (lacks_memory x.answer)) (part xs at)

-- each session is told what it would be told alone
abbrev pub IsToldAsAlone : State → List Exchange → List ℕ → Type 0
IsToldAsAlone start xs at =
    list_map (λ x. x.answer) (told xs at)
    ≡ alone start.limits at (life_in start at) (list_map (λ x. (x.ask, x.now)) (told xs at))
