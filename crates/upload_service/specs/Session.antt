-- What one session is in a run: its exchanges, the chunks it took, what it has received, and when it is closed.
use Rattle.std.specs.List.{list_any}
use Rattle.std.specs.Prelude.{ℕ, ◌+◌, ◌||◌, ◌&&◌, nat_lt, Bool, false, List, [], ◌∷◌, ◌++◌, filter, flat_map}
use Rattle.std.specs.Prelude.{Option, Some, None, is_some, if◌then◌else◌}
use Rattle.std.specs.FinMap as map
use Rattle.upload_service.specs.declared.ask.Ask.{Ask}
use Rattle.upload_service.specs.declared.ask.Extent.{Extent}
use Rattle.upload_service.specs.declared.answer.Answer.{Answer}
use Rattle.upload_service.specs.UploadView.{Act, act_view, upload_view, on_session, answer_view}
use Rattle.upload_service.specs.Machine.{same, Session, State}
use Rattle.upload_service.specs.Run.{Exchange}

-- the request carries this reference
abbrev pub carries : List ℕ → Ask → Bool
carries at ask = on_session (upload_view ask) false (λ name to act. same at to)

-- there is one, and it is this
abbrev pub is_same : List ℕ → Option (List ℕ) → Bool
is_same at None = false
is_same at (Some to) = same at to

-- the answer begins a session of this reference
abbrev pub begins : List ℕ → Answer → Bool
begins at answer = is_same at (answer_view answer).begun

-- the exchanges of one session, in their order
abbrev pub is_part : List ℕ → Exchange → Bool
is_part at x = carries at x.ask || begins at x.answer

abbrev pub part : List Exchange → List ℕ → List Exchange
part xs at = filter (is_part at) xs

abbrev pub is_taken : Answer → Bool
is_taken answer = (answer_view answer).took

abbrev pub is_stored : Answer → Bool
is_stored answer = is_some (answer_view answer).pair

abbrev pub chunk_if : Bool → Option (Extent × List ℕ) → List (List ℕ)
chunk_if accepted None = []
chunk_if accepted (Some (range, body)) = if accepted then body ∷ [] else []

-- the body that a session takes: a chunk answered Taken, or a close answered Stored
abbrev pub accepted_by : Act → Answer → List (List ℕ)
accepted_by act answer =
    chunk_if (if (act_view act).closes then is_stored answer else is_taken answer) (act_view act).chunk

abbrev pub accepted_of : Ask → Answer → List (List ℕ)
accepted_of ask answer = on_session (upload_view ask) [] (λ name at act. accepted_by act answer)

abbrev pub accepted : Exchange → List (List ℕ)
accepted x = accepted_of x.ask x.answer

-- the chunks that the session took, in the order taken
abbrev pub taken : List Exchange → List ℕ → List (List ℕ)
taken xs at = flat_map accepted (part xs at)

abbrev pub joined_chunks : List (List ℕ) → List ℕ
joined_chunks chunks = flat_map (λ chunk. chunk) chunks

abbrev pub bytes_of : Option Session → List ℕ
bytes_of None = []
bytes_of (Some session) = session.received

-- what the session has received: what it had at the start, and then the chunks it took
abbrev pub received : State → List Exchange → List ℕ → List ℕ
received s xs at = bytes_of (map.get s.sessions at) ++ joined_chunks (taken xs at)

-- the session was closed by this request
abbrev pub closed_by : Act → Answer → Bool
closed_by act answer = (act_view act).closes && (answer_view answer).closed

abbrev pub closes_of : List ℕ → Ask → Answer → Bool
closes_of at ask answer = on_session (upload_view ask) false (λ name to act. same at to && closed_by act answer)

-- the exchange touches the session: it begins it, or the session takes its chunk
abbrev pub touches : List ℕ → Exchange → Bool
touches at x = begins at x.answer || (carries at x.ask && is_taken x.answer)

-- when a session was last touched, if it ever was
abbrev pub seen_of : Option Session → Option ℕ
seen_of None = None
seen_of (Some session) = Some session.seen

abbrev pub is_late : ℕ → Option ℕ → ℕ → Bool
is_late max_idle None now = false
is_late max_idle (Some touched) now = nat_lt (touched + max_idle) now

-- some exchange, of whichever session, came more than max_idle after the last touch before it, or this moment does
abbrev pub is_lapsed : ℕ → List ℕ → Option ℕ → List Exchange → ℕ → Bool
is_lapsed max_idle at touched [] now = is_late max_idle touched now
is_lapsed max_idle at touched (x ∷ xs) now =
    is_late max_idle touched x.now || is_lapsed max_idle at (if touches at x then Some x.now else touched) xs now

-- the session was closed, or fell idle, in these exchanges, or is idle at this moment behind them
abbrev pub session_is_closed : State → List Exchange → List ℕ → ℕ → Bool
session_is_closed start xs at now =
    list_any (λ x. closes_of at x.ask x.answer) xs
    || is_lapsed start.limits.max_idle at (seen_of (map.get start.sessions at)) xs now
