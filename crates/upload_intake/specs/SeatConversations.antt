-- What a conversation over a seat added to it: its asks to what was sent, its answers to what was heard.
use Rattle.std.specs.Prelude.{◌≡◌, ℕ, ◌⊎◌, List, [], ◌++◌, map}
use Rattle.upload_service.specs.declared.ask.Ask.{Ask}
use Rattle.upload_service.specs.declared.answer.Answer.{Answer}
use Rattle.upload_keeper.specs.Log.{Job}
use Rattle.upload_keeper.specs.Seats.{SeatState}
use Rattle.upload_intake.specs.SeatMoves.{AsksWithDrawn}
use Rattle.upload_wire.specs.Conversation.{Moves, WireExchange, ConnectionState, IsConversation}
use Rattle.upload_wire.specs.ConnectionRuns.{answered, unanswered}
use Rattle.upload_wire.specs.declared.connection.ConnEnd.{ConnEnd}

abbrev pub asks_of : List WireExchange → List Ask
asks_of xs = map (λ (x : WireExchange). x.ask) xs

abbrev pub answers_of : List WireExchange → List Answer
answers_of xs = map (λ (x : WireExchange). x.answer) xs

abbrev pub asks_in : List Job → List Ask
asks_in jobs = map (λ (j : Job). j.0) jobs

-- The asks, in order, were sent, but for one that was given back unsent; and the answers, in order, were heard.
pub record Adds (old new : SeatState) (answered : List WireExchange) (unanswered : List Ask) : Type 0 where
  pub jobs : List Job
  pub unsent : List Ask
  pub sent : new.sent ≡ old.sent ++ jobs
  pub asks : asks_of answered ++ unanswered ≡ asks_in jobs ++ unsent
  pub given_back : (unsent ≡ []) ⊎ (unsent ≡ unanswered)
  pub heard : new.heard ≡ old.heard ++ answers_of answered

-- the moves of a desk over a seat
abbrev pub SeatSteps : {D S : Type 0} → (S → List ℕ → S → Type 0) → (D → SeatState) → (D → S) → Moves D
SeatSteps draws seat secrets a ask answer b = AsksWithDrawn draws (seat a, secrets a) ask answer (seat b, secrets b)

-- every conversation over a desk that is a seat with secrets adds its asks and its answers to the seat
abbrev pub ConversationsFillTheSeat : {S : Type 0} → (S → List ℕ → S → Type 0) → Type 0
ConversationsFillTheSeat {S} draws =
    (max_body : ℕ) (old new : ConnectionState (SeatState × S)) (end : ConnEnd)
    → (c : IsConversation {D = SeatState × S} (SeatSteps draws (λ d. d.0) (λ d. d.1)) max_body old new end)
    → Adds old.desk.0 new.desk.0
    (answered {D = SeatState × S} (SeatSteps draws (λ d. d.0) (λ d. d.1)) max_body old new end c)
    (unanswered {D = SeatState × S} (SeatSteps draws (λ d. d.0) (λ d. d.1)) max_body old new end c)
