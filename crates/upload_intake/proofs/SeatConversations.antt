-- What a conversation over a seat added to it.
use Rattle.std.proofs.lemmas.Grind.{common_steps}
use Rattle.std.proofs.Common.{◌≡◌, ℕ, List, [], ◌∷◌, ◌++◌, Ok, Err, sym, ap}
use Rattle.std.proofs.Common.{append-nil, append_assoc, arith, rules}
use Rattle.std.proofs.lemmas.List.{map-append}
use Rattle.upload_service.specs.declared.ask.Ask.{Ask}
use Rattle.upload_keeper.specs.declared.gone.Gone.{Gone}
use Rattle.upload_keeper.specs.declared.gone.Gone.TheVariants.{NotSent, NoAnswer}
use Rattle.upload_keeper.specs.Seats.{SeatState, Asks}
use Rattle.upload_intake.specs.SeatConversations.{Adds, SeatSteps}
use Rattle.upload_intake.specs.SeatConversations.{ConversationsFillTheSeat}
use Rattle.upload_wire.specs.ConnectionRuns.{answered_last, unanswered_last, answered, unanswered}
use Rattle.upload_wire.specs.Conversation.{Moves, WireExchange, Answers, ConnectionState, Standing, EndsWith}
use Rattle.upload_wire.specs.Conversation.{IsConversation}
use Rattle.upload_wire.specs.declared.connection.ConnEnd.{ConnEnd}
use Rattle.upload_wire.specs.declared.connection.ConnEnd.TheVariants.{Clean, AfterClose, AfterBad, TooMany, DeskGone}
use Rattle.upload_wire.specs.declared.connection.ConnEnd.TheVariants.{Fault}
use Rattle.upload_wire.specs.declared.connection.ConnFault.TheVariants as Conn

pub adds_none : (old new : SeatState) → new ≡ old → Adds old new [] []
adds_none old new e = search (rules, arith, append-nil)

adds_one : (old new : SeatState) (x : WireExchange) (secret : List ℕ) → Asks old x.ask secret (Ok x.answer) new
    → Adds old new (x ∷ []) []
adds_one old new x secret a = search (rules, arith)

adds_gone : (old new : SeatState) (ask : Ask) (secret : List ℕ) (gone : Gone) → Asks old ask secret (Err gone) new
    → Adds old new [] (ask ∷ [])
adds_gone old new ask secret (NotSent back) a = search (rules, arith, append-nil)
adds_gone old new ask secret NoAnswer a = search (rules, arith, append-nil)

pub adds_twice : (a b c : SeatState) (xs ys : List WireExchange) (us : List Ask) → Adds a b xs [] → Adds b c ys us
    → Adds a c (xs ++ ys) us
adds_twice a b c xs ys us f g = search (rules, arith, append-nil, append_assoc, map-append)

module _ {D S : Type 0} (draws : S → List ℕ → S → Type 0) (seat : D → SeatState) (secrets : D → S) where
  abbrev steps : Moves D
  steps = SeatSteps {D = D} {S = S} draws seat secrets

  by_answers : (xs : List WireExchange) (old at : D) → Answers steps old xs at → Adds (seat old) (seat at) xs []
  by_answers [] old at e = adds_none (seat old) (seat at) (ap seat (sym e))
  by_answers (x ∷ xs) old at a = grind (arith, common_steps, adds_twice, adds_one, by_answers xs a.0)

  by_end : (max_body : ℕ) (s : Standing D) (new : ConnectionState D) (end : ConnEnd)
      (e : EndsWith steps max_body s new end)
      → Adds (seat s.desk) (seat new.desk) (answered_last steps max_body s new end e)
      (unanswered_last steps max_body s new end e)
  by_end max_body s new Clean e = adds_none (seat s.desk) (seat new.desk) (ap seat e.2.unasked)
  by_end max_body s new AfterClose e = search (rules, arith, adds_one)
  by_end max_body s new AfterBad e = adds_none (seat s.desk) (seat new.desk) (ap seat e.1.unasked)
  by_end max_body s new TooMany e = search (rules, arith, adds_one)
  by_end max_body s new DeskGone e = search (rules, arith, adds_gone)
  by_end max_body s new (Fault (Conn.Wire fault)) e = search (rules, arith, adds_none)
  by_end max_body s new (Fault Conn.Write) e = grind (arith, adds_one, adds_none)

  pub fills : (max_body : ℕ) (old new : ConnectionState D) (end : ConnEnd)
      (c : IsConversation steps max_body old new end)
      → Adds (seat old.desk) (seat new.desk) (answered steps max_body old new end c)
      (unanswered steps max_body old new end c)
  fills max_body old new end c = grind (arith, adds_twice, by_answers, by_end)

pub conversations_fill : {S : Type 0} (draws : S → List ℕ → S → Type 0) → ConversationsFillTheSeat draws
conversations_fill {S} draws = fills {D = SeatState × S} {S = S} draws (λ d. d.0) (λ d. d.1)
