-- What each move of a desk keeps, a whole conversation keeps.
use Rattle.std.proofs.Common.{◌≡◌, ℕ, List, [], ◌∷◌, Option, Some, None, Result, Ok, Err, sym, refl, ◌∙◌, subst}
use Rattle.std.proofs.Common.{arith, rules}
use Rattle.upload_service.specs.declared.ask.Ask.{Ask}
use Rattle.upload_service.specs.declared.answer.Answer.{Answer}
use Rattle.upload_keeper.specs.declared.gone.Gone.{Gone}
use Rattle.upload_keeper.specs.Seats.{SeatState, Asks, Hears, IsSameSeat}
use Rattle.upload_intake.specs.SeatMoves.{AsksWithDrawn}
use Rattle.upload_intake.specs.Desks.{seat_of, secrets_of}
use Rattle.upload_intake.specs.Notices.{Watching}
use Rattle.upload_intake.specs.Watched.{GateAt, WatchesOne}
use Rattle.upload_intake.specs.declared.desk.GatedDesk.{GatedDesk}
use Rattle.upload_wire.specs.declared.connection.ConnEnd.{ConnEnd}
use Rattle.upload_wire.specs.Conversation.{Moves, WireExchange, Answers, ConnectionState, Standing, EndsWith}
use Rattle.upload_wire.specs.Conversation.{IsConversation}

module _ {D : Type 0} (step : Moves D) (Keeps : D → D → Type 0) (same : (d : D) → Keeps d d)
    (joined : (a b c : D) → Keeps a b → Keeps b c → Keeps a c)
    (each : (old : D) (ask : Ask) (answer : Option Answer) (new : D) → step old ask answer new → Keeps old new) where
  unmoved : (at new : D) → new ≡ at → Keeps at new
  unmoved at new e = subst (λ d. Keeps at d) (sym e) (same at)

  by_answers : (xs : List WireExchange) (old at : D) → Answers step old xs at → Keeps old at
  by_answers [] old at e = unmoved old at (sym e)
  by_answers (x ∷ xs) old at a = joined old a.0 at (each old x.ask (Some x.answer) a.0 a.1) (by_answers xs a.0 at a.2)

  by_end : (max_body : ℕ) (s : Standing D) (new : ConnectionState D) (end : ConnEnd)
      → EndsWith step max_body s new end → Keeps s.desk new.desk
  by_end max_body s new end e = search (rules, arith, unmoved)

  pub kept_by : (max_body : ℕ) (old new : ConnectionState D) (end : ConnEnd)
      → IsConversation step max_body old new end → Keeps old.desk new.desk
  kept_by max_body old new end c = search (rules, arith, by_answers, by_end)

-- what was heard of a request with a drawn secret
pub hears_drawn : {S : Type 0} (draws : S → List ℕ → S → Type 0) (old new : SeatState × S) (ask : Ask) (secret : List ℕ)
    (heard : Option Answer) → draws old.1 secret new.1 → Hears old.0 ask secret heard new.0
    → AsksWithDrawn draws old ask heard new
hears_drawn draws old new ask secret (Some answer) drawn h = (secret, drawn, h)
hears_drawn draws old new ask secret None drawn h = (secret, h.0, drawn, h.1)

-- a call of a seat leaves its lines and its number
asks_same : (old : SeatState) (ask : Ask) (secret : List ℕ) (result : Result Answer Gone) (new : SeatState)
    → Asks old ask secret result new → IsSameSeat old new
asks_same old ask secret result new a = search (rules, arith)

pub drawn_same : {S : Type 0} (draws : S → List ℕ → S → Type 0) (old : SeatState × S) (ask : Ask)
    (answer : Option Answer) (new : SeatState × S) → AsksWithDrawn draws old ask answer new → IsSameSeat old.0 new.0
drawn_same draws old ask (Some answer) new a = asks_same old.0 ask a.0 (Ok answer) new.0 a.2
drawn_same draws old ask None new a = asks_same old.0 ask a.0 (Err a.1) new.0 a.3

pub same_seat : (seat : SeatState) → IsSameSeat seat seat
same_seat seat = record { jobs = refl; replies = refl; seat = refl }

pub same_seat_twice : (a b c : SeatState) → IsSameSeat a b → IsSameSeat b c → IsSameSeat a c
same_seat_twice a b c p q = record { jobs = q.jobs ∙ p.jobs; replies = q.replies ∙ p.replies; seat = q.seat ∙ p.seat }

-- the gate of a worker's desk, behind so many turns
abbrev pub gate_at : {R S G : Type 0} → GatedDesk R S G → GateAt G
gate_at d = record { gate = d.gate; turn = d.turn }

-- how a worker's desk moves
abbrev pub GatedSteps : {R S G : Type 0} → (S → List ℕ → S → Type 0) → Watching G → Moves (GatedDesk R S G)
GatedSteps draws watches a ask answer b =
    AsksWithDrawn draws (seat_of a.desk, secrets_of a.desk) ask answer (seat_of b.desk, secrets_of b.desk)
    × WatchesOne watches (gate_at a) ask answer (gate_at b)

-- it has the same seat behind a conversation
pub gated_same : {R S G : Type 0} (draws : S → List ℕ → S → Type 0) (watches : Watching G) (max_body : ℕ)
    (old new : ConnectionState (GatedDesk R S G)) (end : ConnEnd)
    → IsConversation (GatedSteps {R = R} draws watches) max_body old new end
    → IsSameSeat (seat_of old.desk.desk) (seat_of new.desk.desk)
gated_same {R} {S} {G} draws watches max_body old new end c =
    kept_by {D = GatedDesk R S G} (GatedSteps {R = R} draws watches)
    (λ a b. IsSameSeat (seat_of a.desk) (seat_of b.desk))
    (λ d. same_seat (seat_of d.desk))
    (λ x y z p q. same_seat_twice (seat_of x.desk) (seat_of y.desk) (seat_of z.desk) p q)
    (λ a ask answer b m. drawn_same draws (seat_of a.desk, secrets_of a.desk) ask answer
    (seat_of b.desk, secrets_of b.desk) m.0)
    max_body old new end c
