-- What a gate is told over whole conversations.
use Rattle.std.proofs.Common.{◌≡◌, ℕ, List, [], ◌∷◌, ◌++◌, length, Option, Some, None, sym, refl, ap, subst}
use Rattle.std.proofs.Common.{arith, rules}
use Rattle.upload_service.specs.declared.ask.Ask.{Ask}
use Rattle.upload_service.specs.declared.answer.Answer.{Answer}
use Rattle.upload_intake.specs.Notices.{Watching}
use Rattle.upload_intake.specs.Watched.{GateAt, WatchesOne, WatchesEach, WatchesLast}
use Rattle.upload_wire.specs.Conversation.{Moves, WireExchange, Answers, ConnectionState, Standing, stand, EndsWith}
use Rattle.upload_wire.specs.Conversation.{IsConversation}
use Rattle.upload_wire.specs.ConnectionRuns.{answered_last, unanswered_last, answered, unanswered}
use Rattle.upload_wire.specs.declared.connection.ConnEnd.{ConnEnd}
use Rattle.upload_wire.specs.declared.connection.ConnEnd.TheVariants.{Clean, AfterClose, AfterBad, TooMany, DeskGone}
use Rattle.upload_wire.specs.declared.connection.ConnEnd.TheVariants.{Fault}
use Rattle.upload_wire.specs.declared.connection.ConnFault.TheVariants as Conn

pub each_twice : {G : Type 0} (watches : Watching G) (a b c : GateAt G) (xs ys : List WireExchange)
    → WatchesEach watches a xs b → WatchesEach watches b ys c → WatchesEach watches a (xs ++ ys) c
each_twice {G} watches a b c [] ys p q = subst (λ (x : GateAt G). WatchesEach watches x ys c) p q
each_twice watches a b c (x ∷ xs) ys p q = (p.0, p.1, each_twice watches p.0 b c xs ys p.2 q)

module _ {G D : Type 0} (watches : Watching G) (step : Moves D) (gate : D → GateAt G)
    (each : (old : D) (ask : Ask) (answer : Option Answer) (new : D) → step old ask answer new
    → WatchesOne watches (gate old) ask answer (gate new)) where
  -- from one desk to another by these exchanges
  abbrev Along : D → List WireExchange → D → Type 0
  Along old xs new = WatchesEach watches (gate old) xs (gate new)

  unmoved : (at new : D) → new ≡ at → Along at [] new
  unmoved at new e = ap gate e

  one : (x : WireExchange) (at new : D) → step at x.ask (Some x.answer) new → Along at (x ∷ []) new
  one x at new moved = (gate new, each at x.ask (Some x.answer) new moved, refl)

  by_answers : (xs : List WireExchange) (old at : D) → Answers step old xs at → Along old xs at
  by_answers [] old at e = unmoved old at (sym e)
  by_answers (x ∷ xs) old at a = (gate a.0, each old x.ask (Some x.answer) a.0 a.1, by_answers xs a.0 at a.2)

  by_end : (max_body : ℕ) (s : Standing D) (new : ConnectionState D) (end : ConnEnd)
      (e : EndsWith step max_body s new end) → (end ≡ DeskGone → ⊥)
      → Along s.desk (answered_last step max_body s new end e) new.desk
  by_end max_body s new end e there = search (rules, arith, unmoved, one)

  -- a conversation whose desk was there
  pub watched_on : (max_body : ℕ) (old new : ConnectionState D) (end : ConnEnd)
      (c : IsConversation step max_body old new end) → (end ≡ DeskGone → ⊥)
      → Along old.desk (answered step max_body old new end c) new.desk
  watched_on max_body old new end c there =
      each_twice watches (gate old.desk) (gate c.at) (gate new.desk) c.exchanges _
      (by_answers c.exchanges old.desk c.at c.served.answered)
      (by_end max_body (stand (length c.exchanges) c.rest c.at c.mid) new end c.ended there)

  -- what is told if the desk was gone
  abbrev pub Lost : D → List WireExchange → List Ask → D → Type 0
  Lost old xs asks new =
      (mid : GateAt G) × WatchesEach watches (gate old) xs mid × WatchesLast watches mid asks (gate new).gate

  lost_end : (max_body : ℕ) (s : Standing D) (new : ConnectionState D) (end : ConnEnd)
      (e : EndsWith step max_body s new end) → end ≡ DeskGone
      → Lost s.desk (answered_last step max_body s new end e) (unanswered_last step max_body s new end e) new.desk
  lost_end max_body s new DeskGone e gone =
      (gate s.desk, refl, ((gate new.desk).turn, each s.desk e.0.ask None new.desk e.0.gone))
  lost_end max_body s new Clean e gone = absurd cc
  lost_end max_body s new AfterClose e gone = absurd cc
  lost_end max_body s new AfterBad e gone = absurd cc
  lost_end max_body s new TooMany e gone = absurd cc
  lost_end max_body s new (Fault (Conn.Wire fault)) e gone = absurd cc
  lost_end max_body s new (Fault Conn.Write) e gone = absurd cc

  -- a conversation whose desk was gone
  pub watched_lost : (max_body : ℕ) (old new : ConnectionState D) (end : ConnEnd)
      (c : IsConversation step max_body old new end) → end ≡ DeskGone
      → Lost old.desk (answered step max_body old new end c) (unanswered step max_body old new end c) new.desk
  watched_lost max_body old new end c gone =
      let l = lost_end max_body (stand (length c.exchanges) c.rest c.at c.mid) new end c.ended gone in (
        l.0,
        each_twice watches (gate old.desk) (gate c.at) l.0 c.exchanges _
            (by_answers c.exchanges old.desk c.at c.served.answered) l.1,
        l.2,
      )
