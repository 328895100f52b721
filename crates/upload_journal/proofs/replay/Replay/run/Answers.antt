use Rattle.std.proofs.Common.{◌≡◌, Bool, true, false, sym, refl, ap, subst, ◌∙◌, arith, rules}
use Rattle.upload_journal.specs.Stops.{AnswersOtherwise}
use Rattle.upload_service.specs.Machine.{State}
use Rattle.upload_service.specs.Run.{Exchange}
use Rattle.upload_journal.specs.Replay.{Exchanged, Point}
use Rattle.upload_journal.proofs.Failing.{files_fail}
use Rattle.upload_journal.proofs.Restart.{turn_stays}
use Rattle.upload_journal.proofs.Foresight.{never_comes, answer_is, tells_none}
use Rattle.upload_journal.proofs.replay.Replay.run.Goals as goal

pub returns-in-Same-clause-ok : goal.returns-in-Same-clause-ok
returns-in-Same-clause-ok g c =
    let x : Exchange = record {
      ask = c.in-Ok.ask;
      secret = c.args.exchange.secret;
      now = c.args.exchange.now;
      answer = c.serve.result;
    } in
    let new : Point =
    record { state = c.serve.new.service; last = c.args.exchange.now; upto = c.self.inside.upto } in (
      x,
      record { ask = c.in-Ok.ensures.asked; secret = refl; now = refl; answer = c.in-Same.ensures.same refl },
      subst (λ (old : Point). Exchanged old x new) c.self.view_is
          (record { turn = c.serve.ensures.turn; later = c.if-now-self.false; last = refl; upto = refl }),
    )

pub returns-in-NoMemory-clause-err : goal.returns-in-NoMemory-clause-err
returns-in-NoMemory-clause-err g c = search (rules, arith, turn_stays)

apart : (b : Bool) → b ≡ true → b ≡ false → ⊥
apart b e n = absurd (cc (sym e ∙ n))

pub returns-in-Other-clause-err : goal.returns-in-Other-clause-err
returns-in-Other-clause-err g c =
    let other = c.in-Other.ensures.other refl in
    let will = c.may_come.ensures.0 c.if-not-may_come.false in
    let none = tells_none c.self.inside.service c.in-Ok.ask c.args.exchange.secret c.args.exchange.now c.serve.result
    c.serve.new.service c.args.exchange.answer c.serve.ensures.turn other.1 will other.0 in
    let same = turn_stays c.self.inside.service c.in-Ok.ask c.args.exchange.secret c.args.exchange.now c.serve.result
    c.serve.new.service c.serve.ensures.turn none in
    ap (λ (s : State). record { state = s; last = c.self.inside.last; upto = c.self.inside.upto }) same ∙ c.self.view_is

pub returns-in-Other-clause-cause : goal.returns-in-Other-clause-cause
returns-in-Other-clause-cause g c first kept = search (rules, arith, answer_is)

pub returns-then-not-may_come-clause-cause : goal.returns-then-not-may_come-clause-cause
returns-then-not-may_come-clause-cause g c first kept =
    let stands = g.B.Bodies.stands c.ask_of.new.bodies in
    let it : Point =
    record { state = c.self.inside.service; last = c.self.inside.last; upto = c.self.inside.upto } in
    let otherwise : AnswersOtherwise stands (g.B.Bodies.refused first c.ask_of.new.bodies) it c.args.exchange = record {
      ask = c.in-Ok.ask;
      asked = c.in-Ok.ensures.asked;
      other =
          never_comes c.self.inside.service c.in-Ok.ask c.args.exchange.secret c.args.exchange.now
          c.args.exchange.answer (λ will. apart _ (c.may_come.ensures.1 will) c.if-not-may_come.true);
      later = c.if-now-self.false;
    } in
    subst (λ p. AnswersOtherwise stands (g.B.Bodies.refused first c.ask_of.new.bodies) p c.args.exchange) c.self.view_is
    otherwise

pub returns-in-Err-clause-cause : goal.returns-in-Err-clause-cause
returns-in-Err-clause-cause g c first kept = search (rules, arith, files_fail)
