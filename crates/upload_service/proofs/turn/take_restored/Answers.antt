use Rattle.std.proofs.Common.{◌≡◌, ◌++◌, [], List, ℕ, length, sym, ◌∙◌, ap, refl, arith, rules}
use Rattle.std.specs.FinMap as map
use Rattle.upload_service.specs.declared.answer.Answer.TheVariants as answers
use Rattle.upload_service.specs.Machine.{State, Table, Session, Takes}
use Rattle.upload_service.specs.Kept.Tables.{state_of}
use Rattle.upload_service.proofs.Serving.{does, lacks}
use Rattle.upload_service.proofs.turn.take_restored.Goals as goal

pub returns-in-Ok : goal.returns-in-Ok
returns-in-Ok c = λ session is named.
    let s : State = state_of c.args.tables.now in
    let ok = c.in-Ok.ensures.ok session is in
    let all : c.args.received ≡ session.received ++ c.args.received = ap (λ r. r ++ c.args.received) (sym ok.0) in
    let o = Takes c.args.name c.args.at (session.received ++ c.args.received) in
    does s c.args.now o o
    (answers.Taken c.args.name c.args.at c.len-next.result) (record s { sessions = c.restore.new.self }) refl
    (ap (answers.Taken c.args.name c.args.at) (c.len-next.ensures ∙ ap length all))
    (λ i. record s {
      sessions = (ok.1 ∙ (λ j. map.insert s.sessions c.args.at
          (record { name = named j; received = all j; seen = c.args.now }))) i;
    })

pub returns-in-Err : goal.returns-in-Err
returns-in-Err c = search (rules, arith, lacks)
