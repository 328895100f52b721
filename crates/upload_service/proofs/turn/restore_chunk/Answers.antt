use Rattle.std.proofs.Common.{◌+◌, ◌<◌, ◌^◌, ◌++◌, sym, subst, refl, arith}
use Rattle.upload_service.specs.declared.turn.Sent.{Sent}
use Rattle.upload_service.specs.declared.ask.Extent.TheVariants.{Absent}
use Rattle.upload_service.specs.declared.answer.Answer.TheVariants as answers
use Rattle.upload_service.specs.declared.answer.Refusal.TheVariants as refusals
use Rattle.upload_service.specs.Machine.{State, Session, Turn, Replies, Takes}
use Rattle.upload_service.specs.Kept.Tables.{state_of, chunk_of, IsPlaced}
use Rattle.upload_service.specs.Kept.Entries.{session_of}
use Rattle.upload_service.proofs.Serving.{does, comes_by, turned_away_there, placed_there, nowhere}
use Rattle.upload_service.proofs.turn.restore_chunk.Goals as goal

pub returns-in_default : goal.returns-in_default
unfolding Turn
returns-in_default c = λ secret.
    let s : State = state_of c.args.tables.now in
    let sent : Sent = record {
      name = c.args.name;
      at = c.args.at;
      range = Absent;
      body = c.args.received;
    } in
    does s c.args.now (chunk_of s c.args.now sent) (Replies (answers.Refused refusals.NoUpload))
    (answers.Refused refusals.NoUpload) s (nowhere s c.args.now sent c.in_default.ensures.none).chunk refl refl

pub returns-in-Fits : goal.returns-in-Fits
unfolding Turn
returns-in-Fits c = λ secret.
    let s : State = state_of c.args.tables.now in
    let sent : Sent = record {
      name = c.args.name;
      at = c.args.at;
      range = Absent;
      body = c.args.received;
    } in
    let session : Session = session_of c.in-Some.session.now in
    let placed : IsPlaced s c.args.now sent
    (record { name = sent.name; at = sent.at; body = sent.body; next = c.len-next.result }) =
    placed_there s c.args.now sent session c.len-next.result
    c.in-Some.ensures.found c.in-Some.ensures.named c.len-next.ensures
    (subst (λ n. c.len-next.result + n < 2 ^ 64) c.len.ensures (omega (arith, c.in-Fits.ensures.small refl)))
    (c.in-Fits.ensures.verdict sent.name sent.at sent.body (sym c.len.ensures)) in
    comes_by s c.args.now (chunk_of s c.args.now sent) (Takes sent.name sent.at (placed.session.received ++ sent.body))
    c.take_restored.result (state_of c.take_restored.new.tables) placed.chunk
    (c.take_restored.ensures placed.session placed.is_open placed.named)

pub returns-in-Misplaced : goal.returns-in-Misplaced
unfolding Turn
returns-in-Misplaced c = λ secret.
    let s : State = state_of c.args.tables.now in
    let sent : Sent = record {
      name = c.args.name;
      at = c.args.at;
      range = Absent;
      body = c.args.received;
    } in
    let session : Session = session_of c.in-Some.session.now in
    does s c.args.now (chunk_of s c.args.now sent)
    (Replies (answers.Misplaced sent.name sent.at c.len-next.result))
    (answers.Misplaced sent.name sent.at c.len-next.result) s
    (turned_away_there s c.args.now sent session c.len-next.result
    (answers.Misplaced sent.name sent.at c.len-next.result)
    c.in-Some.ensures.found c.in-Some.ensures.named c.len-next.ensures
    (c.in-Misplaced.ensures.verdict sent.name sent.at sent.body (sym c.len.ensures))).chunk refl refl

pub returns-in-Refused : goal.returns-in-Refused
unfolding Turn
returns-in-Refused c = λ secret.
    let s : State = state_of c.args.tables.now in
    let sent : Sent = record {
      name = c.args.name;
      at = c.args.at;
      range = Absent;
      body = c.args.received;
    } in
    let session : Session = session_of c.in-Some.session.now in
    does s c.args.now (chunk_of s c.args.now sent) (Replies (answers.Refused c.in-Refused.refusal))
    (answers.Refused c.in-Refused.refusal) s
    (turned_away_there s c.args.now sent session c.len-next.result (answers.Refused c.in-Refused.refusal)
    c.in-Some.ensures.found c.in-Some.ensures.named c.len-next.ensures
    (c.in-Refused.ensures.verdict sent.name sent.at sent.body (sym c.len.ensures))).chunk refl refl
