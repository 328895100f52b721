use Rattle.upload_wire.proofs.TargetLemmas.{no_form_with, no_form_without}
use Rattle.http_wire.proofs.Heads.FieldLemmas.{some_length}
use Rattle.upload_wire.proofs.asks.form_of.Goals as goal

pub returns-in_default-cut_last : goal.returns-in_default-cut_last
returns-in_default-cut_last c =
    no_form_without c.args.path.now c.in-Some.rest.now c.in-Some.ensures
    (some_length c.in-Some.rest.now c.if-is_empty.ensures)
    c.in_default-cut_last.ensures

pub returns-in_default-before-2 : goal.returns-in_default-before-2
returns-in_default-before-2 c =
    no_form_with c.args.path.now c.in-Some.rest.now c.in-Some-cut_last.front.now c.in-Some-cut_last.tail.now
    c.in-Some.ensures
    c.in-Some-cut_last.ensures.0 c.in-Some-cut_last.ensures.1 c.in_default-before.ensures c.in_default-before-2.ensures
