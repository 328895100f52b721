use Rattle.std.proofs.Common.{arith, sym, rules}
use Rattle.std.proofs.lemmas.Bool.{eqb-true}
use Rattle.http_wire.proofs.Heads.FieldLemmas.{length_of-empty, length_of-other, length_of-over, length_of-ok}
use Rattle.http_wire.proofs.Heads.FieldLemmas.{value-next}
use Rattle.http_wire.proofs.Heads.FieldLemmas.{take_to_end, some_length, digits-next, digit-minus}
use Rattle.http_wire.proofs.body.length_of.Goals as goal
use Rattle.http_wire.proofs.body.length_of.Goals.{then-total-max_body, else-total-max_body}

pub returns-then-is_empty-clause-value : goal.returns-then-is_empty-clause-value
returns-then-is_empty-clause-value c = search (rules, arith, length_of-empty, eqb-true)

pub returns-then-not-is_ascii_digit-clause-value : goal.returns-then-not-is_ascii_digit-clause-value
returns-then-not-is_ascii_digit-clause-value c =
    cc (length_of-other c.args.max_body c.args.value.now c.loop-b.b-index c.loop-b-test.true (sym c.if-not-is_ascii_digit.ensures.value))

pub loop-b-preserved : goal.loop-b-preserved
loop-b-preserved c = search (rules, arith, digits-next, value-next, digit-minus)

pub returns-then-total-max_body-2-clause-value : goal.returns-then-total-max_body-2-clause-value
returns-then-total-max_body-2-clause-value c = search (rules, arith, take_to_end, length_of-over, some_length)

pub returns-clause-value : goal.returns-clause-value
returns-clause-value c = search (rules, arith, take_to_end, length_of-ok, some_length)
