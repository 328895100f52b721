use Rattle.std.proofs.Common.{arith, ap, ◌∙◌}
use Rattle.std.specs.Prelude.{Err}
use Rattle.upload_journal.proofs.Names.{no_name}
use Rattle.upload_journal.proofs.reading.take_name.Goals as goal

pub returns-in-Err-NotAName : goal.returns-in-Err-NotAName
returns-in-Err-NotAName c =
    let is = c.in-Err-NotAName.is ∙ ap Err c.in-Err-NotAName.field-0-is in
    no_name _ c.in_ok-text.text.now _ c.in_ok-text.ensures
    (λ name. c.read.ensures.not_a_name.0 is name.in_grammar)

pub returns-in-Err-TooLong : goal.returns-in-Err-TooLong
returns-in-Err-TooLong c =
    let is = c.in-Err-TooLong.is ∙ ap Err c.in-Err-TooLong.field-0-is in
    no_name _ c.in_ok-text.text.now _ c.in_ok-text.ensures (λ name.
    let long = (c.read.ensures.too_long.0 is).1 in
    let short = name.short in
    omega (arith, long, short))
