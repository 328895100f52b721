use Rattle.blobd_words.proofs.SizeTexts.{number_utf8}
use Rattle.blobd_words.proofs.size.read_number.Goals as goal

pub returns-in-Err : goal.returns-in-Err
returns-in-Err c = λ number is. c.in-Err.ensures.cases.0 (number_utf8 c.args.digits.now number is)
