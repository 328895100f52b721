use Rattle.std.proofs.Common.{arith, rules}
use Rattle.blobd_push.proofs.PrintedTexts.{visible_utf8, word_visible, read_text, shown_word}
use Rattle.blobd_push.proofs.push.printable.Goals as goal

pub returns-in-Some : goal.returns-in-Some
returns-in-Some c = search (rules, arith, read_text, visible_utf8, word_visible, shown_word)
