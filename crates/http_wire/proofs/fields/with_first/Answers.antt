use Rattle.std.proofs.Common.{arith, rules}
use Rattle.http_wire.proofs.Heads.FirstFieldLemmas.{first-match, first-other, first-kept}
use Rattle.http_wire.proofs.fields.with_first.Goals as goal

pub returns-then-is_same_word : goal.returns-then-is_same_word
returns-then-is_same_word c = search (rules, arith, first-match)

pub returns-else-is_same_word : goal.returns-else-is_same_word
returns-else-is_same_word c = search (rules, arith, first-other)

pub returns-in-Some : goal.returns-in-Some
returns-in-Some c = search (rules, arith, first-kept)
