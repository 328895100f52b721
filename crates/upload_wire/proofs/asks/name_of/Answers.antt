use Rattle.std.proofs.Common.{arith, rules}
use Rattle.upload_wire.proofs.AskLemmas.{named_none}
use Rattle.upload_wire.proofs.asks.name_of.Goals as goal

pub returns-in-Err-NotAName : goal.returns-in-Err-NotAName
returns-in-Err-NotAName c = search (rules, arith, named_none)

pub returns-in-Err-TooLong : goal.returns-in-Err-TooLong
returns-in-Err-TooLong c = search (rules, arith, named_none)
