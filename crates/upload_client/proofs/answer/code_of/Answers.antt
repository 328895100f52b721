use Rattle.std.proofs.Common.{arith, rules}
use Rattle.http_wire.proofs.Heads.FieldLemmas.{not_both}
use Rattle.upload_client.proofs.CodeLemmas.{code_none, code_some}
use Rattle.upload_client.proofs.answer.code_of.Goals as goal

pub returns-else-is_memory : goal.returns-else-is_memory
returns-else-is_memory c = search (rules, arith, code_none, not_both)

pub returns-in_default : goal.returns-in_default
returns-in_default c = search (rules, arith, code_some)

pub returns-in-Ok-from_slice : goal.returns-in-Ok-from_slice
returns-in-Ok-from_slice c = search (rules, arith, code_some)
