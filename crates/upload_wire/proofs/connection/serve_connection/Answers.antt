use Rattle.std.proofs.Common.{arith, rules}
use Rattle.upload_wire.proofs.ConversationLemmas.{ends_at_once}
use Rattle.upload_wire.proofs.connection.serve_connection.Goals as goal

pub returns-in_default : goal.returns-in_default
returns-in_default g c = search (rules, arith, ends_at_once)
