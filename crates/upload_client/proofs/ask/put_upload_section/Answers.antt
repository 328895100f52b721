use Rattle.std.proofs.Common.{arith, rules}
use Rattle.upload_client.proofs.AskTextLemmas.{upload_section}
use Rattle.upload_client.proofs.ask.put_upload_section.Goals as goal

pub returns : goal.returns
returns g c = search (rules, arith, upload_section)
