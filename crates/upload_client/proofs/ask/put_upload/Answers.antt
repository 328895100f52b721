use Rattle.std.proofs.Common.{arith, rules}
use Rattle.upload_client.proofs.AskTextLemmas.{upload_line}
use Rattle.upload_client.proofs.ask.put_upload.Goals as goal

pub returns : goal.returns
returns g c = search (rules, arith, upload_line)
