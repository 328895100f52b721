use Rattle.std.proofs.Common.{arith, rules}
use Rattle.upload_names.proofs.DigestFacts.{digest_of-spells}
use Rattle.blobd_push.proofs.PrintedTexts.{digest_utf8, read_text}
use Rattle.blobd_push.proofs.push.print_digest.Goals as goal

pub returns : goal.returns
returns g c = search (rules, arith, digest_of-spells, read_text, digest_utf8)
