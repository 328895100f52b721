use Rattle.upload_bytes.proofs.Prefixes.{has_all}
use Rattle.upload_bytes.proofs.filing.PrefixFile.catch_up.Goals as goal

pub returns : goal.returns
returns c = has_all c.args.parts.now c.args.self.held _ (c.write_behind.ensures _ c.requires.has)
