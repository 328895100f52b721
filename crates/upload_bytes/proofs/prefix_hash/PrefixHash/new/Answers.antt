use Rattle.upload_bytes.proofs.prefix_hash.PrefixHash.new.Goals as goal

pub returns : goal.returns
returns c = λ settled. c.behind.ensures c.args.algorithm _ settled c.new.ensures
