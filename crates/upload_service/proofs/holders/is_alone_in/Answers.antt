use Rattle.std.proofs.Common.{sym, ◌∙◌}
use Rattle.upload_service.proofs.Keeping.Holding.{only_name}
use Rattle.upload_service.proofs.holders.is_alone_in.Goals as goal

pub returns : goal.returns
returns c = λ is.
    only_name c.args.name.now c.args.names.now.keys (sym c.len.ensures.len ∙ c.if-len-ne1.false)
    (sym c.contains.ensures ∙ is)
