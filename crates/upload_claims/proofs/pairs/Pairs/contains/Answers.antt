use Rattle.std.proofs.Common.{◌∙◌, sym, ap}
use Rattle.std.specs.FinSet as set
use Rattle.std.specs.FinSet.{FinSet}
use Rattle.upload_service.specs.Machine.{pair_cmp}
use Rattle.upload_service.proofs.Keeping.Tables.{pairs_total}
use Rattle.upload_claims.proofs.pairs.Pairs.contains.Goals as goal

pub returns : goal.returns
returns c =
    c.contains.ensures ∙ sym (set.contains-from_list pairs_total c.self.inside.rows.keys c.args.pair.now)
    ∙ ap (λ (s : FinSet pair_cmp). set.contains s c.args.pair.now) c.self.view_is
