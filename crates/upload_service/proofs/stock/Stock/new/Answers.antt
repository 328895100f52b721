use Rattle.std.proofs.Common.{sym, ◌∙◌}
use Rattle.std.specs.FinSet as set
use Rattle.std.proofs.lemmas.Bool.{true≢false}
use Rattle.upload_service.specs.Machine.{pair_cmp}
use Rattle.upload_service.specs.Kept.Stock.{rows, pairs_of}
use Rattle.upload_service.proofs.stock.Stock.new.Goals as goal

pub invariant_of-result : goal.invariant_of-result
invariant_of-result c = λ name digest has.
    absurd (true≢false
    (sym has ∙ (λ i. set.contains (pairs_of (rows (c.new-2.ensures.empty i) (c.new-3.ensures.empty i))) (name, digest))
    ∙ set.contains-empty pair_cmp (name, digest)))
