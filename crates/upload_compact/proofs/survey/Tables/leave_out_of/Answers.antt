use Rattle.std.proofs.Common.{ℕ, List, [], sym, subst}
use Rattle.std.specs.List.{All}
use Rattle.std.proofs.lemmas.List.Elements.{All-append, All-cons, All-nil}
use Rattle.upload_names.specs.Digest.{Digest}
use Rattle.upload_compact.specs.Leaving.{IsNotReferenced}
use Rattle.upload_compact.proofs.survey.Tables.leave_out_of.Goals as goal

pub loop-name-preserved : goal.loop-name-preserved
loop-name-preserved c all =
    let Goes = IsNotReferenced c.args.leaving.now in
    let pair : List ℕ × Digest = (c.in-Some.name, c.args.digest) in
    subst (λ items. All Goes items) (sym c.in_ok-push.ensures.items)
    (All-append Goes c.loop-name.gone.items _ (c.loop-name.invariant all)
    (All-cons Goes pair [] (c.keeps.ensures.referred c.if-keeps.false) (All-nil Goes)))
