use Rattle.std.proofs.Common.{◌≡◌, ◌≢◌, ◌≤◌, length, sym, ◌∙◌, ap, subst, refl}
use Rattle.std.proofs.lemmas.Bool.{true≢false}
use Rattle.upload_names.specs.Digest.{content_digest}
use Rattle.upload_service.specs.Machine.{Turn, Stores, refused}
use Rattle.upload_service.specs.declared.answer.Refusal.TheVariants as refusals
use Rattle.upload_service.proofs.Serving.{comes_by, does, single_fits, single_stores, mismatch}
use Rattle.upload_service.proofs.turn.single.Goals as goal

pub returns-then-not-same-clause-turn : goal.returns-then-not-same-clause-turn
unfolding Turn
returns-then-not-same-clause-turn c = λ _ now.
    let fits : length c.args.body ≤ c.args.tables.now.limits.max_blob =
    subst (λ n. n ≤ c.args.tables.now.limits.max_blob) c.len.ensures c.if-len-tables.false in
    let content : c.digest-content.result ≡ content_digest c.in-Some.digest.algorithm c.args.body =
    c.digest-content.ensures ∙ ap (λ a. content_digest a c.args.body) c.algorithm.ensures in
    let other : content_digest c.in-Some.digest.algorithm c.args.body ≢ c.in-Some.digest =
    λ e. true≢false (sym (c.same.ensures.1 (content ∙ e)) ∙ c.if-not-same.true) in
    does _ _ _ (refused refusals.Mismatch) _ _
    (single_fits c.args.tables.now.limits.max_blob c.args.name c.args.body c.args.digest c.in-Some.digest fits
    c.in-Some.is
    ∙ mismatch c.in-Some.digest c.args.body (λ d. Stores c.args.name d c.args.body) other) refl refl

pub returns-clause-turn : goal.returns-clause-turn
unfolding Turn
returns-clause-turn c = λ _ now.
    let fits : length c.args.body ≤ c.args.tables.now.limits.max_blob =
    subst (λ n. n ≤ c.args.tables.now.limits.max_blob) c.len.ensures c.if-len-tables.false in
    let content : c.digest-content.result ≡ content_digest c.in-Some.digest.algorithm c.args.body =
    c.digest-content.ensures ∙ ap (λ a. content_digest a c.args.body) c.algorithm.ensures in
    let own : content_digest c.in-Some.digest.algorithm c.args.body ≡ c.in-Some.digest =
    sym content ∙ c.same.ensures.0 c.if-not-same.false in
    comes_by _ _ _ (Stores c.args.name c.in-Some.digest c.args.body) _ _
    (single_stores c.args.tables.now.limits.max_blob c.args.name c.args.body c.args.digest c.in-Some.digest fits
    c.in-Some.is own)
    (c.store_single.ensures.turn now)
