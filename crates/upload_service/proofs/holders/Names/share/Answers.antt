use Rattle.std.proofs.Common.{sym, ◌∙◌, ap, arith, rules}
use Rattle.std.specs.Prelude.{◌||◌}
use Rattle.std.specs.List.{list_any}
use Rattle.std.proofs.lemmas.Result.{IfOk-weaker}
use Rattle.upload_service.specs.Machine.{same}
use Rattle.upload_service.proofs.Keeping.Holding.{shared_more, any_key, still_key, new_key, one_key, known_one, always}
use Rattle.upload_service.proofs.holders.Names.share.Goals as goal

pub returns-in-Some-clause-shared : goal.returns-in-Some-clause-shared
returns-in-Some-clause-shared c =
    IfOk-weaker c.try_clone.result _ _
    (λ given is. is ∙ c.self.invariant c.args.name.now c.in-Some.shared.now (sym c.in-Some.ensures.value))
    c.try_clone.ensures

pub returns-in-Some-clause-known : goal.returns-in-Some-clause-known
returns-in-Some-clause-known c = search (rules, arith, always, any_key)

pub invariant_of-self-2 : goal.invariant_of-self-2
invariant_of-self-2 c =
    shared_more c.self.inside.shared.entries c.insert.new.self.entries c.in_ok-kept.kept c.in-Ok.shared c.self.invariant
    (c.in-Ok.ensures.ok ∙ c.in_ok-copy.ensures ∙ sym c.in_ok-kept.ensures) c.in_ok-insert.ensures.updates.0

pub returns-clause-known : goal.returns-clause-known
returns-clause-known c =
    cc (new_key c.self.inside.shared.entries c.insert.new.self.entries c.in_ok-kept.kept c.in-Ok.shared c.in_ok-insert.ensures.updates.0 c.args.name.now c.in_ok-kept.ensures)

pub returns-clause-kept : goal.returns-clause-kept
returns-clause-kept c = λ q e.
    still_key c.self.inside.shared.entries c.insert.new.self.entries c.in_ok-kept.kept c.in-Ok.shared
    c.in_ok-insert.ensures.updates.0 q (ap (list_any (same q)) c.self.view_is ∙ e)

pub returns-in-Some-clause-names : goal.returns-in-Some-clause-names
returns-in-Some-clause-names c = search (rules, arith, always, known_one, any_key)

pub returns-clause-names : goal.returns-clause-names
returns-clause-names c = λ q.
    one_key c.self.inside.shared.entries c.insert.new.self.entries c.in_ok-kept.kept c.in-Ok.shared
    c.in_ok-insert.ensures.updates.0 c.args.name.now c.in_ok-kept.ensures q
    ∙ ap (λ names. same q c.args.name.now || list_any (same q) names) c.self.view_is
