use Rattle.std.proofs.Common.{◌∙◌, subst}
use Rattle.journal.specs.Machine.{Runs}
use Rattle.journal.proofs.life.live_on.Goals as goal

pub returns-clause-ran : goal.returns-clause-ran
returns-clause-ran g c clean =
    let last = c.in_default.ensures.ran clean in
    let each_clean = c.restart.ensures.clean clean in
    let first = c.restart_each.ensures.any_crash each_clean last.0 last.1 in
    let them =
    c.append_each-acknowledged.ensures.any_crash (c.restart_each.ensures.clean each_clean) first.0 first.1 in
    let all = first.2 ∙ them.4 in (
      them.0,
      them.1,
      them.2,
      them.3,
      subst (λ l. Runs g.M.Machine.steps c.args.machine.now l c.restart.new.machine) all last.2,
      last.3 ∙ all,
    )
