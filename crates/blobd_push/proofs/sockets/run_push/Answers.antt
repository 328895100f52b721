use Rattle.std.proofs.Common.{rules, [], inl, inr, refl, ◌∙◌}
use Rattle.blobd_push.proofs.PushedLines.{faulted, to_address}
use Rattle.blobd_push.proofs.sockets.run_push.Goals as goal

pub returns-in_default : goal.returns-in_default
returns-in_default g c = ([], inr (faulted c.print_line.ensures, inl refl))

pub returns : goal.returns
returns g c =
    let host = c.as_str.ensures.value ∙ c.in-Ok.ensures.ok in
    to_address c.args.addr host c.new-sockets.ensures c.push_over-status.ensures

pub drop-push_over-requires-lives-T-Destruct : goal.drop-push_over-requires-lives-T-Destruct
drop-push_over-requires-lives-T-Destruct g c κs within = search (rules, within, c.type_bounds.static-R)

pub drop-push_over-requires-lives-T-Destruct-2 : goal.drop-push_over-requires-lives-T-Destruct-2
drop-push_over-requires-lives-T-Destruct-2 g c κs within = search (rules, within, c.type_bounds.static-R)

pub drop-push_over-requires-lives-T-Destruct-3 : goal.drop-push_over-requires-lives-T-Destruct-3
drop-push_over-requires-lives-T-Destruct-3 g c κs within = search (rules, within, c.type_bounds.static-R)

pub drop-push_over-requires-lives-T-Destruct-4 : goal.drop-push_over-requires-lives-T-Destruct-4
drop-push_over-requires-lives-T-Destruct-4 g c κs within = search (rules, within, c.type_bounds.static-R)

pub drop-push_over-requires-lives-T-Destruct-5 : goal.drop-push_over-requires-lives-T-Destruct-5
drop-push_over-requires-lives-T-Destruct-5 g c κs within = search (rules, within, c.type_bounds.static-R)

pub drop-push_over-requires-lives-T-Destruct-6 : goal.drop-push_over-requires-lives-T-Destruct-6
drop-push_over-requires-lives-T-Destruct-6 g c κs within = search (rules, within, c.type_bounds.static-R)

pub drop-push_over-requires-lives-T-Destruct-7 : goal.drop-push_over-requires-lives-T-Destruct-7
drop-push_over-requires-lives-T-Destruct-7 g c κs within = search (rules, within, c.type_bounds.static-R)

pub drop-push_over-requires-lives-T-Destruct-8 : goal.drop-push_over-requires-lives-T-Destruct-8
drop-push_over-requires-lives-T-Destruct-8 g c κs within = search (rules, within, c.type_bounds.static-R)
