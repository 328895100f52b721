use Rattle.std.proofs.Common.{[], ◌∷◌, ◌++◌, ap, ◌∙◌, arith, rules}
use Rattle.upload_keeper.specs.Safety.{asked, answered_so, changed, changes}
use Rattle.upload_keeper.proofs.Unchanged.{noted_with_room}
use Rattle.upload_keeper.proofs.keeper.serve_held.Goals as goal

pub add_change-requires : goal.add_change-requires
add_change-requires g c told = search (rules, arith, noted_with_room)

pub returns-clause-waiting : goal.returns-clause-waiting
returns-clause-waiting g c =
    let noted = c.note-has_room.ensures in
    let request = asked c.args.ask c.args.secret c.args.now in
    c.add_change.ensures.waiting request
    (noted_with_room c.note-has_room.result _ request (changes c.step-answer.result) noted.noted
    c.step-answer.ensures.unchanged)
    ∙ ap (λ w. w ++ changed (answered_so request c.step-answer.result ∷ [])) noted.waiting
