use Rattle.std.proofs.Common.{◌∙◌}
use Rattle.upload_service.specs.Requests.{chunk_ask}
use Rattle.upload_keeper.specs.Safety.{asked, answered_so}
use Rattle.upload_keeper.proofs.Unchanged.{quiet_away, kept_nothing}
use Rattle.upload_keeper.proofs.keeper.turn_away.Goals as goal

pub returns-clause-turn : goal.returns-clause-turn
returns-clause-turn g c = c.turn_away.ensures.turn c.args.secret

pub returns-clause-waiting : goal.returns-clause-waiting
returns-clause-waiting g c =
    cc (
      kept_nothing (g.K.Keeping.waiting c.args.keeping.now) (g.K.Keeping.waiting c.let_go.new.self)
          (answered_so (asked (chunk_ask c.args.chunk) c.args.secret c.args.now) c.turn_away.result)
          (quiet_away c.turn_away.result c.turn_away.ensures.away) (c.let_go.ensures.waiting ∙ c.note.ensures.waiting),
      quiet_away c.turn_away.result c.turn_away.ensures.away,
    )
