use Rattle.std.proofs.Common.{sym, ◌∙◌, ap, subst}
use Rattle.std.specs.Prelude.{if◌then◌else◌}
use Rattle.upload_service.specs.Machine.{Turn, Mounts, opening}
use Rattle.upload_service.specs.Kept.Tables.{state_of}
use Rattle.upload_service.specs.declared.ask.Ask.{Ask}
use Rattle.upload_service.proofs.Serving.{comes_by}
use Rattle.upload_service.proofs.turn.turn.Goals as goal

pub returns-in-Has-clause-turn : goal.returns-in-Has-clause-turn
unfolding Turn
returns-in-Has-clause-turn g c =
    subst (λ (a : Ask). Turn (state_of c.args.tables.now) a c.args.secret c.args.now c.has.result
    (state_of c.args.tables.now)) (sym c.in-Has.is) (c.has.ensures c.args.secret c.args.now)

pub returns-in-Single-clause-turn : goal.returns-in-Single-clause-turn
unfolding Turn
returns-in-Single-clause-turn g c =
    subst (λ (a : Ask). Turn (state_of c.args.tables.now) a c.args.secret c.args.now c.single.result
    (state_of c.single.new.tables)) (sym c.in-Single.is) (c.single.ensures.turn c.args.secret c.args.now)

pub returns-then-contains-clause-turn : goal.returns-then-contains-clause-turn
unfolding Turn
returns-then-contains-clause-turn g c =
    subst (λ (a : Ask). Turn (state_of c.args.tables.now) a c.args.secret c.args.now c.mount.result
    (state_of c.mount.new.tables)) (sym c.in-Mount.is)
    (comes_by _ _ _ (Mounts c.in-Mount.name c.in-Mount.digest) _ _
    (ap (λ b. if b then Mounts c.in-Mount.name c.in-Mount.digest
    else opening (state_of c.args.tables.now) c.in-Mount.name c.args.secret c.args.now)
    (sym c.contains.ensures.is ∙ c.if-contains.true))
    (c.mount.ensures.turn c.args.now))
