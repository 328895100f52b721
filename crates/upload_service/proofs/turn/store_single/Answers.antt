use Rattle.std.proofs.Common.{sym, ◌∙◌, subst}
use Rattle.upload_service.specs.Machine.{Comes, Stores}
use Rattle.upload_service.specs.Kept.Tables.{state_of}
use Rattle.upload_service.proofs.turn.store_single.Goals as goal

pub returns-clause-turn : goal.returns-clause-turn
returns-clause-turn c = λ now.
    subst (λ b. Comes (state_of c.args.tables.now) now (Stores c.args.name c.args.digest b) c.store_blob.result
    (state_of c.store_blob.new.tables)) (c.in-Ok-of.ensures ∙ c.in-Ok.ensures.same) (c.store_blob.ensures.turn now)
