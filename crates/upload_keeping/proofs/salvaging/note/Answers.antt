use Rattle.std.proofs.Common.{subst}
use Rattle.upload_store.specs.Store.{disk_of}
use Rattle.upload_keeping.specs.Begun.{IsNotNoted}
use Rattle.upload_keeping.proofs.salvaging.note.Goals as goal

pub returns-in-Err-clause-cause : goal.returns-in-Err-clause-cause
returns-in-Err-clause-cause g c =
    subst (λ n. IsNotNoted c.args.store.now n (disk_of c.use_up.new.store) c.in-Err.fault) c.issued.ensures
    c.in-Err.ensures.cause
