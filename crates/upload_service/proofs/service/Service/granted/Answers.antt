use Rattle.upload_service.proofs.Serving.{empty_is_lawful}
use Rattle.upload_service.proofs.service.Service.granted.Goals as goal

pub invariant_of-result : goal.invariant_of-result
invariant_of-result c =
    rw (c.new.ensures, c.new-2.ensures)
    (record { bounds = c.requires; state = empty_is_lawful c.args.limits c.args.issued })
