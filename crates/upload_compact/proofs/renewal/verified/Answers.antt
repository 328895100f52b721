use Rattle.upload_compact.proofs.Opening.{verified_leads}
use Rattle.upload_compact.proofs.renewal.verified.Goals as goal

pub returns-in-Ok-clause-leads : goal.returns-in-Ok-clause-leads
returns-in-Ok-clause-leads g c disk shelf =
    verified_leads c.args.limits c.new-store.result c.verify.new.store _ _ c.args.service.now c.args.moment
    c.new-store.ensures.limits c.into_parts-fresh.ensures.0 c.into_parts-fresh.ensures.1 c.in-Ok.ensures.kept c.in-Ok.ensures.same
    disk shelf
