use Rattle.upload_compact.proofs.Copying.{parted_still, parted_safe}
use Rattle.upload_compact.proofs.renewal.renewed.Goals as goal

pub returns-clause-still : goal.returns-clause-still
returns-clause-still g c disk shelf =
    parted_still c.args.old.store c.renew.new.store c.args.old.survey.named c.renew.new.safe c.into_parts-old.result.0
    c.into_parts-old.result.1 c.in-Ok-check.checked.0.shelf c.renew.ensures c.into_parts-old.ensures.0
    c.into_parts-old.ensures.1 c.in-Ok-check.ensures.reads disk shelf

pub returns-clause-safe : goal.returns-clause-safe
returns-clause-safe g c disk fresh shelf was =
    c.in-Ok-check.ensures.safe fresh shelf
    (parted_safe c.args.old.store c.renew.new.store c.args.old.survey.named c.renew.new.safe c.into_parts-old.result.0
    c.into_parts-old.result.1 c.in-Ok-check.checked.0.shelf c.renew.ensures c.into_parts-old.ensures.0
    c.into_parts-old.ensures.1 c.in-Ok-check.ensures.reads disk shelf was)
