use Rattle.upload_compact.proofs.renewal.verify.Goals as goal

pub returns-in-Ok-see_same-clause-same : goal.returns-in-Ok-see_same-clause-same
returns-in-Ok-see_same-clause-same g c clean =
    let same = c.in-Ok-see_same.ensures in (c.in-Ok.again, c.in-Ok.ensures.ran clean, same.0, same.1)
