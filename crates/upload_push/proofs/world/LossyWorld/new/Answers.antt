use Rattle.upload_push.proofs.world.LossyWorld.new.Goals as goal

pub returns-clause-lawful : goal.returns-clause-lawful
returns-clause-lawful c = record { service = c.limits.ensures.lawful; secret = c.is_secret.ensures }
