use Rattle.upload_intake.proofs.Orders.{orders_determined}
use Rattle.upload_intake.proofs.laws.served_orders_are_determined.Goals as goal

pub returns : goal.returns
returns c = orders_determined
