use Rattle.upload_service.proofs.Idle.{others_leave_it}
use Rattle.upload_service.proofs.laws.others_leave_a_session.Goals as goal

pub returns : goal.returns
returns c = others_leave_it
