use Rattle.upload_service.proofs.Opening.{openings_meet_the_table}
use Rattle.upload_service.proofs.laws.openings_meet_the_table.Goals as goal

pub returns : goal.returns
returns c = openings_meet_the_table
