use Rattle.upload_client.proofs.PlaceLemmas.{places_read_back}
use Rattle.upload_client.proofs.laws.written_places_are_read.Goals as goal

pub returns : goal.returns
returns c = places_read_back
