use Rattle.upload_names.proofs.DigestFacts.{digest_of-spells, digest_of-spelled, digest_of-text}
use Rattle.upload_names.proofs.digest.digests_are_decided.Goals as goal

pub returns-clause-decided : goal.returns-clause-decided
returns-clause-decided c text digest = (digest_of-spells text digest, digest_of-spelled text digest)

pub returns-clause-read_back : goal.returns-clause-read_back
returns-clause-read_back c digest d = digest_of-text digest d
