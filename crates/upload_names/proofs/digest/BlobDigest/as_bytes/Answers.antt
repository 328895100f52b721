use Rattle.upload_names.proofs.digest.BlobDigest.as_bytes.Goals as goal

pub returns-in-Sha256-clause-sized : goal.returns-in-Sha256-clause-sized
returns-in-Sha256-clause-sized c = cc

pub returns-in-Sha512-clause-sized : goal.returns-in-Sha512-clause-sized
returns-in-Sha512-clause-sized c = cc
