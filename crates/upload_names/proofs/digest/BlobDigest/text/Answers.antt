use Rattle.std.proofs.Common.{subst, arith, rules}
use Rattle.upload_names.specs.Digest.{IsDigest, digest_text}
use Rattle.upload_names.proofs.DigestFacts.{digest_of-text}
use Rattle.upload_names.proofs.digest.BlobDigest.text.Goals as goal
use Rattle.upload_names.proofs.digest.BlobDigest.text.Goals.{in-Sha256, in-Sha512}

pub returns-clause-text : goal.returns-clause-text
unfolding digest_text
returns-clause-text c = search (rules, arith)

pub returns-clause-reads_back : goal.returns-clause-reads_back
returns-clause-reads_back c =
    cc (returns-clause-text c, digest_of-text c.args.self.now (subst IsDigest c.self.view_is c.self.invariant))
