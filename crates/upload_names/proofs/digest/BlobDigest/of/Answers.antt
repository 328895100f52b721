use Rattle.std.proofs.Common.{arith}
use Rattle.upload_names.specs.declared.digest.Algorithm.TheVariants.{Sha256, Sha512}
use Rattle.upload_names.proofs.DigestFacts.{IsDigest-content}
use Rattle.upload_names.proofs.digest.BlobDigest.of.Goals as goal
use Rattle.upload_names.proofs.digest.BlobDigest.of.Goals.{in-Sha256, in-Sha512}

pub invariant_of-result : goal.invariant_of-result
invariant_of-result c =
    grind (arith, IsDigest-content Sha256 c.args.content.now, IsDigest-content Sha512 c.args.content.now)
