use Rattle.std.proofs.Common.{sym, subst}
use Rattle.upload_names.specs.declared.digest.Algorithm.TheVariants.{Sha512}
use Rattle.upload_names.specs.declared.digest.Sum.TheVariants as sums
use Rattle.upload_names.specs.Digest.{IsDigest}
use Rattle.upload_names.specs.Sum.{of_sum}
use Rattle.upload_names.proofs.DigestFacts.{IsDigest-content}
use Rattle.upload_names.proofs.digest.BlobDigest.of_hashed_512.Goals as goal

pub invariant_of-result : goal.invariant_of-result
invariant_of-result c =
    let content = c.requires.0 in
    subst (λ bytes. IsDigest (of_sum (sums.Sha512 bytes))) (sym (c.finalize.ensures content c.requires.1))
    (IsDigest-content Sha512 content)
