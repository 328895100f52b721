use Rattle.std.proofs.Common.{[], List, ℕ, sym, subst}
use Rattle.upload_names.specs.declared.digest.Algorithm.TheVariants.{Sha256, Sha512}
use Rattle.upload_bytes.specs.Running.{HoldsBy}
use Rattle.upload_bytes.specs.Prefixes.{AreRunning}
use Rattle.upload_bytes.proofs.received.Received.of_files.Goals as goal

pub invariant_of-result : goal.invariant_of-result
invariant_of-result c =
    let bytes : List ℕ = c.args.given in
    subst (λ parts. AreRunning parts c.behind.result c.behind-2.result c.args.sha256 c.args.sha512)
    (sym c.of_files.ensures) (record {
      sha256 = c.behind.ensures Sha256 bytes []
          (subst (λ h. HoldsBy Sha256 h bytes) (sym c.copy.ensures) c.requires.sha256);
      sha512 = c.behind-2.ensures Sha512 bytes []
          (subst (λ h. HoldsBy Sha512 h bytes) (sym c.copy-2.ensures) c.requires.sha512);
      gone256 = c.requires.sha256;
      gone512 = c.requires.sha512;
    })
