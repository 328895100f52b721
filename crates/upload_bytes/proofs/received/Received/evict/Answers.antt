use Rattle.std.proofs.Common.{◌≡◌, ◌++◌, [], List, ℕ, sym, subst}
use Rattle.upload_names.specs.declared.digest.Algorithm.TheVariants.{Sha256, Sha512}
use Rattle.std.specs.List.{concat}
use Rattle.upload_bytes.specs.Running.{HoldsBy}
use Rattle.upload_bytes.specs.Prefixes.{HoldsPrefix, AreRunning}
use Rattle.upload_bytes.proofs.received.Received.evict.Goals as goal

pub invariant_of-self-2 : goal.invariant_of-self-2
invariant_of-self-2 g c =
    let old = c.self.inside.segments in
    let now : c.settled-settled.result.now ≡ old.settled = c.settled-settled.ensures in
    let all : List ℕ = old.base ++ concat old.settled in
    let one : HoldsBy Sha256 c.of_settled-sha256.result all =
    subst (λ (s : List (List ℕ)). HoldsBy Sha256 c.of_settled-sha256.result (old.base ++ concat s)) now
    (c.of_settled-sha256.ensures.hash Sha256 old.base c.self.invariant.gone256
    (subst (λ (s : List (List ℕ)). HoldsPrefix Sha256 old.base s c.self.inside.sha256) (sym now) c.self.invariant.sha256)) in
    let two : HoldsBy Sha512 c.of_settled-sha512.result all =
    subst (λ (s : List (List ℕ)). HoldsBy Sha512 c.of_settled-sha512.result (old.base ++ concat s)) now
    (c.of_settled-sha512.ensures.hash Sha512 old.base c.self.invariant.gone512
    (subst (λ (s : List (List ℕ)). HoldsPrefix Sha512 old.base s c.self.inside.sha512) (sym now) c.self.invariant.sha512)) in
    subst (λ parts. AreRunning parts c.behind.result c.behind-2.result c.of_settled-sha256.result c.of_settled-sha512.result)
    (sym c.in-Some.ensures.gone.1) (record {
      sha256 = c.behind.ensures Sha256 all [] (subst (λ h. HoldsBy Sha256 h all) (sym c.copy.ensures) one);
      sha512 = c.behind-2.ensures Sha512 all [] (subst (λ h. HoldsBy Sha512 h all) (sym c.copy-2.ensures) two);
      gone256 = one;
      gone512 = two;
    })
