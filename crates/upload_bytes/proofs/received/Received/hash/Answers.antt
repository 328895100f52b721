use Rattle.std.proofs.Common.{◌≡◌, ◌++◌, List, ℕ, arith, rules, sym, subst}
use Rattle.upload_names.specs.declared.digest.Algorithm.TheVariants.{Sha256, Sha512}
use Rattle.std.specs.List.{concat}
use Rattle.std.proofs.lemmas.List.{append_assoc}
use Rattle.upload_bytes.specs.Running.{HoldsBy}
use Rattle.upload_bytes.specs.Prefixes.{HoldsPrefix}
use Rattle.upload_bytes.proofs.received.Received.hash.Goals as goal

pub returns-in-Sha256-clause-hash : goal.returns-in-Sha256-clause-hash
returns-in-Sha256-clause-hash g c =
    let old = c.self.inside.segments in
    let now : c.settled-settled.result.now ≡ old.settled = c.settled-settled.ensures in
    let all : List ℕ = old.base ++ concat old.settled in
    let held : HoldsBy Sha256 c.of_settled-hash.result all =
    subst (λ (s : List (List ℕ)). HoldsBy Sha256 c.of_settled-hash.result (old.base ++ concat s)) now
    (c.of_settled-hash.ensures.hash Sha256 old.base c.self.invariant.gone256
    (subst (λ (s : List (List ℕ)). HoldsPrefix Sha256 old.base s c.self.inside.sha256) (sym now) c.self.invariant.sha256)) in
    let done : HoldsBy Sha256 c.with.result (all ++ c.tail-tail.result.now) = c.with.ensures Sha256 all held in
    search (rules, arith, append_assoc, done)

pub returns-in-Sha512-clause-hash : goal.returns-in-Sha512-clause-hash
returns-in-Sha512-clause-hash g c =
    let old = c.self.inside.segments in
    let now : c.settled-settled.result.now ≡ old.settled = c.settled-settled.ensures in
    let all : List ℕ = old.base ++ concat old.settled in
    let held : HoldsBy Sha512 c.of_settled-hash-in-Sha512.result all =
    subst (λ (s : List (List ℕ)). HoldsBy Sha512 c.of_settled-hash-in-Sha512.result (old.base ++ concat s)) now
    (c.of_settled-hash-in-Sha512.ensures.hash Sha512 old.base c.self.invariant.gone512
    (subst (λ (s : List (List ℕ)). HoldsPrefix Sha512 old.base s c.self.inside.sha512) (sym now) c.self.invariant.sha512)) in
    let done : HoldsBy Sha512 c.with-in-Sha512.result (all ++ c.tail-tail.result.now) = c.with-in-Sha512.ensures Sha512 all held in
    search (rules, arith, append_assoc, done)
