use Rattle.std.proofs.Common.{◌≡◌, ◌++◌, List, ℕ, length, rules, sym, subst, ap, ◌∙◌}
use Rattle.upload_names.specs.declared.digest.Algorithm.TheVariants.{Sha256, Sha512}
use Rattle.sha2.specs.Hashers.{Holds256}
use Rattle.std.specs.List.{concat}
use Rattle.upload_bytes.specs.Segments.{whole}
use Rattle.upload_bytes.specs.Running.{HoldsBy}
use Rattle.upload_bytes.specs.Prefixes.{HoldsPrefix}
use Rattle.upload_bytes.proofs.Prefixes.{holds_of_more, settled_first}
use Rattle.upload_bytes.proofs.received.Received.append.Goals as goal

pub invariant_of-self-then-is_empty : goal.invariant_of-self-then-is_empty
invariant_of-self-then-is_empty c =
    let old = c.self.inside.segments in
    let new = c.append.new.self in
    let base : new.base ≡ old.base = c.in_ok-append.ensures.base in
    let none : length (whole old) ≡ 0 = search rules in
    let no_tail : length new.tail ≡ 0 = search rules in
    let all = settled_first old new c.args.body none c.in_ok-append.ensures.more no_tail in
    let holds : Holds256 c.in-Some.hash (new.base ++ concat c.settled.result.now) =
    subst (Holds256 c.in-Some.hash) (sym (ap (λ s. new.base ++ concat s) c.settled.ensures ∙ all)) c.in-Some.ensures in
    record {
      sha256 =
          subst (λ (p : List (List ℕ)). HoldsPrefix Sha256 new.base p c.of_all.result) c.settled.ensures
          (c.of_all.ensures Sha256 new.base holds);
      sha512 =
          subst (λ b. HoldsPrefix Sha512 b new.settled c.self.inside.sha512) (sym base)
          (holds_of_more Sha512 old.base old.settled new.settled c.self.inside.sha512
          c.in_ok-append.ensures.front c.in_ok-append.ensures.longer c.self.invariant.sha512);
      gone256 = subst (λ b. HoldsBy Sha256 c.self.inside.gone_256 b) (sym base) c.self.invariant.gone256;
      gone512 = subst (λ b. HoldsBy Sha512 c.self.inside.gone_512 b) (sym base) c.self.invariant.gone512;
    }
