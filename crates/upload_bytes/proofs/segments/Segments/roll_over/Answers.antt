use Rattle.std.proofs.Common.{◌≡◌, ◌++◌, List, ℕ, take, subst, arith, rules, length-append, IfSome}
use Rattle.std.specs.List.{concat}
use Rattle.std.proofs.lemmas.List.{append_assoc}
use Rattle.upload_bytes.proofs.SegmentFacts.{concat-with_part, of_mapped, mapped, front_of}
use Rattle.upload_bytes.proofs.segments.Segments.roll_over.Goals as goal

pub invariant_of-self-2 : goal.invariant_of-self-2
invariant_of-self-2 c =
    let old : List (List ℕ) = c.self.inside.settled.items in
    let new : List (List ℕ) = c.settle_tail.new.settled.items in
    let tail : List ℕ = c.self.inside.tail in
    let settled : concat new ≡ concat old ++ tail = search (rules, concat-with_part) in
    let front : concat old ≡ concat (take c.len-had.result new) = search (rules, arith, front_of) in
    let base : List ℕ = c.self.inside.gone in
    let held : IfSome c.self.inside.stretches (λ s. concat s.items ≡ base ++ concat (take c.len-had.result new)) =
    subst (λ x. IfSome c.self.inside.stretches (λ s. concat s.items ≡ base ++ x)) front
    (of_mapped (λ s. s.items) (λ s. concat s ≡ base ++ concat old) c.self.inside.stretches c.self.invariant.same) in
    record {
      counted = search (rules, arith, length-append, settled);
      gone = search (rules);
      same =
          mapped (λ s. s.items) (λ s. concat s ≡ base ++ concat new) c.with_parts.result
          (subst (λ parts. IfSome c.with_parts.result (λ s. concat s.items ≡ base ++ concat parts))
          c.as_slice.ensures.value (c.with_parts.ensures base (search (rules, held))));
    }

pub returns-clause-more : goal.returns-clause-more
returns-clause-more c = search (rules, arith, concat-with_part, append_assoc)
