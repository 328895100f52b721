use Rattle.std.proofs.Common.{◌≡◌, ◌++◌, List, ℕ, take, sym, subst, arith, rules, length-append, IfSome}
use Rattle.std.specs.List.{concat}
use Rattle.std.proofs.lemmas.List.{append_assoc, append-nil}
use Rattle.upload_bytes.specs.Body.{bytes_in}
use Rattle.upload_bytes.proofs.SegmentFacts.{concat-with_part, concat-with_body, of_mapped, mapped, front_of}
use Rattle.upload_bytes.proofs.segments.Segments.settle.Goals as goal

pub invariant_of-self-2 : goal.invariant_of-self-2
invariant_of-self-2 c =
    let old : List (List ℕ) = c.self.inside.settled.items in
    let mid : List (List ℕ) = c.settle_tail.new.settled.items in
    let new : List (List ℕ) = c.settle_body.new.settled.items in
    let tail : List ℕ = c.self.inside.tail in
    let bytes : List ℕ = bytes_in c.args.body in
    let all : concat new ≡ (concat old ++ tail) ++ bytes = search (rules, concat-with_part, concat-with_body) in
    let front : concat old ≡ concat (take c.len-had.result mid) = search (rules, arith, front_of) in
    let base : List ℕ = c.self.inside.gone in
    let held : IfSome c.self.inside.stretches (λ s. concat s.items ≡ base ++ concat (take c.len-had.result mid)) =
    subst (λ x. IfSome c.self.inside.stretches (λ s. concat s.items ≡ base ++ x)) front
    (of_mapped (λ s. s.items) (λ s. concat s ≡ base ++ concat old) c.self.inside.stretches c.self.invariant.same) in
    let before : IfSome c.with_parts-stretches.result (λ s. concat s.items ≡ base ++ concat mid) =
    subst (λ parts. IfSome c.with_parts-stretches.result (λ s. concat s.items ≡ base ++ concat parts))
    c.as_slice.ensures.value (c.with_parts-stretches.ensures base (search (rules, held))) in
    let files : IfSome c.args.files (λ files. files ≡ concat c.args.body.parts.items ++ c.in-Ok.last) =
    subst (λ last. IfSome c.args.files (λ files. files ≡ concat c.args.body.parts.items ++ last))
    (sym c.in-Ok.ensures.ok) c.requires.filed in
    record {
      counted = search (rules, arith, length-append, all);
      gone = search (rules);
      same =
          mapped (λ s. s.items) (λ s. concat s ≡ base ++ concat new) c.settle_body.result
          (c.settle_body.ensures.same base before files);
    }

pub returns-clause-more : goal.returns-clause-more
returns-clause-more c = search (rules, arith, concat-with_part, concat-with_body, append_assoc, append-nil)
