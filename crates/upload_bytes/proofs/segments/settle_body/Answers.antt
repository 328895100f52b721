use Rattle.std.proofs.Common.{◌≡◌, ◌++◌, List, ℕ, ap, sym, ◌∙◌, subst, arith, rules, take, IfSome}
use Rattle.std.specs.List.{concat}
use Rattle.std.proofs.lemmas.List.{append_assoc}
use Rattle.upload_bytes.specs.Segments.{with_part}
use Rattle.upload_bytes.proofs.SegmentFacts.{concat-with_body, with_more}
use Rattle.upload_bytes.proofs.segments.settle_body.Goals as goal

pub returns-in-Some-clause-same : goal.returns-in-Some-clause-same
returns-in-Some-clause-same c = λ base before whole.
    let old : List (List ℕ) = c.args.settled.now.items in
    let parts : List (List ℕ) = c.args.parts.items in
    let file : c.in-Some.files ≡ concat parts ++ c.args.last =
    subst (λ files. IfSome files (λ files. files ≡ concat parts ++ c.args.last)) c.in-Some.is whole in
    let new : c.settle.new.settled.items ≡ with_part (old ++ parts) c.args.last = search rules in
    let all : concat old ++ c.in-Some.files ≡ concat c.settle.new.settled.items =
    ap (λ bytes. concat old ++ bytes) file ∙ sym (concat-with_body old parts c.args.last) ∙ sym (ap concat new) in
    subst (λ bytes. IfSome c.with_files.result (λ all. concat all.items ≡ bytes))
    (append_assoc base (concat old) c.in-Some.files ∙ ap (λ bytes. base ++ bytes) all)
    (c.with_files.ensures (base ++ concat old) before)

pub returns-in-None-clause-same : goal.returns-in-None-clause-same
returns-in-None-clause-same c = λ base before whole.
    let old : List (List ℕ) = c.args.settled.now.items in
    let new : List (List ℕ) = c.settle.new.settled.items in
    let is : new ≡ with_part (old ++ c.args.parts.items) c.args.last = search rules in
    let front : concat old ≡ concat (take c.len-had.result new) = search (rules, arith, is, with_more) in
    subst (λ parts. IfSome c.with_parts.result (λ all. concat all.items ≡ base ++ concat parts)) c.as_slice.ensures.value
    (c.with_parts.ensures base
    (subst (λ parts. IfSome c.args.stretches (λ all. concat all.items ≡ base ++ concat (take c.len-had.result parts)))
    (sym c.as_slice.ensures.value)
    (subst (λ bytes. IfSome c.args.stretches (λ all. concat all.items ≡ base ++ bytes)) front before)))
