use Rattle.std.proofs.Common.{◌≡◌, ◌++◌, ◌-◌, List, ℕ, length, arith, ap, sym, ◌∙◌, subst, take, drop, length-drop, IfSome}
use Rattle.std.specs.List.{concat}
use Rattle.std.proofs.lemmas.List.{append_assoc, take-append-drop, take_all}
use Rattle.std.proofs.lemmas.List.Folds.{concat-append}
use Rattle.upload_bytes.proofs.segments.with_parts.Goals as goal

pub returns-in-Ok : goal.returns-in-Ok
returns-in-Ok c = λ base h.
    let parts : List (List ℕ) = c.args.parts.now in
    let had : List (List ℕ) = c.in_ok-stretches.stretches.items in
    let front : List ℕ = concat (take c.args.had parts) in
    let before : concat had ≡ base ++ front =
    subst (λ stretches. IfSome stretches (λ all. concat all.items ≡ base ++ front)) c.in_ok-stretches.was h in
    let behind : take (length parts - c.args.had) (drop c.args.had parts) ≡ drop c.args.had parts =
    take_all (length parts - c.args.had) (drop c.args.had parts) (omega (arith, length-drop c.args.had parts)) in
    let rest : front ++ concat (drop c.args.had parts) ≡ concat parts =
    sym (concat-append (take c.args.had parts) (drop c.args.had parts))
    ∙ ap concat (take-append-drop c.args.had parts) in
    ap concat c.in-Ok.ensures ∙ ap (λ rest. concat (had ++ rest)) behind
    ∙ concat-append had (drop c.args.had parts) ∙ ap (λ bytes. bytes ++ concat (drop c.args.had parts)) before
    ∙ append_assoc base front (concat (drop c.args.had parts)) ∙ ap (λ bytes. base ++ bytes) rest
