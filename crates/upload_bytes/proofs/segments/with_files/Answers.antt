use Rattle.std.proofs.Common.{◌≡◌, ◌++◌, arith, rules, subst, IfSome}
use Rattle.std.specs.List.{concat}
use Rattle.std.proofs.lemmas.List.{append_assoc}
use Rattle.std.proofs.lemmas.List.Folds.{concat-append}
use Rattle.upload_bytes.proofs.Parts.{concat-push}
use Rattle.upload_bytes.proofs.segments.with_files.Goals as goal

pub returns : goal.returns
returns c = λ before h.
    let had : concat c.in_ok-stretches.stretches.items ≡ before =
    subst (λ stretches. IfSome stretches (λ all. concat all.items ≡ before)) c.in_ok-stretches.was h in
    search (rules, arith, had, concat-push, concat-append, append_assoc)
