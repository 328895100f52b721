use Rattle.std.proofs.Common.{sym, ◌∙◌, ap, refl, arith, rules}
use Rattle.upload_service.specs.Machine.{Replies, Session}
use Rattle.upload_service.specs.Kept.Entries.{session_of}
use Rattle.upload_service.specs.declared.answer.Answer.TheVariants as answers
use Rattle.upload_service.proofs.UploadView.{named}
use Rattle.upload_service.proofs.Serving.{does, none_named}
use Rattle.upload_service.proofs.turn.status.Goals as goal

pub returns-in_default : goal.returns-in_default
returns-in_default c = search (rules, arith, does, none_named)

pub returns : goal.returns
returns c =
    let session : Session = session_of c.in-Some.session.now in
    does _ _ _ (Replies (answers.Standing c.args.name c.args.at c.len-next.result)) _ _
    (named c.args.tables.now.limits.max_blob _ session c.args.name c.args.at _ c.in-Some.ensures.found
    c.in-Some.ensures.named
    ∙ ap (λ n. Replies (answers.Standing c.args.name c.args.at n)) (sym c.len-next.ensures)) refl refl
