use Rattle.std.specs.Prelude.{Option, IfSome}
use Rattle.std.proofs.Common.{subst}
use Rattle.upload_journal.specs.declared.body.BodyFile.{BodyFile}
use Rattle.upload_keeping.specs.Books.{WithoutIt}
use Rattle.upload_keeping.proofs.Going.{is_fine, kept_without}
use Rattle.upload_keeping.proofs.books.Books.let_go.Goals as goal

pub returns-clause-kept : goal.returns-clause-kept
returns-clause-kept g c kept ready =
    let b = c.args.self.now in
    let before = c.args.noted.drafted.before.value in
    kept_without b before c.remove_body.new.self c.in-Some.file.number
    (is_fine b.fault c.is_some.result c.is_some.ensures c.if-is_some.false)
    (subst (λ (o : Option BodyFile). IfSome o (λ (file : BodyFile). WithoutIt b before file.number)) c.in-Some.is
    ready.alone)
    c.remove_body.ensures.journal c.remove_body.ensures.others c.remove_body.ensures.clean
