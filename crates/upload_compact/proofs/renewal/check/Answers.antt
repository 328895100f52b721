use Rattle.std.proofs.Common.{◌∙◌, List, sym, subst}
use Rattle.std.specs.List.{All}
use Rattle.journal.specs.Format.{Kept}
use Rattle.journal.specs.Journal.{kept}
use Rattle.upload_store.specs.Found.{numbers_of, texts_of}
use Rattle.upload_store.proofs.Reading.{reads_then}
use Rattle.upload_compact.specs.Numbers.{Has}
use Rattle.upload_compact.proofs.Copying.{reads_keep, numbers_keep, texts_safe}
use Rattle.upload_compact.proofs.renewal.check.Goals as goal

pub returns-in-Ok-verified-clause-safe : goal.returns-in-Ok-verified-clause-safe
returns-in-Ok-verified-clause-safe g c fresh shelf was =
    let held = g.S.Shelf.held in
    let may_leave = g.S.Shelf.may_leave in
    let it = c.in-Ok-verified.checked in
    let safe = c.args.safe in
    let clean = c.in-Ok-verified.ensures.clean fresh shelf in
    let same = c.in-Ok-verified.ensures.kept fresh shelf ∙ c.in-Ok.ensures.same clean in
    texts_safe held may_leave it.shelf safe (texts_of (kept it.fresh))
    (subst (λ (all : List Kept). All (λ text. All (Has safe) (numbers_of text)) (texts_of all)) (sym same)
    (c.in-Ok.ensures.named clean))
    (numbers_keep held may_leave c.args.shelf it.shelf safe
    (reads_keep held may_leave g.S.Shelf.IsClean c.args.shelf it.shelf
    (reads_then held may_leave g.S.Shelf.IsClean c.args.shelf c.told-shelf.result it.shelf c.told-shelf.ensures
    c.in-Ok-verified.ensures.reads)) was)

pub returns-in-Ok-verified-clause-reads : goal.returns-in-Ok-verified-clause-reads
returns-in-Ok-verified-clause-reads g c =
    reads_then g.S.Shelf.held g.S.Shelf.may_leave g.S.Shelf.IsClean c.args.shelf c.told-shelf.result
    c.in-Ok-verified.checked.shelf c.told-shelf.ensures c.in-Ok-verified.ensures.reads
