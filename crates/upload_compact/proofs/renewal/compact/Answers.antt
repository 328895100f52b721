use Rattle.std.proofs.Common.{◌∙◌, IsTrue, sym, subst}
use Rattle.journal.specs.Journal.{is_open, kept, line_of}
use Rattle.journal.specs.declared.journal.Journal.{Journal}
use Rattle.upload_store.specs.Found.{texts_of}
use Rattle.upload_store.specs.Safe.{IsSafe, HasSafe}
use Rattle.upload_store.specs.Store.{IsClean, journal_of, shelf_of}
use Rattle.upload_store.proofs.Same.{safe_still}
use Rattle.upload_compact.specs.Copies.{AreSafeNumbers}
use Rattle.upload_compact.specs.Leaving.{MayGo, forgotten_all}
use Rattle.upload_compact.proofs.Copying.{reads_keep}
use Rattle.upload_compact.proofs.Naming.{surveyed}
use Rattle.upload_compact.proofs.renewal.compact.Goals as goal

pub returns-in-Ok-renewed-clause-same : goal.returns-in-Ok-renewed-clause-same
returns-in-Ok-renewed-clause-same g c disk fresh shelf =
    let left = c.in-Ok-leave_out.ensures in
    let it = c.in-Ok-renewed.ensures in
    let clean = subst (λ s. IsClean s) left.store (it.clean disk shelf) in
    let old = c.in-Ok.ensures.leads clean in
    let new = it.leads fresh shelf in
    record {
      before = old.0;
      after = new.0;
      was = old.1;
      is = new.1;
      state = new.2 ∙ left.forgot ∙ (λ i. forgotten_all (sym it.gone i).items (old.2 i));
      moment = new.3 ∙ left.moment ∙ old.3;
    }

pub returns-in-Ok-renewed-clause-gone : goal.returns-in-Ok-renewed-clause-gone
returns-in-Ok-renewed-clause-gone g c =
    subst (λ gone. MayGo c.args.leaving gone.items) (sym c.in-Ok-renewed.ensures.gone) c.in-Ok-leave_out.ensures.only

pub returns-in-Ok-renewed-clause-open : goal.returns-in-Ok-renewed-clause-open
returns-in-Ok-renewed-clause-open g c = (
  subst (λ (j : Journal g.row.D.Denot g.D.Disk). IsTrue (is_open j))
      (sym (c.in-Ok-renewed.ensures.old ∙ (λ i. journal_of (c.in-Ok-leave_out.ensures.store i)))) c.in-Ok.ensures.open,
  c.in-Ok-renewed.ensures.open,
)

pub returns-in-Ok-renewed-clause-line : goal.returns-in-Ok-renewed-clause-line
returns-in-Ok-renewed-clause-line g c = (
  (λ i. line_of (c.in-Ok-renewed.ensures.old i)) ∙ (λ i. line_of (journal_of (c.in-Ok-leave_out.ensures.store i)))
      ∙ c.in-Ok.ensures.line,
  c.in-Ok-renewed.ensures.line,
)

pub returns-in-Ok-renewed-clause-old : goal.returns-in-Ok-renewed-clause-old
returns-in-Ok-renewed-clause-old g c disk shelf =
    let left = c.in-Ok-leave_out.ensures in
    let clean = subst (λ s. IsClean s) left.store (c.in-Ok-renewed.ensures.clean disk shelf) in
    (λ i. kept (c.in-Ok-renewed.ensures.old i)) ∙ (λ i. kept (journal_of (left.store i))) ∙ c.in-Ok.ensures.kept clean

pub returns-in-Ok-renewed-clause-still : goal.returns-in-Ok-renewed-clause-still
returns-in-Ok-renewed-clause-still g c disk shelf n bytes safe =
    let held = g.S.Shelf.held in
    let may_leave = g.S.Shelf.may_leave in
    c.in-Ok-renewed.ensures.still disk shelf n bytes
    (subst (λ s. IsSafe held may_leave (shelf_of s) n bytes) (sym c.in-Ok-leave_out.ensures.store)
    (reads_keep held may_leave g.S.Shelf.IsClean c.args.shelf (shelf_of c.in-Ok.old.store) c.in-Ok.ensures.reads n
    bytes safe))

pub returns-in-Ok-renewed-clause-safe : goal.returns-in-Ok-renewed-clause-safe
returns-in-Ok-renewed-clause-safe g c disk fresh shelf all =
    let held = g.S.Shelf.held in
    let may_leave = g.S.Shelf.may_leave in
    let opened = c.in-Ok.old in
    let left = c.in-Ok-leave_out.ensures in
    let clean = subst (λ s. IsClean s) left.store (c.in-Ok-renewed.ensures.clean disk shelf) in
    let still = reads_keep held may_leave g.S.Shelf.IsClean c.args.shelf (shelf_of opened.store) c.in-Ok.ensures.reads in
    c.in-Ok-renewed.ensures.safe disk fresh shelf
    (subst (λ s. AreSafeNumbers held may_leave (shelf_of s) c.in-Ok-leave_out.left.0.survey.named) (sym left.store)
    (subst (λ named. AreSafeNumbers held may_leave (shelf_of opened.store) named) (sym left.named)
    (surveyed (HasSafe held may_leave (shelf_of opened.store)) (kept c.args.journal) opened.survey
    (c.in-Ok.ensures.survey clean)
    (safe_still held may_leave c.args.shelf (shelf_of opened.store) still (texts_of (kept c.args.journal)) all))))
