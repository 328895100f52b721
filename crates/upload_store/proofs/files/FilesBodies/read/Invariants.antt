use Rattle.std.proofs.Common.{◌≡◌, ◌≤◌, length}
use Rattle.upload_store.specs.Reading.{ReadsOnly}
use Rattle.upload_store.proofs.Pieces.{Came}
use Rattle.upload_store.proofs.files.FilesBodies.read.Given as goal

abbrev pub invariant-loop : goal.invariant-loop
invariant-loop g l = record {
  begun_is : l.begun ≡ length l.fn.body;
  longer : l.begun ≤ length l.body;
  reads : ReadsOnly g.S.Shelf.held g.S.Shelf.may_leave g.S.Shelf.IsClean l.fn.self.shelf l.self.shelf;
  faults : g.S.Shelf.faults l.fn.self.shelf ≤ g.S.Shelf.faults l.self.shelf;
  came : Came (g.S.Shelf.held l.self.shelf l.number) (g.S.Shelf.IsClean l.self.shelf) l.fn.body l.body;
}
