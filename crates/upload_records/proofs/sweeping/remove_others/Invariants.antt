use Rattle.std.proofs.Common.{◌≡◌, ℕ}
use Rattle.bodies.specs.Shelf.{Keeps}
use Rattle.upload_records.specs.Names.{Has}
use Rattle.upload_records.proofs.sweeping.remove_others.Given as goal

abbrev pub invariant-loop-number : goal.invariant-loop-number
invariant-loop-number g l = record {
  keeps : (n : ℕ) → Has l.named n → Keeps g.S.Shelf.held g.S.Shelf.may_leave l.fn.shelf l.shelf n;
  clean : g.S.Shelf.IsClean l.shelf → g.S.Shelf.IsClean l.fn.shelf;
  usable : g.S.Shelf.is_usable l.shelf ≡ g.S.Shelf.is_usable l.fn.shelf;
}
