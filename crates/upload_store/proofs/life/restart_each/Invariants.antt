use Rattle.std.proofs.Common.{◌≡◌, ◌≤◌, ℕ, List}
use Rattle.journal.specs.Format.{stored}
use Rattle.upload_store.specs.Store.{shelf_of, disk_of, limits_of, IsClean}
use Rattle.upload_store.proofs.Crashes.{Still}
use Rattle.upload_store.proofs.life.restart_each.Given as goal

abbrev pub invariant-loop : goal.invariant-loop
invariant-loop g l = record {
  safe : Still g.S.Shelf.held g.S.Shelf.may_leave (shelf_of l.fn.store) (shelf_of l.store);
  limits : limits_of l.store ≡ limits_of l.fn.store;
  faults : (g.D.Disk.faults (disk_of l.fn.store) ≤ g.D.Disk.faults (disk_of l.store))
      × (g.S.Shelf.faults (shelf_of l.fn.store) ≤ g.S.Shelf.faults (shelf_of l.store));
  clean : IsClean l.store → IsClean l.fn.store;
  any_crash : IsClean l.store → (file : List ℕ) → g.D.Disk.may_leave (disk_of l.store) file
      → (before : List ℕ) × g.D.Disk.may_leave (disk_of l.fn.store) before × (stored file ≡ stored before);
}
