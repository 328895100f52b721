use Rattle.std.proofs.Common.{◌≡◌, ◌+◌, ◌≤◌, ℕ, List, take, false}
use Rattle.upload_store.specs.Reading.{KeepsBehind}
use Rattle.upload_store.specs.Safe.{IsSafe, AreWritten}
use Rattle.upload_store.specs.Store.{journal_of, shelf_of, next_of, limits_of, IsClean}
use Rattle.upload_store.proofs.store.Store.keep.Given as goal

abbrev pub invariant-loop-body : goal.invariant-loop-body
invariant-loop-body g l = record {
  journal : journal_of l.self ≡ journal_of l.fn.self;
  next : next_of l.self ≡ next_of l.fn.self + l.body-index;
  limits : limits_of l.self ≡ limits_of l.fn.self;
  clean : IsClean l.self → IsClean l.fn.self;
  safe : (n : ℕ) (bytes : List ℕ) → IsClean l.self
      → IsSafe g.S.Shelf.held g.S.Shelf.may_leave (shelf_of l.fn.self) n bytes
      → IsSafe g.S.Shelf.held g.S.Shelf.may_leave (shelf_of l.self) n bytes;
  written : IsClean l.self
      → AreWritten g.S.Shelf.held g.S.Shelf.may_leave (shelf_of l.self) (next_of l.fn.self)
      (take l.body-index l.bodies);
  behind : KeepsBehind g.S.Shelf.held (shelf_of l.fn.self) (shelf_of l.self) (next_of l.fn.self + l.body-index);
  usable : g.S.Shelf.is_usable (shelf_of l.self) ≡ false → g.S.Shelf.is_usable (shelf_of l.fn.self) ≡ false;
  faults : g.S.Shelf.faults (shelf_of l.fn.self) ≤ g.S.Shelf.faults (shelf_of l.self);
}
