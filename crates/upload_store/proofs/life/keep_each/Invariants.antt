use Rattle.std.proofs.Common.{◌≡◌, ◌+◌, ◌≤◌, ◌++◌, ℕ, List, take, length, false, IsTrue}
use Rattle.journal.specs.Journal.{end_of}
use Rattle.upload_store.specs.Reading.{KeepsBehind}
use Rattle.journal.specs.Format.{stored}
use Rattle.upload_store.specs.Safe.{IsSafe, AreWritten}
use Rattle.upload_store.specs.Rounds.{rounds_kept, bodies_of, rounds_end}
use Rattle.upload_store.specs.Store.{journal_of, shelf_of, disk_of, is_open, kept_of, next_of, limits_of, IsClean}
use Rattle.upload_store.proofs.life.keep_each.Given as goal

abbrev pub invariant-loop-i : goal.invariant-loop-i
invariant-loop-i g l = record {
  is_still_open : IsTrue (is_open l.store);
  limits : limits_of l.store ≡ limits_of l.fn.store;
  clean : IsClean l.store → IsClean l.fn.store;
  safe : (n : ℕ) (bytes : List ℕ) → IsClean l.store
      → IsSafe g.S.Shelf.held g.S.Shelf.may_leave (shelf_of l.fn.store) n bytes
      → IsSafe g.S.Shelf.held g.S.Shelf.may_leave (shelf_of l.store) n bytes;
  next : next_of l.store ≡ next_of l.fn.store + length (bodies_of (take l.i l.rounds));
  kept : IsClean l.store → kept_of l.store ≡ kept_of l.fn.store ++ rounds_kept l.time (take l.i l.rounds);
  written : IsClean l.store
      → AreWritten g.S.Shelf.held g.S.Shelf.may_leave (shelf_of l.store) (next_of l.fn.store)
      (bodies_of (take l.i l.rounds));
  durable : IsClean l.store → (file : List ℕ) → g.D.Disk.may_leave (disk_of l.store) file
      → stored file ≡ kept_of l.store;
  ends : end_of (journal_of l.store) ≡ rounds_end (end_of (journal_of l.fn.store)) (take l.i l.rounds);
  behind : KeepsBehind g.S.Shelf.held (shelf_of l.fn.store) (shelf_of l.store)
      (next_of l.fn.store + length (bodies_of (take l.i l.rounds)));
  usable : g.S.Shelf.is_usable (shelf_of l.store) ≡ false → g.S.Shelf.is_usable (shelf_of l.fn.store) ≡ false;
  disk_faults : g.D.Disk.faults (disk_of l.fn.store) ≤ g.D.Disk.faults (disk_of l.store);
  shelf_faults : g.S.Shelf.faults (shelf_of l.fn.store) ≤ g.S.Shelf.faults (shelf_of l.store);
}
