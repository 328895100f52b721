-- A file of a body.
use Rattle.std.specs.Prelude.{◌≡◌, ℕ, List, [], IsTrue}
use Rattle.sqlite_disk.specs.declared.Disk.{Ghosts}
use Rattle.sqlite_disk.specs.Disk.{MoreFaults}

-- a file that nothing was written to
pub record IsEmpty {D : Type 0} (g : Ghosts D) (file : D) : Type 0 where
  pub seen : g.seen file ≡ []
  pub usable : IsTrue (g.is_usable file)

-- this file, of which a read finds these bytes, has met a fault since
pub record HasFailed {D : Type 0} (g : Ghosts D) (bytes : List ℕ) (file : D) : Type 0 where
  pub now : D
  pub seen : g.seen now ≡ bytes
  pub more : MoreFaults (g.faults file) (g.faults now)
