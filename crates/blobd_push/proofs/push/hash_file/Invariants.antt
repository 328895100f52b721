use Rattle.std.proofs.Common.{◌≤◌, ◌-◌, length, take}
use Rattle.sha2.specs.Hashers.{Holds256}
use Rattle.blobd_push.proofs.push.hash_file.Given as goal

-- the bytes before `held` were hashed
abbrev pub invariant-loop-held : goal.invariant-loop-held
invariant-loop-held g l = record {
  front : Holds256 l.hash (take l.held l.file);
  within : l.held ≤ length l.file;
}

abbrev pub decreases-loop-held : goal.decreases-loop-held
decreases-loop-held g l = length l.file - l.held
