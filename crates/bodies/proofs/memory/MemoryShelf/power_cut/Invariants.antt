use Rattle.std.proofs.Common.{◌≤◌, IsTrue}
use Rattle.bodies.specs.MemoryShelf.{is_usable_of, faults_of, IsCut}
use Rattle.bodies.proofs.memory.MemoryShelf.power_cut.Given as goal

abbrev pub invariant-loop-number : goal.invariant-loop-number
invariant-loop-number l = record {
  cut : IsCut l.fn.self l.self;
  usable : IsTrue (is_usable_of l.self);
  faults : faults_of l.fn.self ≤ faults_of l.self;
}
