use Rattle.bodies.proofs.Staying.{stays}
use Rattle.bodies.proofs.memory.MemoryShelf.tear.Goals as goal

-- src/memory.rt:52:5
pub returns-else-is_being_written-clause-left : goal.returns-else-is_being_written-clause-left
returns-else-is_being_written-clause-left c = stays c.args.self.now.calls.items c.args.number
