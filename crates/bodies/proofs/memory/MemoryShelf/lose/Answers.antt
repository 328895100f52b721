use Rattle.std.proofs.Common.{sym, subst}
use Rattle.sqlite_disk.specs.Memory.{memory_bytes}
use Rattle.bodies.specs.Calls.{held_after}
use Rattle.bodies.specs.MemoryFiles.{nothing}
use Rattle.bodies.specs.MemoryShelf.{left_of}
use Rattle.bodies.proofs.Staying.{stays}
use Rattle.bodies.proofs.memory.MemoryShelf.lose.Goals as goal

-- src/memory.rt:38:5
pub returns-else-may_be_lost-clause-left : goal.returns-else-may_be_lost-clause-left
returns-else-may_be_lost-clause-left c = stays c.args.self.now.calls.items c.args.number

pub returns-in_err-note-clause-left : goal.returns-in_err-note-clause-left
returns-in_err-note-clause-left c =
    let it = c.args.self.now in
    subst (λ calls. left_of it c.args.number (held_after memory_bytes nothing calls c.args.number))
    (sym c.in_err-note.ensures.err) (stays it.calls.items c.args.number)
