use Rattle.std.proofs.Common.{◌≡◌, ◌⊎◌, ◌∙◌, inl, inr, Some, None, true, ap, refl, subst}
use Rattle.sqlite_disk.specs.Memory.{memory_bytes}
use Rattle.bodies.specs.Calls.{left_after}
use Rattle.bodies.specs.MemoryFiles.{nothing, memory_may_leave}
use Rattle.bodies.proofs.memory.MemoryShelfShelf.name.Goals as goal

pub returns-clause-left : goal.returns-clause-left
returns-clause-left c left may =
    let it = subst
    (λ calls. left_after memory_bytes nothing memory_may_leave (λ _. true) calls c.args.number left)
    c.in_ok-note-in-Ok.ensures.ok may in
    elim (it.1 refl)
    as (λ _. (left ≡ None) ⊎ (left ≡ Some c.args.file.now)) [
      | inl none ↦ inl none
      | inr some ↦ inr (some.2 ∙ ap Some (c.in-Ok.ensures.stored some.0 some.1))
    ]
