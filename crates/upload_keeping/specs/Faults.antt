-- Why a round isn't kept.
use Rattle.std.specs.Prelude.{false, IsTrue, ⊤}
use Rattle.upload_store.specs.declared.fault.StoreFault.{StoreFault}
use Rattle.upload_keeping.specs.declared.fault.KeepFault.{KeepFault}
use Rattle.upload_keeping.specs.declared.fault.KeepFault.TheVariants.{NoMemory, NoChange, Store}

-- by what each comes: want of memory has no cause that could be told, and no request is at fault
abbrev pub StopsBy : (StoreFault → Type 0) → KeepFault → Type 0
StopsBy store NoMemory = ⊤
StopsBy store NoChange = IsTrue false
StopsBy store (Store fault) = store fault
