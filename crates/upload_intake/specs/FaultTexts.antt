-- What is told of a pool that was not served.
use Rattle.std.specs.Prelude.{List, ℕ, codes}
use Rattle.upload_intake.specs.declared.pool.ServeFault.{ServeFault}
use Rattle.upload_intake.specs.declared.pool.ServeFault.TheVariants.{NoMemory, NoThread}
use Rattle.upload_intake.specs.declared.pool.KeptFault.{KeptFault}
use Rattle.upload_intake.specs.declared.pool.KeptFault.TheVariants.{Serve, NotKept}

abbrev pub serve_fault_text : ServeFault → List ℕ
serve_fault_text NoMemory = codes "no memory for the workers"
serve_fault_text NoThread = codes "a worker could not be started"

abbrev pub kept_fault_text : KeptFault → List ℕ
kept_fault_text (Serve fault) = serve_fault_text fault
kept_fault_text NotKept = codes "a change could not be kept"
