-- What is told of a connection that was disturbed.
use Rattle.std.specs.Prelude.{List, ℕ, ◌++◌, codes}
use Rattle.http_wire.specs.FaultTexts.{wire_fault_text}
use Rattle.upload_wire.specs.declared.connection.ConnFault.{ConnFault}
use Rattle.upload_wire.specs.declared.connection.ConnFault.TheVariants.{Wire, Write}

abbrev pub conn_fault_text : ConnFault → List ℕ
conn_fault_text (Wire fault) = codes "no further request: " ++ wire_fault_text fault
conn_fault_text Write = codes "a reply could not be written"
