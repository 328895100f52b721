-- What is told of a push that has no outcome.
use Rattle.std.specs.Prelude.{List, ℕ, codes}
use Rattle.upload_push.specs.declared.pushing.PushFault.{PushFault}
use Rattle.upload_push.specs.declared.pushing.PushFault.TheVariants.{GaveUp, NoMemory}

abbrev pub push_fault_text : PushFault → List ℕ
push_fault_text (GaveUp _) = codes "the push was given up"
push_fault_text NoMemory = codes "no memory for a push"
