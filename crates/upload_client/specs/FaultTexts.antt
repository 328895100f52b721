-- What is told of a reply that can't be read.
use Rattle.std.specs.Prelude.{List, ℕ, codes}
use Rattle.upload_client.specs.declared.heard.HeardFault.{HeardFault}
use Rattle.upload_client.specs.declared.heard.HeardFault.TheVariants.{Truncated, Read, NoMemory, Unreadable, TooLarge}
use Rattle.upload_client.specs.declared.heard.HeardFault.TheVariants.{Ended}

abbrev pub heard_fault_text : HeardFault → List ℕ
heard_fault_text Truncated = codes "the input ended inside a reply"
heard_fault_text Read = codes "a read failed"
heard_fault_text NoMemory = codes "no memory for a reply"
heard_fault_text Unreadable = codes "a reply of no form that is read"
heard_fault_text TooLarge = codes "a reply whose head or body is too large"
heard_fault_text Ended = codes "the reading had ended"
