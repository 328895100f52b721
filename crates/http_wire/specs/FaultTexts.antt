-- What is told of a message that can't be read.
use Rattle.std.specs.Prelude.{List, ℕ, codes}
use Rattle.http_wire.specs.declared.fault.WireFault.{WireFault}
use Rattle.http_wire.specs.declared.fault.WireFault.TheVariants.{Truncated, Read, NoMemory, Ended}
use Rattle.http_wire.specs.declared.fault.Bad.{Bad}
use Rattle.http_wire.specs.declared.fault.Bad.TheVariants.{Head, LongHead, Length, TooLarge, Coding, Chunks}

abbrev pub wire_fault_text : WireFault → List ℕ
wire_fault_text Truncated = codes "the input ended inside a message"
wire_fault_text Read = codes "a read failed"
wire_fault_text NoMemory = codes "no memory for a message"
wire_fault_text Ended = codes "the reading had ended"

abbrev pub bad_text : Bad → List ℕ
bad_text Head = codes "no head of a message"
bad_text LongHead = codes "a head of more than 16384 bytes"
bad_text Length = codes "a bad Content-Length"
bad_text TooLarge = codes "a body over the limit"
bad_text Coding = codes "a coding that is not read"
bad_text Chunks = codes "a bad chunked body"
