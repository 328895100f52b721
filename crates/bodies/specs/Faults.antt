-- What is told of a fault.
use Rattle.std.specs.Prelude.{ℕ, List, Option, Some, None, codes}
use Rattle.bodies.specs.declared.fault.BodyFault.{BodyFault}
use Rattle.bodies.specs.declared.fault.BodyFault.TheVariants.{Taken, Missing, Ended, TooLong, Io}

-- its message; that of another error is the system's
abbrev pub body_fault_text : BodyFault → Option (List ℕ)
body_fault_text Taken = Some (codes "a body of this number is there")
body_fault_text Missing = Some (codes "no body of this number is there")
body_fault_text Ended = Some (codes "no more is written after a call that failed")
body_fault_text TooLong = Some (codes "a body of 2^63 bytes or more")
body_fault_text (Io error) = None

-- by what each comes: a body of the number is there, none is there, nothing more is written, it would be too long, or a
-- call failed
abbrev pub Because : (taken missing ended long failed : Type 0) → BodyFault → Type 0
Because taken missing ended long failed Taken = taken
Because taken missing ended long failed Missing = missing
Because taken missing ended long failed Ended = ended
Because taken missing ended long failed TooLong = long
Because taken missing ended long failed (Io _) = failed
