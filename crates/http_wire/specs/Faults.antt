-- The wider fault that a narrower one is.
use Rattle.http_wire.specs.declared.fault.InputFault.{InputFault}
use Rattle.http_wire.specs.declared.fault.InputFault.TheVariants as Input
use Rattle.http_wire.specs.declared.fault.BodyFault.{BodyFault}
use Rattle.http_wire.specs.declared.fault.BodyFault.TheVariants as Body
use Rattle.http_wire.specs.declared.fault.WireFault.{WireFault}
use Rattle.http_wire.specs.declared.fault.WireFault.TheVariants as Wire

abbrev pub body_of_input : InputFault → BodyFault
body_of_input Input.Truncated = Body.Truncated
body_of_input Input.Read = Body.Read

abbrev pub wire_of_input : InputFault → WireFault
wire_of_input Input.Truncated = Wire.Truncated
wire_of_input Input.Read = Wire.Read

abbrev pub wire_of_body : BodyFault → WireFault
wire_of_body Body.Truncated = Wire.Truncated
wire_of_body Body.Read = Wire.Read
wire_of_body Body.NoMemory = Wire.NoMemory
