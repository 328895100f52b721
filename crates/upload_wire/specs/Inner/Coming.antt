-- What came of a request, if the bytes of its body may have been let go.
use Rattle.std.specs.Prelude.{ℕ, List, Result, Ok, Err}
use Rattle.http_wire.specs.declared.fault.WireFault.{WireFault}
use Rattle.http_wire.specs.declared.fault.WireFault.TheVariants as faults
use Rattle.upload_service.specs.declared.ask.Request.TheVariants.{Held, Gone}
use Rattle.upload_service.specs.Requests.{ask_in}
use Rattle.upload_wire.specs.declared.coming.Coming.{Coming}
use Rattle.upload_wire.specs.declared.coming.Coming.TheVariants as comings
use Rattle.upload_wire.specs.declared.request.Came.{Came}
use Rattle.upload_wire.specs.declared.request.Came.TheVariants as cames
use Rattle.upload_wire.specs.declared.request.Next.{Next}
use Rattle.upload_wire.specs.declared.request.Next.TheVariants as nexts

-- the bytes that came
abbrev pub bytes_in : Coming → List ℕ
bytes_in (comings.Held body) = body
bytes_in (comings.Gone gone) = gone

-- what came next
abbrev pub next_in : Came → Next
next_in (cames.Request request style) = nexts.Request (ask_in request) style
next_in cames.Over = nexts.Over
next_in (cames.Bad why) = nexts.Bad why

-- the same, if it came
abbrev pub came_in : Result Came WireFault → Result Next WireFault
came_in (Ok came) = Ok (next_in came)
came_in (Err fault) = Err fault

-- the same, or out of memory if bytes of it were let go
abbrev pub held_in : Result Came WireFault → Result Next WireFault
held_in (Ok (cames.Request (Held ask) style)) = Ok (nexts.Request ask style)
held_in (Ok (cames.Request (Gone chunk) style)) = Err faults.NoMemory
held_in (Ok cames.Over) = Ok nexts.Over
held_in (Ok (cames.Bad why)) = Ok (nexts.Bad why)
held_in (Err fault) = Err fault
