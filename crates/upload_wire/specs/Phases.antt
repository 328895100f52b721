-- The phases of a request reader.
use Rattle.std.specs.Prelude.{ℕ, ◌+◌, ◌*◌, Result, Ok, Err}
use Rattle.http_wire.specs.declared.fault.WireFault.{WireFault}
use Rattle.upload_wire.specs.declared.request.Next.{Next}
use Rattle.upload_wire.specs.declared.request.Next.TheVariants.{Request, Over, Bad}
use Rattle.upload_wire.specs.declared.reader.Phase.{Phase}

-- the phase after an answer
abbrev pub phase_after : Result Next WireFault → Phase
phase_after (Ok (Request ask style)) = Phase.Ready
phase_after (Ok Over) = Phase.Over
phase_after (Ok (Bad why)) = Phase.Ended
phase_after (Err fault) = Phase.Ended

-- the most reads of one request: its head, and a chunked body of chunks of one byte each
abbrev pub most_reads : ℕ → ℕ
most_reads max_body = 16396 + 13 * max_body
