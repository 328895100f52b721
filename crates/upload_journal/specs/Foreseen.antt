-- What a request may change, as it is told before it is served.
use Rattle.std.specs.Prelude.{◌+◌, ℕ, nat_le, List, length, Option, Some, None, if◌then◌else◌}
use Rattle.std.specs.Option.{option_map}
use Rattle.std.specs.FinMap as map
use Rattle.upload_names.specs.Reference.{reference}
use Rattle.upload_service.specs.declared.ask.Ask.{Ask}
use Rattle.upload_service.specs.declared.ask.Ask.TheVariants as asks
use Rattle.upload_service.specs.Machine.{State, Session, holds, last_number}
use Rattle.upload_journal.specs.declared.entries.KeptAnswer.{KeptAnswer}
use Rattle.upload_journal.specs.declared.entries.KeptAnswer.TheVariants.{Begun, Taken, Stored}

-- of an opening, if there is a number left
abbrev pub next_told : ℕ → List ℕ → Option KeptAnswer
next_told issued secret = if nat_le last_number issued then None else Some (Begun (reference (issued + 1) secret))

-- the answer in short, if the request changes something
abbrev pub change_of : State → Ask → List ℕ → Option KeptAnswer
change_of s asks.Base secret = None
change_of s (asks.Refused refusal) secret = None
change_of s (asks.Has name digest head) secret = None
change_of s (asks.Opening name) secret = next_told s.issued secret
change_of s (asks.Mount name digest source) secret =
    if holds s source digest then Some (Stored digest) else next_told s.issued secret
change_of s (asks.Single name digest body) secret = option_map Stored digest
change_of s (asks.Chunk name at range body) secret =
    option_map (λ (session : Session). Taken (length session.received + length body)) (map.get s.sessions at)
change_of s (asks.Status name at) secret = None
change_of s (asks.Close name at range digest body) secret = option_map Stored digest
