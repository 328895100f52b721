-- What `blobd once` does: one conversation with a new service.
use Rattle.std.specs.Prelude.{◌≡◌, ℕ, replicate}
use Rattle.upload_service.specs.Machine.{empty_state}
use Rattle.upload_service.specs.Run.{Run}
use Rattle.upload_service.specs.Headline.{Headline}
use Rattle.http_wire.specs.States.{SourceState, SinkState}
use Rattle.upload_wire.specs.Conversation.{connection, IsConversation}
use Rattle.upload_wire.specs.ConnectionRuns.{answered, service_exchanges}
use Rattle.upload_wire.specs.ServiceTurns.{StepsService}
use Rattle.upload_wire.specs.declared.connection.ConnEnd.{ConnEnd}
use Rattle.upload_wire.specs.declared.connection.ConnEnd.TheVariants.{Clean, AfterClose, AfterBad, TooMany, DeskGone}
use Rattle.upload_wire.specs.declared.connection.ConnEnd.TheVariants.{Fault}
use Rattle.upload_wire.specs.declared.desk.ServiceDesk.{ServiceDesk}
use Rattle.blobd_serve.specs.Limits.{program_limits}

-- a new service behind a desk with the zero secret, at moment 0
abbrev pub first_desk : ServiceDesk
first_desk = record { service = empty_state program_limits 0; secret = replicate 12 0; now = 0 }

-- the exit status of a connection's end
abbrev pub status_of : ConnEnd → ℕ
status_of Clean = 0
status_of AfterClose = 0
status_of AfterBad = 1
status_of TooMany = 1
status_of DeskGone = 3
status_of (Fault fault) = 3

-- What was read and what was written are a conversation with a new service, and the exit status is that of its end. The
-- requests that were answered are a run of the service, and the headline holds of it.
pub record IsOnce (first left : SourceState) (before after : SinkState) (status : ℕ) : Type 0 where
  pub end : ConnEnd
  pub desk : ServiceDesk
  pub conversation : IsConversation StepsService program_limits.max_body (connection first first_desk before)
      (connection left desk after) end
  pub run : Run first_desk.service
      (service_exchanges first_desk
      (answered StepsService program_limits.max_body (connection first first_desk before)
      (connection left desk after) end conversation))
      desk.service
  pub headline : Headline first_desk.service
      (service_exchanges first_desk
      (answered StepsService program_limits.max_body (connection first first_desk before)
      (connection left desk after) end conversation))
      desk.service
  pub is_status : status ≡ status_of end
