-- What the parts of a served connection do.
use Rattle.std.specs.Prelude.{◌≡◌, ℕ, ◌+◌, ◌<◌, true, false, List, ◌++◌, Option, Some, None}
use Rattle.upload_service.specs.declared.answer.Answer.{Answer}
use Rattle.http_wire.specs.declared.fault.Bad.{Bad}
use Rattle.http_wire.specs.HeadText.{bad}
use Rattle.upload_wire.specs.ReplyText.{reply}
use Rattle.http_wire.specs.States.{SourceState, SinkState}
use Rattle.http_wire.specs.Reading.{Gives}
use Rattle.http_wire.specs.Writing.{TookFront}
use Rattle.upload_wire.specs.Conversation.{Moves, WireExchange, IsKept, HandedOn, stand, connection, EndsWith}
use Rattle.upload_wire.specs.Conversation.{ReadsFail, max_requests, last_style}
use Rattle.upload_wire.specs.ServerState.{ServerState}
use Rattle.upload_wire.specs.declared.request.Style.{Style}
use Rattle.upload_wire.specs.declared.connection.ConnEnd.{ConnEnd}
use Rattle.upload_wire.specs.declared.connection.ConnEnd.TheVariants.{Clean, AfterClose, AfterBad, TooMany, DeskGone}
use Rattle.upload_wire.specs.declared.connection.ConnEnd.TheVariants.{Fault}
use Rattle.upload_wire.specs.declared.connection.ConnFault.TheVariants as Conn

-- an answer, and how its request wants the reply
pub record StyledAnswer : Type 0 where
  pub answer : Answer
  pub style : Style

abbrev pub styled : Answer → Style → StyledAnswer
styled answer style = record { answer = answer; style = style }

-- How a request behind `count` others was replied to; None if the connection goes on.
abbrev pub IsRepliedTo : ℕ → StyledAnswer → SinkState → SinkState → Option ConnEnd → Type 0
IsRepliedTo count a mid after None =
    HandedOn mid after (reply a.answer a.style) × (a.style.keep ≡ true) × (count + 1 < max_requests)
IsRepliedTo count a mid after (Some Clean) = ⊥
IsRepliedTo count a mid after (Some AfterClose) =
    HandedOn mid after (reply a.answer (last_style count a.style)) × (a.style.keep ≡ false)
IsRepliedTo count a mid after (Some AfterBad) = ⊥
IsRepliedTo count a mid after (Some TooMany) =
    HandedOn mid after (reply a.answer (last_style count a.style)) × (a.style.keep ≡ true)
    × (count + 1 ≡ max_requests)
IsRepliedTo count a mid after (Some DeskGone) = ⊥
IsRepliedTo count a mid after (Some (Fault (Conn.Wire fault))) = ⊥
IsRepliedTo count a mid after (Some (Fault Conn.Write)) =
    TookFront mid after (reply a.answer (last_style count a.style))

-- How what is no request was replied to.
abbrev pub RefusedWith : SinkState → SinkState → Bad → ConnEnd → Type 0
RefusedWith mid after why AfterBad = HandedOn mid after (bad why)
RefusedWith mid after why (Fault Conn.Write) = TookFront mid after (bad why)
RefusedWith mid after why other = ⊥

-- How far a server is with a connection: how many requests it answered, what it read and holds, and the connection's
-- source, desk and sink.
pub record Progress (D : Type 0) : Type 0 where
  pub answered : ℕ
  pub held : List ℕ
  pub source : SourceState
  pub desk : D
  pub sink : SinkState

abbrev pub progress : {D : Type 0} → ℕ → List ℕ → SourceState → D → SinkState → Progress D
progress answered held source desk sink =
    record { answered = answered; held = held; source = source; desk = desk; sink = sink }

abbrev pub progress_of : {D : Type 0} → ServerState → SourceState → D → SinkState → Progress D
progress_of server source desk sink = progress server.answered server.held source desk sink

-- The next request was read and answered, its reply was handed on, and the connection goes on.
pub record GoesOn {D : Type 0} (step : Moves D) (max_body : ℕ) (old new : Progress D) : Type 0 where
  pub given : List ℕ
  pub gives : Gives old.source new.source given
  pub unfailed : new.source.failed_reads ≡ old.source.failed_reads
  pub exchange : WireExchange
  pub read : old.held ++ given ≡ exchange.message ++ new.held
  pub kept : IsKept max_body exchange
  pub answered : step old.desk exchange.ask (Some exchange.answer) new.desk
  pub written : HandedOn old.sink new.sink (reply exchange.answer exchange.style)
  pub counted : new.answered ≡ old.answered + 1
  pub few : old.answered + 1 < max_requests

-- What came next in the input ended the connection.
pub record Stops {D : Type 0} (step : Moves D) (max_body : ℕ) (old new : Progress D) (end : ConnEnd) : Type 0 where
  pub given : List ℕ
  pub gives : Gives old.source new.source given
  pub reads : ReadsFail end old.source.failed_reads new.source.failed_reads
  pub ended : EndsWith step max_body (stand old.answered (old.held ++ given) old.desk old.sink)
      (connection new.source new.desk new.sink) end
