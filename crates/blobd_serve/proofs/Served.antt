-- A worker's connection was served.
use Rattle.std.proofs.Common.{◌≡◌, ℕ, List, [], refl}
use Rattle.std.specs.Prelude.{Option, Some, None}
use Rattle.upload_service.specs.declared.ask.Ask.{Ask}
use Rattle.upload_service.specs.declared.answer.Answer.{Answer}
use Rattle.upload_intake.specs.Pools.Working.{Lending, Means, Talk, steps, connection_given, connection_left}
use Rattle.upload_intake.specs.SeatMoves.{AsksWithDrawn}
use Rattle.upload_keeper.specs.Seats.{SeatState}
use Rattle.upload_intake.proofs.Working.{seen_as}
use Rattle.upload_wire.specs.Conversation.{connection}
use Rattle.blobd_shared.specs.Connections.{transcript_of}
use Rattle.blobd_serve.specs.Serving.{HeardSteps, IsServed}

module _ {L : Lending} {S G O : Type 0} (m : Means L S G O) where
  -- a seat that is asked with a drawn secret is asked with some secret
  with_any : (old : SeatState × S) (ask : Ask) (answer : Option Answer) (new : SeatState × S)
      → AsksWithDrawn m.draws old ask answer new → HeardSteps old.0 ask answer new.0
  with_any old ask (Some answer) new asks = (asks.0, asks.2)
  with_any old ask None new asks = (asks.0, (asks.1, asks.3))

  pub is_served : (max_body : ℕ) (t : Talk m max_body) → (L.reads t.reader).given ≡ []
      → (L.writes t.writer).taken ≡ [] → IsServed (transcript_of (L.reads t.reader_left)) (L.writes t.writer_left).taken
  is_served max_body t unread unwritten = record {
    max_body = max_body;
    old = connection (L.reads t.reader) t.old.0 (L.writes t.writer);
    new = connection (L.reads t.reader_left) t.new.0 (L.writes t.writer_left);
    end = t.end;
    unread = unread;
    unwritten = unwritten;
    read = refl;
    written = refl;
    conversation =
        seen_as {D = SeatState × S} {E = SeatState} (steps m max_body) HeardSteps (λ d. d.0) with_any
        max_body (connection_given m max_body t) (connection_left m max_body t) t.end t.conversation;
  }
