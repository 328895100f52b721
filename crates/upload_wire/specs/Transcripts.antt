-- What a conversation added to the transcripts of its reader and of its writer.
use Rattle.std.specs.Prelude.{◌≡◌, ℕ, List, [], ◌++◌, length}
use Rattle.http_wire.specs.HeadText.{bad}
use Rattle.upload_wire.specs.Conversation.{Moves, messages, replies, last_reply, ConnectionState, Standing, stand}
use Rattle.upload_wire.specs.Conversation.{EndsWith, IsConversation}
use Rattle.upload_wire.specs.declared.connection.ConnEnd.{ConnEnd}
use Rattle.upload_wire.specs.declared.connection.ConnEnd.TheVariants.{Clean, AfterClose, AfterBad, TooMany, DeskGone}
use Rattle.upload_wire.specs.declared.connection.ConnEnd.TheVariants.{Fault}
use Rattle.upload_wire.specs.declared.connection.ConnFault.TheVariants as Conn
use mathlib.Core.Logic.{⊎_elim}

module _ {D : Type 0} (step : Moves D) (max_body : ℕ) (s : Standing D) (new : ConnectionState D) where
  -- what is written at an end: the reply to the last request or to what is bad, a prefix of it if a write failed, or
  -- nothing
  abbrev pub last_written : (end : ConnEnd) → EndsWith step max_body s new end → List ℕ
  last_written Clean e = []
  last_written AfterClose e = last_reply s.answered e.0
  last_written AfterBad e = bad e.0
  last_written TooMany e = last_reply s.answered e.0
  last_written DeskGone e = []
  last_written (Fault (Conn.Wire fault)) e = []
  last_written (Fault Conn.Write) e = ⊎_elim (λ w. w.2.front) (λ w. w.2.front) e

module _ {D : Type 0} (step : Moves D) (max_body : ℕ) (old new : ConnectionState D) (end : ConnEnd)
    (c : IsConversation step max_body old new end) where
  -- all that was read: the requests that kept the connection, in order, and then what was read behind them, which is
  -- what the end speaks of
  abbrev pub all_read : List ℕ
  all_read = messages c.exchanges ++ c.rest

  -- all that was written: the replies to them, in order, and then what was written at the end
  abbrev pub all_written : List ℕ
  all_written =
      replies c.exchanges
      ++ last_written step max_body (stand (length c.exchanges) c.rest c.at c.mid) new end c.ended

  -- that was added to the transcripts, and nothing else
  pub record TranscriptsTell : Type 0 where
    pub read : new.source.given ≡ old.source.given ++ all_read
    pub written : new.sink.taken ≡ old.sink.taken ++ all_written

-- that is so of each conversation over a desk
abbrev pub TranscriptsTellConversations : {D : Type 0} → Moves D → Type 0
TranscriptsTellConversations {D} step =
    (max_body : ℕ) (old new : ConnectionState D) (end : ConnEnd) → (c : IsConversation step max_body old new end)
    → TranscriptsTell step max_body old new end c
