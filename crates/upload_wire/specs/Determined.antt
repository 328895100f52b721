-- A conversation is determined by what was read, as far as its desk is.
use Rattle.std.specs.Prelude.{◌≡◌, ◌≢◌, ℕ, List, map, Option, Some, ⊤}
use Rattle.std.specs.List.{AllByRecursion}
use Rattle.upload_service.specs.declared.ask.Ask.{Ask}
use Rattle.upload_service.specs.declared.answer.Answer.{Answer}
use Rattle.upload_service.specs.declared.answer.Answer.TheVariants.{NoMemory}
use Rattle.http_wire.specs.Writing.{TookAll}
use Rattle.http_wire.specs.declared.fault.Bad.TheVariants.{Head}
use Rattle.http_wire.specs.declared.fault.WireFault.TheVariants as Wire
use Rattle.upload_wire.specs.RequestText.{IsBad}
use Rattle.upload_wire.specs.Conversation.{Moves, WireExchange, ConnectionState, IsConversation}
use Rattle.upload_wire.specs.ConnectionRuns.{answered}
use Rattle.upload_wire.specs.declared.request.Style.{Style}
use Rattle.upload_wire.specs.declared.connection.ConnEnd.{ConnEnd}
use Rattle.upload_wire.specs.declared.connection.ConnEnd.TheVariants.{AfterBad, DeskGone, Fault}
use Rattle.upload_wire.specs.declared.connection.ConnFault.TheVariants as Conn

-- a conversation, with all that it is one of
pub record Dialogue {D : Type 0} (step : Moves D) (max_body : ℕ) : Type 0 where
  pub old : ConnectionState D
  pub new : ConnectionState D
  pub end : ConnEnd
  pub is : IsConversation step max_body old new end

-- all requests that were answered, the one inside the end among them
abbrev pub answered_in_dialogue : {D : Type 0} (step : Moves D) (max_body : ℕ) → Dialogue step max_body
    → List WireExchange
answered_in_dialogue step max_body d = answered step max_body d.old d.new d.end d.is

-- a request as it was read, what it asks, and how it wants its reply
pub record ReadRequest : Type 0 where
  pub message : List ℕ
  pub ask : Ask
  pub style : Style

abbrev pub asked : WireExchange → ReadRequest
asked x = record { message = x.message; ask = x.ask; style = x.style }

-- An end that the bytes don't decide: memory was out, a write failed, or the head that stands there may be refused.
abbrev pub IsUndecided : ℕ → List ℕ → ConnEnd → Type 0
IsUndecided max_body rest AfterBad = IsBad max_body rest Head
IsUndecided max_body rest (Fault (Conn.Wire Wire.NoMemory)) = ⊤
IsUndecided max_body rest (Fault Conn.Write) = ⊤
IsUndecided max_body rest other = ⊥

abbrev pub IsDecided : {D : Type 0} (step : Moves D) (max_body : ℕ) → Dialogue step max_body → Type 0
IsDecided step max_body d = ¬ (IsUndecided max_body d.is.rest d.end)

-- if memory isn't out, an ask has one answer, or none, and leaves one state
abbrev pub IsDeterministic : {D : Type 0} → Moves D → Type 0
IsDeterministic {D} step =
    (old : D) (ask : Ask) (answer other : Option Answer) (new another : D) → step old ask answer new
    → step old ask other another
    → answer ≢ Some NoMemory → other ≢ Some NoMemory → (answer ≡ other) × (new ≡ another)

-- no answer was out of memory
abbrev pub HasMemory : List WireExchange → Type 0
HasMemory xs = AllByRecursion (λ x. x.answer ≢ NoMemory) xs

-- the same was asked, and the same is left
pub record AskTheSame {D : Type 0} (step : Moves D) (max_body : ℕ) (d e : Dialogue step max_body) : Type 0 where
  pub requests : map asked (answered_in_dialogue step max_body d) ≡ map asked (answered_in_dialogue step max_body e)
  pub rest : d.is.rest ≡ e.is.rest

-- and it was answered the same, the same was written, and the desk is left the same
pub record AreTheSame {D : Type 0} (step : Moves D) (max_body : ℕ) (d e : Dialogue step max_body) : Type 0 where
  pub exchanges : answered_in_dialogue step max_body d ≡ answered_in_dialogue step max_body e
  pub rest : d.is.rest ≡ e.is.rest
  pub desk : d.new.desk ≡ e.new.desk
  pub written : List ℕ
  pub taken : TookAll d.old.sink d.new.sink written
  pub taken_too : TookAll e.old.sink e.new.sink written

-- Of two conversations over the same bytes, whose ends these decide: what is asked is the same, whatever the desk
-- answers, unless it was gone. What is answered and written, and how the desk is left, is the same too if the desk
-- is deterministic and stood at the same state, and no answer was out of memory.
pub record ConversationsAreDetermined {D : Type 0} (step : Moves D) : Type 0 where
  pub by_bytes : (max_body : ℕ) (d e : Dialogue step max_body) → d.is.bytes ≡ e.is.bytes → IsDecided step max_body d
      → IsDecided step max_body e → d.end ≢ DeskGone → e.end ≢ DeskGone → AskTheSame step max_body d e
  pub by_desk : (max_body : ℕ) (d e : Dialogue step max_body) → d.is.bytes ≡ e.is.bytes → IsDecided step max_body d
      → IsDecided step max_body e → IsDeterministic step → d.old.desk ≡ e.old.desk
      → HasMemory (answered_in_dialogue step max_body d) → HasMemory (answered_in_dialogue step max_body e)
      → AreTheSame step max_body d e
