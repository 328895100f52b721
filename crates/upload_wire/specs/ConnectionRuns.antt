-- What a conversation asked of its desk; and over a service: its exchanges are a run of the service's machine.
use Rattle.std.specs.Prelude.{◌≡◌, ℕ, List, [], ◌∷◌, ◌++◌, length, map}
use Rattle.upload_service.specs.declared.ask.Ask.{Ask}
use Rattle.upload_service.specs.Run.{Run}
use Rattle.upload_service.specs.Run as service
use Rattle.upload_wire.specs.Conversation.{Moves, WireExchange, ConnectionState, Standing, stand, EndsWith}
use Rattle.upload_wire.specs.Conversation.{IsConversation}
use Rattle.upload_wire.specs.ServiceTurns.{StepsService}
use Rattle.upload_wire.specs.declared.connection.ConnEnd.{ConnEnd}
use Rattle.upload_wire.specs.declared.connection.ConnEnd.TheVariants.{Clean, AfterClose, AfterBad, TooMany, DeskGone}
use Rattle.upload_wire.specs.declared.connection.ConnEnd.TheVariants.{Fault}
use Rattle.upload_wire.specs.declared.connection.ConnFault.TheVariants as Conn
use Rattle.upload_wire.specs.declared.desk.ServiceDesk.{ServiceDesk}
use mathlib.Core.Logic.{⊎_elim}

-- ---- what a conversation asked

module _ {D : Type 0} (step : Moves D) (max_body : ℕ) (s : Standing D) (new : ConnectionState D) where
  -- the exchange inside an end: the request behind all others, if it was answered
  abbrev pub answered_last : (end : ConnEnd) → EndsWith step max_body s new end → List WireExchange
  answered_last Clean e = []
  answered_last AfterClose e = e.0 ∷ []
  answered_last AfterBad e = []
  answered_last TooMany e = e.0 ∷ []
  answered_last DeskGone e = []
  answered_last (Fault (Conn.Wire fault)) e = []
  answered_last (Fault Conn.Write) e = ⊎_elim (λ w. w.0 ∷ []) (λ w. []) e

  -- the request at which the desk was gone
  abbrev pub unanswered_last : (end : ConnEnd) → EndsWith step max_body s new end → List Ask
  unanswered_last Clean e = []
  unanswered_last AfterClose e = []
  unanswered_last AfterBad e = []
  unanswered_last TooMany e = []
  unanswered_last DeskGone e = e.0.ask ∷ []
  unanswered_last (Fault (Conn.Wire fault)) e = []
  unanswered_last (Fault Conn.Write) e = []

module _ {D : Type 0} (step : Moves D) (max_body : ℕ) (old new : ConnectionState D) (end : ConnEnd)
    (c : IsConversation step max_body old new end) where
  -- all requests that the desk answered, in their order, and the one that it didn't
  abbrev pub answered : List WireExchange
  answered =
      c.exchanges ++ answered_last step max_body (stand (length c.exchanges) c.rest c.at c.mid) new end c.ended

  abbrev pub unanswered : List Ask
  unanswered = unanswered_last step max_body (stand (length c.exchanges) c.rest c.at c.mid) new end c.ended

-- ---- over a service

-- an exchange of a connection as one of the service, with this secret and at this moment
abbrev pub service_exchange : List ℕ → ℕ → WireExchange → service.Exchange
service_exchange secret now x = record { ask = x.ask; secret = secret; now = now; answer = x.answer }

abbrev pub service_exchanges : ServiceDesk → List WireExchange → List service.Exchange
service_exchanges desk xs = map (service_exchange desk.secret desk.now) xs

-- The requests that were answered took the service from old to new, by one turn for each, all with the desk's secret
-- and at its moment, and the desk was not gone.
pub record IsRunOfService (old new : ServiceDesk) (exchanges : List WireExchange) (end : ConnEnd) : Type 0 where
  pub run : Run old.service (service_exchanges old exchanges) new.service
  pub same_secret : new.secret ≡ old.secret
  pub same_moment : new.now ≡ old.now
  pub never_gone : ¬ (end ≡ DeskGone)

-- every conversation over a desk of a service is a run of the service
abbrev pub ConversationsRunTheService : Type 0
ConversationsRunTheService =
    (max_body : ℕ) (old new : ConnectionState ServiceDesk) (end : ConnEnd)
    → (c : IsConversation StepsService max_body old new end)
    → IsRunOfService old.desk new.desk (answered StepsService max_body old new end c) end
