-- The connections of a push that makes them as it needs them.
use Rattle.std.specs.Prelude.{◌≡◌, ℕ, List, [], ◌∷◌, ◌++◌, Option, None, ⊤}
use Rattle.std.specs.List.{AllByRecursion}
use Rattle.upload_service.specs.declared.ask.Ask.{Ask}
use Rattle.upload_client.specs.TransportText.{WireState}
use Rattle.upload_intake.specs.Pools.Working.{Lending, Means, Talk}
use Rattle.upload_push.specs.Dialed.{AsksDialed}
use Rattle.upload_push.specs.Slices.{Attempt, Leads}
use Rattle.wire_laws.specs.Joined.{TransportCall, Transmits, IsNoGet}
use Rattle.wire_laws.specs.WrittenExchanges.{IsShortHost, IsWritable}
use Rattle.end_to_end.specs.Network.{Connection, IsAskOf, IsCarried}

-- what was asked over a connection, or an ask for which none could be made
pub data Leg : Type 0 where
  over : Connection → Leg
  unmet : Ask → Leg

abbrev pub asked_on : Leg → List TransportCall
asked_on (over c) = c.asks
asked_on (unmet ask) = record { ask = ask; heard = None } ∷ []

-- what a push asked on these legs, the newest of which is the first, in the order in which it asked
abbrev pub asked_in : List Leg → List TransportCall
asked_in [] = []
asked_in (leg ∷ legs) = asked_in legs ++ asked_on leg

-- the same of what it asked and heard
abbrev pub asked_by : List Attempt → List TransportCall
asked_by [] = []
asked_by (e ∷ log) = asked_by log ++ record { ask = e.ask; heard = e.heard } ∷ []

-- A connection to the host. It carried requests of the push, and before them some that came before the push.
pub record IsMadeFor (host : List ℕ) (earlier log : List Attempt) (c : Connection) : Type 0 where
  pub host_is : c.made.host ≡ host
  pub own : AllByRecursion (λ x. IsAskOf log x.ask) c.asks
  pub before_it : AllByRecursion (λ x. IsAskOf earlier x.ask) c.before

abbrev pub IsLegTo : List ℕ → List Attempt → List Attempt → Leg → Type 0
IsLegTo host earlier log (over c) = IsMadeFor host earlier log c
IsLegTo host earlier log (unmet ask) = ⊤

-- All that a push asked and heard stands on these connections, each ask once, in the order in which it asked. To an ask
-- that met no connection nothing was heard.
pub record HasConnections (host : List ℕ) (earlier log : List Attempt) : Type 0 where
  pub legs : List Leg
  pub all : asked_in legs ≡ asked_by log
  pub each : AllByRecursion (IsLegTo host earlier log) legs

-- Let a client have asked this earlier, from no connection on, and then a push over the connection that it kept: the
-- push has such connections.
abbrev pub DialedPushesHaveConnections : Type 0
DialedPushesHaveConnections =
    (host : List ℕ) (earlier log : List Attempt) (kept last : Option WireState)
    → Leads (AsksDialed host) None earlier kept → Leads (AsksDialed host) kept log last
    → HasConnections host earlier log

-- If the network made such a connection one of a worker's, it is one of which the law from end to end speaks. What was
-- asked before the push is such as its type has, and gets no blob's bytes; the host isn't too long.
abbrev pub DialedConnectionsAreCarried : {L : Lending} {S G O : Type 0} → Means L S G O → Type 0
DialedConnectionsAreCarried {L} m =
    (max_body : ℕ) (host : List ℕ) (earlier log : List Attempt) (c : Connection) → IsMadeFor host earlier log c
    → AllByRecursion (λ (e : Attempt). IsNoGet e.ask) earlier
    → AllByRecursion (λ (e : Attempt). IsWritable max_body e.ask) earlier → IsShortHost host
    → (t : Talk m max_body) → Transmits c.left (L.reads t.reader_left) (L.writes t.writer_left)
    → IsCarried m max_body log t c
