-- A connection from both of its ends: what a client asked and heard over it is what a worker read and answered on it.
use Rattle.std.specs.Prelude.{false, ◌≡◌, ◌≢◌, ℕ, ◌≤◌, ◌⊎◌, List, [], ◌∷◌, ◌++◌, length, Option, Some, None, IfSome}
use Rattle.std.specs.List.{AllByRecursion}
use Rattle.upload_names.specs.Digest.{Digest}
use Rattle.upload_service.specs.UploadView.{answer_view}
use Rattle.upload_service.specs.declared.ask.Ask.{Ask}
use Rattle.upload_service.specs.declared.ask.Ask.TheVariants as asks
use Rattle.upload_service.specs.declared.answer.Answer.{Answer}
use Rattle.http_wire.specs.States.{SourceState, SinkState}
use Rattle.upload_wire.specs.ConnectionRuns.{answered, unanswered}
use Rattle.upload_wire.specs.Conversation.{Moves, WireExchange, ConnectionState, IsConversation}
use Rattle.upload_wire.specs.declared.connection.ConnEnd.{ConnEnd}
use Rattle.upload_client.specs.AnswerText.{max_answer}
use Rattle.upload_client.specs.Heard.{reply_heard}
use Rattle.upload_client.specs.TransportText.{WireState, AsksOverWire}
use Rattle.upload_client.specs.declared.heard.Heard.{Heard}
use Rattle.wire_laws.specs.WrittenAsks.{written_style}
use Rattle.wire_laws.specs.WrittenExchanges.{MayBeAsked}
use Rattle.wire_laws.specs.WrittenReplies.{FitsMethod, HasLawfulValues}

-- an ask, and what was heard of it
pub record TransportCall : Type 0 where
  pub ask : Ask
  pub heard : Option Heard

-- asks over one transport, one after the other
abbrev pub AsksInTurn : WireState → List TransportCall → WireState → Type 0
AsksInTurn old [] new = new ≡ old
AsksInTurn old (x ∷ xs) new = (mid : WireState) × AsksOverWire old x.ask x.heard mid × AsksInTurn mid xs new

-- nothing was read over the transport, and nothing written
pub record IsUntouched (wire : WireState) : Type 0 where
  pub given : wire.reader.input.source.given ≡ []
  pub taken : wire.writer.taken ≡ []

abbrev pub IsPrefix : List ℕ → List ℕ → Type 0
IsPrefix front text = (back : List ℕ) × (text ≡ front ++ back)

-- The network between the two ends: the worker's reads gave a prefix of what the client's writes took, and the client's
-- reads gave a prefix of what the worker's writes took. It may cut a connection in each direction, at any byte.
pub record Transmits (client : WireState) (source : SourceState) (sink : SinkState) : Type 0 where
  pub there : IsPrefix source.given client.writer.taken
  pub back : IsPrefix client.reader.input.source.given sink.taken

-- a blob that is handed out has no more bytes than a client reads of a reply
abbrev pub IsShort : Answer → Type 0
IsShort answer = IfSome (answer_view answer).bytes (λ content. length content ≤ max_answer)

-- the answer can be heard in the reply that is written
pub record IsAudible (x : WireExchange) : Type 0 where
  pub values : HasLawfulValues x.answer
  pub fits : FitsMethod x.answer x.style.head
  pub short : IsShort x.answer

-- nothing was heard; or what the answer says, but perhaps for its error code, which the reply to a HEAD lacks
abbrev pub AnswerSays : Answer → Option Heard → Type 0
AnswerSays answer heard =
    (heard ≡ None) ⊎ ((code : Option (List ℕ)) × (heard ≡ Some (record (reply_heard answer) { code = code })))

-- of these asks nothing was heard, and the first of them are these
abbrev pub AreUnanswered : List TransportCall → List Ask → Type 0
AreUnanswered xs [] = AllByRecursion (λ x. x.heard ≡ None) xs
AreUnanswered [] (u ∷ us) = ⊥
AreUnanswered (x ∷ xs) (u ∷ us) = (u ≡ x.ask) × (x.heard ≡ None) × AreUnanswered xs us

-- Each request that was answered is what was asked at its place, and what was heard there is what the answer says. The
-- one that was not answered is what was asked next. Of what was asked after the answered ones nothing was heard.
abbrev pub AreJoined : List TransportCall → List WireExchange → List Ask → Type 0
AreJoined xs [] us = AreUnanswered xs us
AreJoined [] (y ∷ ys) us = ⊥
AreJoined (x ∷ xs) (y ∷ ys) us = (y.ask ≡ x.ask) × AnswerSays y.answer x.heard × AreJoined xs ys us

-- no GET of a blob
abbrev pub IsNoGet : Ask → Type 0
IsNoGet ask = (name : List ℕ) (digest : Digest) → ask ≢ asks.Has name digest false

-- the ask is one of these
abbrev pub IsOneOf : List TransportCall → Ask → Type 0
IsOneOf [] ask = ⊥
IsOneOf (x ∷ xs) ask = (ask ≡ x.ask) ⊎ IsOneOf xs ask

-- The conversation began with nothing read and nothing written, and the answers to what the client asked can be heard.
pub record CanBeJoined (xs : List TransportCall) (first : SourceState) (before : SinkState)
    (answers : List WireExchange) : Type 0 where
  pub given : first.given ≡ []
  pub taken : before.taken ≡ []
  pub audible : AllByRecursion (λ y. IsOneOf xs y.ask → y.style ≡ written_style y.ask → IsAudible y) answers

abbrev pub ConnectionsAreJoined : {D : Type 0} → Moves D → Type 0
ConnectionsAreJoined {D} step =
    (max_body : ℕ) (old new : ConnectionState D) (end : ConnEnd) → (c : IsConversation step max_body old new end)
    (xs : List TransportCall) → CanBeJoined xs old.source old.sink (answered step max_body old new end c)
    → (wire wire' : WireState) → IsUntouched wire → AsksInTurn wire xs wire'
    → AllByRecursion (λ x. MayBeAsked max_body x.ask wire.host) xs → Transmits wire' new.source new.sink
    → AreJoined xs (answered step max_body old new end c) (unanswered step max_body old new end c)
