-- A push over connections to the workers of a pool, and a network that may cut them and hold bytes back.
use Rattle.std.specs.Prelude.{◌≡◌, ◌<◌, ◌≤◌, ◌==◌, IsTrue, ℕ, List, [], ◌∷◌, ◌++◌, length, map, filter, Option}
use Rattle.std.specs.Prelude.{Some, None, ⊤}
use Rattle.std.specs.List.{AllByRecursion, flat_map}
use Rattle.upload_names.specs.Digest.{IsDigest}
use Rattle.upload_names.specs.NamePass.{is_name}
use Rattle.upload_service.specs.Machine.{State, AreLawful, IsLawful}
use Rattle.upload_service.specs.Run.{Run}
use Rattle.upload_service.specs.Session.{received}
use Rattle.upload_service.specs.declared.answer.Answer.TheVariants as answers
use Rattle.upload_service.specs.declared.ask.Ask.{Ask}
use Rattle.upload_service.specs.declared.ask.Ask.TheVariants as asks
use Rattle.upload_service.specs.declared.ask.Extent.TheVariants.{Absent}
use Rattle.upload_wire.specs.Conversation.{WireExchange}
use Rattle.upload_client.specs.TransportText.{WireState}
use Rattle.upload_client.specs.declared.heard.Heard.{Heard}
use Rattle.upload_keeper.specs.Log.{Step, exchanges_of}
use Rattle.upload_intake.specs.Pools.ServedPool.{Given, Left, IsServedPool}
use Rattle.upload_intake.specs.Transcripts.{GivesUnused}
use Rattle.upload_intake.specs.Pools.Working.{Lending, Means, Lent, Talk, answered_on, unanswered_on}
use Rattle.upload_intake.specs.declared.work.WorkerEnd.{WorkerEnd}
use Rattle.upload_push.specs.Promise.{IsStored, IsThere}
use Rattle.upload_push.specs.Slices.{Push}
use Rattle.upload_push.specs.Slices as push
use Rattle.upload_push.specs.declared.pusher.Outcome.TheVariants.{Pushed, Already}
use Rattle.upload_push.specs.declared.pusher.Phase.TheVariants.{Done}
use Rattle.wire_laws.specs.Joined.{TransportCall, AsksInTurn, IsUntouched, IsNoGet, Transmits}
use Rattle.wire_laws.specs.WrittenExchanges.{IsShortHost, IsWritable}
use Rattle.end_to_end.specs.Marks.{Mark, other, mark_of, Marked, steps_in, heard_in, heard_by, AreApart}

-- A connection of a push: as it was made, what was asked over it in turn, and as it was left. Before the requests of
-- the push its client may have asked something else over it, as whether the repository has the blob.
pub record Connection : Type 0 where
  pub made : WireState
  pub before : List TransportCall
  pub asks : List TransportCall
  pub left : WireState
  pub is_new : IsUntouched made
  pub turn : AsksInTurn made (before ++ asks) left

-- ---- the marks of one conversation

-- the marks of what was asked over a connection: what was asked before the push's requests is no request of the push
abbrev pub marks_asked : Connection → List Mark
marks_asked c = map (λ (x : TransportCall). other) c.before ++ map (λ (x : TransportCall). mark_of x.ask x.heard) c.asks

abbrev pub unanswered_marks : List Mark → List Ask → List Mark
unanswered_marks ks [] = []
unanswered_marks [] (u ∷ us) = other ∷ unanswered_marks [] us
unanswered_marks (k ∷ ks) (u ∷ us) = k ∷ unanswered_marks ks us

-- of the requests that a worker answered, and of the one that it didn't, each has the mark of the ask at its place
abbrev pub marks_on : List Mark → List WireExchange → List Ask → List Mark
marks_on ks [] us = unanswered_marks ks us
marks_on [] (y ∷ ys) us = other ∷ marks_on [] ys us
marks_on (k ∷ ks) (y ∷ ys) us = k ∷ marks_on ks ys us

-- one of the requests of a push
pub record IsAskOf (log : List push.Attempt) (ask : Ask) : Type 0 where
  pub later : List push.Attempt
  pub at : push.Attempt
  pub earlier : List push.Attempt
  pub split : log ≡ later ++ at ∷ earlier
  pub same : at.ask ≡ ask

abbrev pub at_seat : ℕ → List Marked → List Marked
at_seat seat ms = filter (λ (m : Marked). seat == m.0.seat) ms

-- A push to a server with this limit of bodies: its chunks keep the limit. Its name is one, and its digest has as many
-- bytes as its algorithm gives, as their types say.
pub record IsFor (max_body : ℕ) (p : Push) : Type 0 where
  pub name : IsTrue (is_name p.name)
  pub digest : IsDigest p.digest
  pub chunk : p.chunk ≤ max_body

module _ {L : Lending} {S G O : Type 0} (m : Means L S G O) (max_body : ℕ) (log : List push.Attempt) where
  -- The connection of the push is this one of a worker: what either end read is a prefix of what the other wrote. It
  -- carried requests of the push, to a host that isn't too long, and before them some that get no blob's bytes, such as
  -- their types have.
  pub record IsCarried (t : Talk m max_body) (c : Connection) : Type 0 where
    pub carries : Transmits c.left (L.reads t.reader_left) (L.writes t.writer_left)
    pub to_host : IsShortHost c.made.host
    pub own : AllByRecursion (λ x. IsAskOf log x.ask) c.asks
    pub no_gets : AllByRecursion (λ x. IsNoGet x.ask) c.before
    pub writable : AllByRecursion (λ x. IsWritable max_body x.ask) c.before

  -- a connection of a worker, and which of the push's it is, if it is one
  abbrev pub Whose : Type 0
  Whose = Talk m max_body × Option Connection

  abbrev pub IsWhose : Whose → Type 0
  IsWhose (t, None) = ⊤
  IsWhose (t, Some c) = IsCarried t c

  abbrev pub marks_of : Whose → List Mark
  marks_of (t, None) = marks_on [] (answered_on m max_body t) (unanswered_on m max_body t)
  marks_of (t, Some c) = marks_on (marks_asked c) (answered_on m max_body t) (unanswered_on m max_body t)

  -- The steps of a seat have the marks of its connections, in order. The request that its last one left unanswered may
  -- be no step.
  pub record IsMarkedBy (talks : List (Talk m max_body)) (ms : List Marked) : Type 0 where
    pub whose : List Whose
    pub talks_are : map (λ (w : Whose). w.0) whose ≡ talks
    pub each : AllByRecursion IsWhose whose
    pub unserved : List Mark
    pub marks : flat_map marks_of whose ≡ map (λ (n : Marked). n.1) ms ++ unserved

module _ {L : Lending} {S G O M : Type 0} (m : Means L S G O) (tells : M → ℕ → M → Type 0)
    (given : Given M (Lent L S G O)) (left : Left M (Lent L S G O)) (pool : IsServedPool m tells given left)
    (p : Push) (log : List push.Attempt) where
  -- An account of the network between a push and a pool: whose request each step served.
  pub record IsAccount : Type 0 where
    pub marked : List Marked
    pub all : steps_in marked ≡ pool.steps
    -- workers are given connections on which nothing was read and nothing written
    pub unused : GivesUnused L
    pub seats : (seat : ℕ) (worker : Lent L S G O) (end : WorkerEnd) (within : seat < length given.workers)
        → IsMarkedBy m given.service.limits.max_body log (pool.parts seat worker end within).worked.talks
        (at_seat seat marked)
    pub apart : AreApart p.name None marked

  -- what the push heard was served in the order in which it asked
  abbrev pub IsInOrder : IsAccount → Type 0
  IsInOrder account = heard_in account.marked ≡ heard_by log

-- At one step the upload of the push was closed. What it had received by then is exactly the file: what it had at the
-- start, and the chunks that it took, in the order taken, each once. And the file stood under its digest and its name
-- then. At the end the repository has the digest, with bytes that have it.
pub record IsLeftThere (p : Push) (start : State) (steps : List Step) (end : State) : Type 0 where
  pub before : List Step
  pub close : Step
  pub after : List Step
  pub split : steps ≡ before ++ close ∷ after
  pub upload : List ℕ
  pub asked : close.exchange.ask ≡ asks.Close p.name upload Absent (Some p.digest) []
  pub answered : close.exchange.answer ≡ answers.Stored p.name p.digest
  pub received_all : received start (exchanges_of (before ++ close ∷ [])) upload ≡ p.file
  pub at : State
  pub first : Run start (exchanges_of (before ++ close ∷ [])) at
  pub stored : IsStored p at
  pub second : Run at (exchanges_of after) end
  pub there : IsThere p end

-- At some step the repository had the digest, with bytes that have it, and so at the end.
pub record IsFoundThere (p : Push) (start : State) (steps : List Step) (end : State) : Type 0 where
  pub before : List Step
  pub after : List Step
  pub split : steps ≡ before ++ after
  pub at : State
  pub first : Run start (exchanges_of before) at
  pub found : IsThere p at
  pub second : Run at (exchanges_of after) end
  pub there : IsThere p end

-- FROM END TO END, read aloud: let a pool of workers have served, and let a push have ended whose requests went over
-- connections to them. Then in the one order in which the pool served all requests, if the push ended Pushed, the step
-- of its close committed what its upload had received, which is exactly the file, under its digest and its name; and if
-- it ended Already, the repository had the digest at some step.
pub record PushesAreServed {L : Lending} {S G O M : Type 0} (m : Means L S G O)
    (tells : M → ℕ → M → Type 0) : Type 0 where
  pub pushed : (given : Given M (Lent L S G O)) (left : Left M (Lent L S G O))
      (pool : IsServedPool m tells given left) (p : Push)
      (told : List (Option Heard)) → IsLawful given.service → AreLawful given.service.limits → push.IsLawfulPush p
      → IsFor given.service.limits.max_body p → (push.after_all p told).phase ≡ Done Pushed
      → (account : IsAccount m tells given left pool p (push.log_of p told))
      → IsInOrder m tells given left pool p (push.log_of p told) account
      → IsLeftThere p given.service pool.steps left.service
  pub already : (given : Given M (Lent L S G O)) (left : Left M (Lent L S G O))
      (pool : IsServedPool m tells given left) (p : Push)
      (told : List (Option Heard)) → IsLawful given.service → AreLawful given.service.limits → push.IsLawfulPush p
      → IsFor given.service.limits.max_body p → (push.after_all p told).phase ≡ Done Already
      → (account : IsAccount m tells given left pool p (push.log_of p told))
      → IsInOrder m tells given left pool p (push.log_of p told) account
      → IsFoundThere p given.service pool.steps left.service
