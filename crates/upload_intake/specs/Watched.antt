-- What a gate is told: of each request which of the worker's it is, and what is asked; and then what it was answered.
use Rattle.std.specs.Prelude.{◌≡◌, ℕ, ◌+◌, min, List, [], ◌∷◌, Option, Some, None}
use Rattle.upload_service.specs.declared.ask.Ask.{Ask}
use Rattle.upload_service.specs.declared.answer.Answer.{Answer}
use Rattle.upload_intake.specs.Notices.{Watching}
use Rattle.upload_intake.specs.Notices.Notice.{Asking, Answered}
use Rattle.upload_keeper.specs.Settled.{count_limit}
use Rattle.upload_wire.specs.Conversation.{WireExchange}

-- the turn behind this one; the last stays
abbrev pub next_turn : ℕ → ℕ
next_turn turn = min (turn + 1) count_limit

-- a gate, and behind which turn it stands
pub record GateAt (G : Type 0) : Type 0 where
  pub gate : G
  pub turn : ℕ

module _ {G : Type 0} (watches : Watching G) where
  -- One request: the gate is told of it at the next turn, and of its answer if there is one.
  abbrev pub WatchesOne : GateAt G → Ask → Option Answer → GateAt G → Type 0
  WatchesOne old ask (Some answer) new =
      (new.turn ≡ next_turn old.turn)
      × ((mid : G) × watches old.gate new.turn (Asking ask) mid × watches mid new.turn (Answered answer) new.gate)
  WatchesOne old ask None new =
      (new.turn ≡ next_turn old.turn) × watches old.gate new.turn (Asking ask) new.gate

  -- each of these requests, in order
  abbrev pub WatchesEach : GateAt G → List WireExchange → GateAt G → Type 0
  WatchesEach old [] new = new ≡ old
  WatchesEach old (x ∷ xs) new =
      (mid : GateAt G) × WatchesOne old x.ask (Some x.answer) mid × WatchesEach mid xs new

  -- the request that got no answer, if there is one: it is the last
  abbrev pub WatchesLast : GateAt G → List Ask → G → Type 0
  WatchesLast old [] new = new ≡ old.gate
  WatchesLast old (ask ∷ asks) new = (next : ℕ) × WatchesOne old ask None (record { gate = new; turn = next })

  -- The gate was told of each of these requests, at the turns 1, 2, 3 and so on, and of each answer; and at last of the
  -- one that got none. So it became what is left.
  pub record IsWatched (gate : G) (answered : List WireExchange) (unanswered : List Ask) (left : G) : Type 0 where
    pub behind : GateAt G
    pub each : WatchesEach (record { gate = gate; turn = 0 }) answered behind
    pub last : WatchesLast behind unanswered left
