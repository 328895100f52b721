-- A seat: what it sent and heard, and whether the keeper is gone for it.
use Rattle.std.specs.Prelude.{◌≡◌, ◌⊎◌, ℕ, Bool, true, false, List, [], ◌∷◌, ◌++◌, Result, Ok, Err}
use Rattle.std.specs.Prelude.{Option, Some, None}
use Rattle.upload_service.specs.declared.ask.Ask.{Ask}
use Rattle.upload_service.specs.declared.answer.Answer.{Answer}
use Rattle.upload_keeper.specs.declared.message.Message.{Message}
use Rattle.upload_keeper.specs.declared.gone.Gone.{Gone}
use Rattle.upload_keeper.specs.declared.gone.Gone.TheVariants.{NotSent, NoAnswer}
use Rattle.upload_keeper.specs.Log.{Job}
use Rattle.upload_keeper.specs.Passes.{LineId}

-- on which lines a seat is and its number, the jobs that it sent, the answers that it heard, and whether a call
-- of it ended Gone; whether the line of jobs handed no job back so far, and whether an answer always came
pub record SeatState : Type 0 where
  pub jobs : LineId Message
  pub replies : LineId Answer
  pub seat : ℕ
  pub sent : List Job
  pub heard : List Answer
  pub gone : Bool
  pub sends : Bool
  pub takes : Bool

-- One call of `ask`. An answer comes only if no call ended Gone; it adds the job and the answer. NotSent gives the
-- same ask back and adds nothing: an earlier call ended Gone, or the line handed the job back. NoAnswer adds the job
-- alone: no answer came. After both the seat is gone.
abbrev pub Asks : SeatState → Ask → List ℕ → Result Answer Gone → SeatState → Type 0
Asks old ask secret (Ok answer) new =
    (old.gone ≡ false) × (new ≡ record old { sent = old.sent ++ (ask, secret) ∷ []; heard = old.heard ++ answer ∷ [] })
Asks old ask secret (Err (NotSent back)) new =
    (back ≡ ask) × (new ≡ record old { gone = true; sends = new.sends })
    × (((old.gone ≡ true) × (new.sends ≡ old.sends)) ⊎ (new.sends ≡ false))
Asks old ask secret (Err NoAnswer) new =
    (old.gone ≡ false) × (new ≡ record old { sent = old.sent ++ (ask, secret) ∷ []; gone = true; takes = false })

-- The same, if of what went wrong only that is told.
abbrev pub Hears : SeatState → Ask → List ℕ → Option Answer → SeatState → Type 0
Hears old ask secret (Some answer) new = Asks old ask secret (Ok answer) new
Hears old ask secret None new = (gone : Gone) × Asks old ask secret (Err gone) new

-- it sent and heard nothing yet
pub record IsFresh (seat : SeatState) : Type 0 where
  pub sent : seat.sent ≡ []
  pub heard : seat.heard ≡ []
  pub gone : seat.gone ≡ false
  pub sends : seat.sends ≡ true
  pub takes : seat.takes ≡ true

-- the same lines and the same number
pub record IsSameSeat (old new : SeatState) : Type 0 where
  pub jobs : new.jobs ≡ old.jobs
  pub replies : new.replies ≡ old.replies
  pub seat : new.seat ≡ old.seat
