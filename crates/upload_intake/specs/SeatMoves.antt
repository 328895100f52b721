-- What one request of a desk over a seat does.
use Rattle.std.specs.Prelude.{ℕ, List, Option, Some, None, Ok, Err}
use Rattle.upload_service.specs.declared.ask.Ask.{Ask}
use Rattle.upload_service.specs.declared.answer.Answer.{Answer}
use Rattle.upload_keeper.specs.declared.gone.Gone.{Gone}
use Rattle.upload_keeper.specs.Seats.{SeatState, Asks}

-- one call of the seat with a drawn secret, over a seat with its secrets; the answer is none if the call ended Gone
abbrev pub AsksWithDrawn : {S : Type 0} → (S → List ℕ → S → Type 0) → SeatState × S → Ask → Option Answer
    → SeatState × S → Type 0
AsksWithDrawn draws old ask (Some answer) new =
    (secret : List ℕ) × draws old.1 secret new.1 × Asks old.0 ask secret (Ok answer) new.0
AsksWithDrawn draws old ask None new =
    (secret : List ℕ) × (gone : Gone) × draws old.1 secret new.1 × Asks old.0 ask secret (Err gone) new.0
