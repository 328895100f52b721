-- What the settlement of one seat shows: beside a keeper that took every seat's finish, its end is settled.
use Rattle.std.specs.Prelude.{◌≡◌, ◌<◌, true, List, length, get_or}
use Rattle.upload_keeper.specs.declared.line.LineView.{LineView}
use Rattle.upload_keeper.specs.declared.message.Message.{Message}
use Rattle.upload_keeper.specs.declared.reply.ReplyLine.{ReplyLine}
use Rattle.upload_keeper.specs.Kept.{Ledger, IsKeeping, AreDone}
use Rattle.upload_keeper.specs.Seats.{SeatState}
use Rattle.upload_keeper.specs.Settled.{IsSettledSeat}

-- the keeper's pass of the jobs took what this one did, and this is its line to the seat
abbrev pub Settles : LineView Message → ReplyLine → SeatState → Type 0
Settles jobs line end =
    (ledger : Ledger) (kept : LineView Message) (lines : List ReplyLine) → IsKeeping ledger kept lines → AreDone lines
    → jobs.takes ≡ true → jobs.taken ≡ kept.taken
    → end.seat < length lines → line ≡ get_or lines end.seat line
    → IsSettledSeat end.seat ledger.steps end
