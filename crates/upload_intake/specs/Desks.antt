-- What a desk over a seat holds.
use Rattle.upload_keeper.specs.Seats.{SeatState}
use Rattle.upload_intake.specs.declared.desk.SeatDesk.{SeatDesk}

abbrev pub seat_of : {R S : Type 0} → SeatDesk R S → SeatState
seat_of desk = desk.seat

abbrev pub secrets_of : {R S : Type 0} → SeatDesk R S → S
secrets_of desk = desk.secrets
