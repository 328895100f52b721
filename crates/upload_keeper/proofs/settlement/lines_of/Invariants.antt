use Rattle.std.specs.Prelude.{◌≡◌, [], All, map, length}
use Rattle.crossbeam_channel.specs.Claims.{view}
use Rattle.crossbeam_channel.specs.Ends.{sends_on, receives_on}
use Rattle.upload_keeper.specs.Passes.{line_of, taker_view}
use Rattle.upload_keeper.specs.Replies.{replies_on, BeginsReplies}
use Rattle.upload_keeper.specs.Seats.{IsFresh}
use Rattle.upload_keeper.proofs.Opening.{AreSeatsOn}
use Rattle.upload_keeper.proofs.settlement.lines_of.Given as goal

abbrev pub invariant-loop-seat : goal.invariant-loop-seat
invariant-loop-seat l = record {
  line : receives_on l.jobs.receiver ≡ sends_on l.sender;
  taker : view l.jobs.pass ≡ taker_view l.seat [];
  count : length l.seats.items ≡ l.seat;
  lines_count : length l.lines.items ≡ l.seat;
  begins : All BeginsReplies l.lines.items;
  fresh : All IsFresh l.seats.items;
  on : AreSeatsOn (line_of (sends_on l.sender)) (map replies_on l.lines.items) l.seats.items;
}
