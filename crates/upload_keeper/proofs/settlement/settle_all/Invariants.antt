use Rattle.std.specs.Prelude.{◌≡◌, ◌<◌, ℕ, true, ◌++◌, List, length, get_or}
use Rattle.std.specs.Vec.Iter.{into_iter_items}
use Rattle.crossbeam_channel.specs.Claims.{view}
use Rattle.crossbeam_channel.specs.Ends.{receives_on}
use Rattle.upload_keeper.specs.Passes.{line_of}
use Rattle.upload_keeper.specs.declared.reply.ReplyLine.{ReplyLine}
use Rattle.upload_keeper.specs.Seats.{SeatState}
use Rattle.upload_keeper.specs.Settled.{IsSettledSeat}
use Rattle.upload_keeper.proofs.settlement.settle_all.Given as goal

abbrev pub invariant-loop-end : goal.invariant-loop-end
invariant-loop-end l = record {
  done : List SeatState;
  ends : done ++ into_iter_items l.end-iterator ≡ l.fn.ends.items;
  done_lines : List ReplyLine;
  lines : done_lines ++ into_iter_items l.lines ≡ into_iter_items l.initial.lines;
  same : length done ≡ length done_lines;
  line : line_of (receives_on l.jobs.receiver) ≡ l.fn.served.jobs;
  takes : (view l.jobs.pass).takes ≡ true;
  taken : (view l.jobs.pass).taken ≡ (view l.initial.jobs.pass).taken;
  settled : (k : ℕ) (d : SeatState) → k < length done → IsSettledSeat k l.fn.served.log (get_or done k d);
}
