use Rattle.std.proofs.Common.{arith, rules}
use Rattle.std.proofs.Common.{◌≡◌, ◌<◌, ◌+◌, ℕ, List, [], ◌∷◌, ◌++◌, ap, ◌∙◌, sym, subst, length, length-append, get_or}
use Rattle.crossbeam_channel.specs.Claims.{view}
use Rattle.crossbeam_channel.specs.Ends.{receives_on}
use Rattle.std.specs.Vec.Iter.{into_iter_items}
use Rattle.upload_keeper.specs.Passes.{line_of}
use Rattle.upload_keeper.specs.Seats.{SeatState}
use Rattle.upload_keeper.specs.Served.{KeeperState}
use Rattle.upload_keeper.specs.Settled.{IsSettledSeat}
use Rattle.upload_keeper.proofs.Opening.{all_done, each_push, step_on}
use Rattle.upload_keeper.proofs.Settling.{next_seat, its_line, next_settled, all_settled}
use Rattle.upload_keeper.proofs.settlement.settle_all.Goals as goal

pub settle_seat-requires-clause-jobs : goal.settle_seat-requires-clause-jobs
settle_seat-requires-clause-jobs c = search (rules, arith, next_seat)

pub settle_seat-requires-clause-replies : goal.settle_seat-requires-clause-replies
settle_seat-requires-clause-replies c =
    let was = c.loop-end.invariant in
    let seat =
    next_seat c.args.served c.args.ends.items c.requires was.done (into_iter_items c.next.new.self) c.in-Some.end
    (ap (λ l. was.done ++ l) (sym c.in-Some.ensures.steps.0) ∙ was.ends) in
    its_line c.args.served c.served.inside.books.lines.items (ap (λ (k : KeeperState). k.replies) c.served.view_is)
    was.done_lines (into_iter_items c.next-in-loop-end.new.self) c.in-Some-next.line
    (ap (λ l. was.done_lines ++ l) (sym c.in-Some-next.ensures.cases.0) ∙ was.lines ∙ c.into_iter-lines.ensures.rest)
    (length was.done) was.same c.in-Some.end seat

pub loop-end-preserved : goal.loop-end-preserved
loop-end-preserved c =
    let was = c.loop-end.invariant in
    let rest = into_iter_items c.next.new.self in
    let lines_left = into_iter_items c.next-in-loop-end.new.self in
    let seat =
    next_seat c.args.served c.args.ends.items c.requires was.done rest c.in-Some.end
    (ap (λ l. was.done ++ l) (sym c.in-Some.ensures.steps.0) ∙ was.ends) in
    let n = length-append was.done (c.in-Some.end ∷ []) in
    let m = length-append was.done_lines (c.in-Some-next.line ∷ []) in
    record {
      done = was.done ++ c.in-Some.end ∷ [];
      ends =
          step_on was.done (into_iter_items c.loop-end.end-iterator) rest c.args.ends.items c.in-Some.end was.ends
          c.in-Some.ensures.steps.0;
      done_lines = was.done_lines ++ c.in-Some-next.line ∷ [];
      lines =
          step_on was.done_lines (into_iter_items c.loop-end.lines) lines_left
          (into_iter_items c.into_iter-lines.result) c.in-Some-next.line was.lines c.in-Some-next.ensures.cases.0;
      same = n ∙ ap (λ k. k + 1) was.same ∙ sym m;
      line = ap (λ r. line_of (receives_on r)) c.settle_seat.ensures.line ∙ was.line;
      takes = c.settle_seat.ensures.takes ∙ was.takes;
      taken = c.settle_seat.ensures.taken ∙ was.taken;
      settled = each_push (λ k (e : SeatState). IsSettledSeat k c.args.served.log e) was.done c.in-Some.end was.settled
          (next_settled _ _ c.served.inside.books.lines.items c.served.invariant (view c.loop-end.jobs.pass) was.takes
          was.taken was.done_lines lines_left c.in-Some-next.line
          (ap (λ l. was.done_lines ++ l) (sym c.in-Some-next.ensures.cases.0) ∙ was.lines
          ∙ c.into_iter-lines.ensures.rest)
          (length was.done) was.same c.in-Some.end seat.number_is c.settle_seat.ensures.settled c.args.served.log
          (ap (λ (k : KeeperState). k.log) c.served.view_is));
    }

pub returns-clause-settled : goal.returns-clause-settled
returns-clause-settled c =
    let was = c.loop-end.invariant in
    let all : was.done ≡ c.args.ends.items =
    all_done was.done (into_iter_items c.loop-end.end-iterator) c.args.ends.items was.ends
    (sym c.loop-end.end-iterator.rest.ok.0 ∙ c.in-None.ensures.steps.0) in
    all_settled c.headline_holds.ensures _ _ c.served.inside.books.lines.items c.served.invariant.0 c.args.served _
    c.served.view_is c.args.ends.items c.requires
    (subst (λ (l : List SeatState). (k : ℕ) (d : SeatState) → k < length l
    → IsSettledSeat k c.args.served.log (get_or l k d)) all was.settled)
