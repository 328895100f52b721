use Rattle.std.proofs.Common.{◌≡◌, ℕ, ◌+◌, ◌<◌, false, get_or, List, refl, sym, ap, ◌∙◌, subst, [], ◌∷◌, ◌++◌, length}
use Rattle.std.proofs.Common.{length-append, map, None}
use Rattle.std.proofs.lemmas.List.{map-append, length-map}
use Rattle.crossbeam_channel.specs.Ends.{sends_on, receives_on}
use Rattle.upload_keeper.specs.Passes.{line_of}
use Rattle.upload_keeper.specs.Replies.{replies_on, BeginsReplies}
use Rattle.upload_keeper.specs.declared.reply.ReplyLine.{ReplyLine}
use Rattle.upload_keeper.specs.Seats.{SeatState, IsFresh}
use Rattle.upload_keeper.specs.Served.{KeeperState}
use Rattle.upload_keeper.proofs.Opening.{AreSeatsOn, each_push, one_seat_more, of_one_call}
use Rattle.upload_keeper.proofs.settlement.lines_of.Goals as goal

pub loop-seat-preserved : goal.loop-seat-preserved
loop-seat-preserved c =
    let was = c.loop-seat.invariant in
    let seats = c.in_ok-push.ensures.items in
    let lines = c.in_ok-push-2.ensures.items in
    let n = length-append c.loop-seat.seats.items (c.new.result ∷ []) in
    let line : ReplyLine = record {
      replies = c.in_ok-replies.replies;
      ends = tt;
      is_done = false;
      held = None;
      is_crowded = false;
      is_expected = false;
    } in
    let m = length-append c.loop-seat.lines.items (line ∷ []) in
    let here = c.new.ensures in
    record {
      line = ap (λ r. receives_on r) c.in_ok-own.ensures.same_line ∙ was.line;
      taker = c.in_ok-own.ensures.taker;
      count = ap length seats ∙ n ∙ ap (λ k. k + 1) was.count;
      lines_count = ap length lines ∙ m ∙ ap (λ k. k + 1) was.lines_count;
      begins =
          subst (λ xs. (k : ℕ) (d : ReplyLine) → k < length xs → BeginsReplies (get_or xs k d)) (sym lines)
          (each_push (λ _ x. BeginsReplies x) _ _ was.begins (c.in_ok-replies.ensures.views.0, refl, refl, refl));
      fresh = subst (λ xs. (k : ℕ) (d : SeatState) → k < length xs → IsFresh (get_or xs k d)) (sym seats)
          (each_push (λ _ x. IsFresh x) _ _ was.fresh
          (record {
            sent = ap (λ s. s.sent) here;
            heard = ap (λ s. s.heard) here;
            gone = ap (λ s. s.gone) here;
            sends = ap (λ s. s.sends) here ∙ c.in_ok-own.ensures.opened;
            takes = ap (λ s. s.takes) here ∙ c.in_ok-replies.ensures.opened.1;
          }));
      on =
          subst (λ (y : List SeatState × List ReplyLine). AreSeatsOn (line_of (sends_on c.in_ok-sender.sender))
          (map replies_on y.1) y.0) (λ i. (sym seats i, sym lines i))
          (subst (λ r. AreSeatsOn (line_of (sends_on c.in_ok-sender.sender)) r
          (c.loop-seat.seats.items ++ c.new.result ∷ [])) (sym (map-append replies_on c.loop-seat.lines.items
          (line ∷ [])))
          (one_seat_more (line_of (sends_on c.in_ok-sender.sender)) (map replies_on c.loop-seat.lines.items)
          (line_of (sends_on c.in_ok-replies.replies.sender)) c.loop-seat.seats.items c.new.result
          (was.count ∙ sym was.lines_count ∙ sym (length-map c.loop-seat.lines.items replies_on)) was.on
          (ap (λ s. s.jobs) here ∙ c.in_ok-own.ensures.line) (ap (λ s. s.replies) here ∙ c.in_ok-replies.ensures.line)
          (ap (λ s. s.seat) here ∙ sym was.count)));
    }

pub returns-clause-of_one_call : goal.returns-clause-of_one_call
returns-clause-of_one_call c =
    let was = c.loop-seat.invariant in
    let jobs : line_of (receives_on c.loop-seat.jobs.receiver) ≡ line_of (sends_on c.in_ok-sender.sender) =
    ap (λ r. line_of r) was.line in
    of_one_call _ _ _ _ (ap (λ (k : KeeperState). k.jobs) c.new-2.ensures ∙ jobs)
    (ap (λ (k : KeeperState). k.replies) c.new-2.ensures)
    (was.count ∙ sym was.lines_count ∙ sym (length-map c.loop-seat.lines.items replies_on)) was.on
