use Rattle.std.proofs.Common.{◌≡◌, ℕ, [], ◌∷◌, ap, ◌∙◌, sym, refl, arith}
use Rattle.crossbeam_channel.specs.Claims.{view}
use Rattle.crossbeam_channel.specs.Ends.{receives_on}
use Rattle.std.specs.Vec.Iter.{into_iter_items}
use Rattle.upload_keeper.specs.Passes.{line_of}
use Rattle.upload_keeper.specs.Seats.{SeatState}
use Rattle.upload_keeper.specs.Served.{KeeperState}
use Rattle.upload_keeper.specs.Settled.{IsSettledSeat}
use Rattle.upload_keeper.proofs.Opening.{each_push}
use Rattle.upload_keeper.proofs.Settling.{next_seat, its_line, next_settled, all_settled}
use Rattle.upload_keeper.proofs.settlement.settle.Goals as goal

pub settle_seat-requires-clause-jobs : goal.settle_seat-requires-clause-jobs
settle_seat-requires-clause-jobs c =
    let seat =
    next_seat c.args.served (c.args.left ∷ c.args.right ∷ []) c.requires [] (c.args.right ∷ []) c.args.left refl in
    ap (λ (k : KeeperState). k.jobs) c.served.view_is ∙ sym seat.jobs

pub settle_seat-requires-clause-replies : goal.settle_seat-requires-clause-replies
settle_seat-requires-clause-replies c =
    let left = c.args.left in
    let right = c.args.right in
    let to_left = c.in-Some-Some.to_left in
    let to_right = c.in-Some-Some.to_right in
    let rest = into_iter_items c.next-2.new.self in
    let first : into_iter_items c.into_iter-lines.result ≡ to_left ∷ into_iter_items c.next.new.self =
    (let a = c.in-Some-Some.ensures.cases.0 in let b = c.in-Some-Some.to_left-is in cc) in
    let second : into_iter_items c.next.new.self ≡ to_right ∷ rest = c.in-Some-Some.ensures'.cases.0 in
    let lines : c.served.inside.books.lines.items ≡ to_left ∷ to_right ∷ rest =
    sym c.into_iter-lines.ensures.rest ∙ first ∙ ap (λ l. to_left ∷ l) second in
    its_line c.args.served c.served.inside.books.lines.items (ap (λ (k : KeeperState). k.replies) c.served.view_is) []
    (to_right ∷ rest) to_left (sym lines) 0 refl left
    (next_seat c.args.served (left ∷ right ∷ []) c.requires [] (right ∷ []) left refl)

pub settle_seat-requires-2-clause-jobs : goal.settle_seat-requires-2-clause-jobs
settle_seat-requires-2-clause-jobs c =
    let seat =
    next_seat c.args.served (c.args.left ∷ c.args.right ∷ []) c.requires (c.args.left ∷ []) [] c.args.right refl in
    ap (λ r. line_of (receives_on r)) c.settle_seat.ensures.line
    ∙ ap (λ (k : KeeperState). k.jobs) c.served.view_is ∙ sym seat.jobs

pub settle_seat-requires-2-clause-replies : goal.settle_seat-requires-2-clause-replies
settle_seat-requires-2-clause-replies c =
    let left = c.args.left in
    let right = c.args.right in
    let to_left = c.in-Some-Some.to_left in
    let to_right = c.in-Some-Some.to_right in
    let rest = into_iter_items c.next-2.new.self in
    let first : into_iter_items c.into_iter-lines.result ≡ to_left ∷ into_iter_items c.next.new.self =
    (let a = c.in-Some-Some.ensures.cases.0 in let b = c.in-Some-Some.to_left-is in cc) in
    let second : into_iter_items c.next.new.self ≡ to_right ∷ rest = c.in-Some-Some.ensures'.cases.0 in
    let lines : c.served.inside.books.lines.items ≡ to_left ∷ to_right ∷ rest =
    sym c.into_iter-lines.ensures.rest ∙ first ∙ ap (λ l. to_left ∷ l) second in
    its_line c.args.served c.served.inside.books.lines.items (ap (λ (k : KeeperState). k.replies) c.served.view_is)
    (to_left ∷ []) rest to_right (sym lines) 1 refl right
    (next_seat c.args.served (left ∷ right ∷ []) c.requires (left ∷ []) [] right refl)

pub returns-clause-settled : goal.returns-clause-settled
returns-clause-settled c =
    let left = c.args.left in
    let right = c.args.right in
    let to_left = c.in-Some-Some.to_left in
    let to_right = c.in-Some-Some.to_right in
    let rest = into_iter_items c.next-2.new.self in
    let first : into_iter_items c.into_iter-lines.result ≡ to_left ∷ into_iter_items c.next.new.self =
    (let a = c.in-Some-Some.ensures.cases.0 in let b = c.in-Some-Some.to_left-is in cc) in
    let second : into_iter_items c.next.new.self ≡ to_right ∷ rest = c.in-Some-Some.ensures'.cases.0 in
    let lines : c.served.inside.books.lines.items ≡ to_left ∷ to_right ∷ rest =
    sym c.into_iter-lines.ensures.rest ∙ first ∙ ap (λ l. to_left ∷ l) second in
    let takes = ap (λ v. v.takes) c.served.invariant.0.receives.is_taker in
    let log = ap (λ (k : KeeperState). k.log) c.served.view_is in
    let one : IsSettledSeat 0 c.args.served.log left =
    next_settled _ _ c.served.inside.books.lines.items c.served.invariant (view c.served.inside.books.jobs.pass) takes
    refl [] (to_right ∷ rest) to_left (sym lines) 0 refl left
    (next_seat c.args.served (left ∷ right ∷ []) c.requires [] (right ∷ []) left refl).number_is
    c.settle_seat.ensures.settled c.args.served.log log in
    let two : IsSettledSeat 1 c.args.served.log right =
    next_settled _ _ c.served.inside.books.lines.items c.served.invariant (view c.settle_seat.new.jobs.pass)
    (c.settle_seat.ensures.takes ∙ takes) c.settle_seat.ensures.taken (to_left ∷ []) rest to_right
    (sym lines) 1 refl right
    (next_seat c.args.served (left ∷ right ∷ []) c.requires (left ∷ []) [] right refl).number_is
    c.settle_seat-2.ensures.settled c.args.served.log log in
    let F = λ (k : ℕ) (s : SeatState). IsSettledSeat k c.args.served.log s in
    all_settled c.headline_holds.ensures _ _ c.served.inside.books.lines.items c.served.invariant.0 c.args.served _
    c.served.view_is (left ∷ right ∷ []) c.requires
    (each_push F (left ∷ []) right (each_push F [] left (λ k d below. absurd (omega (arith, below))) one) two)
