use Rattle.std.proofs.Common.{◌≡◌, ◌<◌, ◌∷◌, ap, ◌∙◌, sym, subst, length, get_or, arith}
use Rattle.std.specs.Vec.Iter.{into_iter_items}
use Rattle.upload_keeper.specs.Seats.{IsFresh}
use Rattle.upload_keeper.proofs.settlement.lines.Goals as goal

pub returns-clause-seats : goal.returns-clause-seats
returns-clause-seats c =
    let fresh = c.in_ok-keeper.ensures.seats in
    let left = c.in-Some-Some.left in
    let right = c.in-Some-Some.right in
    let rest = into_iter_items c.next-2.new.self in
    let first : into_iter_items c.into_iter-seats.result ≡ left ∷ into_iter_items c.next.new.self =
    (let a = c.in-Some-Some.ensures.cases.0 in let b = c.in-Some-Some.left-is in cc) in
    let second : into_iter_items c.next.new.self ≡ right ∷ rest = c.in-Some-Some.ensures'.cases.0 in
    let items : c.in_ok-keeper.seats.items ≡ left ∷ right ∷ rest =
    sym c.into_iter-seats.ensures.rest ∙ first ∙ ap (λ l. left ∷ l) second in (
      subst (λ l. IsFresh (get_or l 0 left)) items (fresh 0 left (subst (λ l. 0 < length l) (sym items) (omega arith))),
      subst (λ l. IsFresh (get_or l 1 right)) items
          (fresh 1 right (subst (λ l. 1 < length l) (sym items) (omega arith))),
    )
