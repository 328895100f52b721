-- The ends of two seats are of one call with the keeper that ran, as the seats were.
use Rattle.std.proofs.Common.{◌≡◌, ℕ, zero, suc, ◌<◌, [], ◌∷◌, arith, length, get_or, sym, ap, ◌∙◌}
use Rattle.upload_keeper.specs.Seats.{SeatState, IsSameSeat}
use Rattle.upload_keeper.specs.Served.{KeeperState, IsSameKeeper, IsSeatOf, AreOfOneCall}

module _ (keeper behind : KeeperState) (left right left_end right_end : SeatState)
    (one : AreOfOneCall keeper (left ∷ right ∷ [])) (same : IsSameKeeper keeper behind)
    (l : IsSameSeat left left_end) (r : IsSameSeat right right_end) where
  seat_of : (k : ℕ) (seat end : SeatState) → IsSeatOf keeper k seat → IsSameSeat seat end → IsSeatOf behind k end
  seat_of k seat end its kept = record {
    jobs = kept.jobs ∙ its.jobs ∙ sym same.jobs;
    replies = λ d. kept.replies ∙ its.replies d ∙ ap (λ lines. get_or lines k d) (sym same.replies);
    number_is = kept.seat ∙ its.number_is;
  }

  each_of : (k : ℕ) (d : SeatState) → k < 2 → IsSeatOf behind k (get_or (left_end ∷ right_end ∷ []) k d)
  each_of zero d below = seat_of 0 left left_end (one.each 0 left (omega arith)) l
  each_of (suc zero) d below = seat_of 1 right right_end (one.each 1 right (omega arith)) r
  each_of (suc (suc k)) d below = absurd (omega arith)

  pub both_of_one_call : AreOfOneCall behind (left_end ∷ right_end ∷ [])
  both_of_one_call = record { count = one.count ∙ ap length (sym same.replies); each = each_of }
