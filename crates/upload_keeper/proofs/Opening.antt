-- What the seats have in common with the lines, while they are made.
use Rattle.std.proofs.Common.{◌≡◌, ℕ, zero, suc, ◌<◌, List, [], ◌∷◌, ◌++◌, length, get_or, length-append, append_assoc}
use Rattle.std.proofs.Common.{append-nil, map, sym, refl, ap, ◌∙◌, arith, rules}
use Rattle.std.proofs.lemmas.List.{nil_from_length}
use Rattle.upload_service.specs.declared.answer.Answer.{Answer}
use Rattle.upload_keeper.specs.declared.message.Message.{Message}
use Rattle.upload_keeper.specs.Passes.{LineId}
use Rattle.upload_keeper.specs.Seats.{SeatState}
use Rattle.upload_keeper.specs.Served.{KeeperState, AreOfOneCall}

-- a seat is on these lines, with this number
pub record IsSeatOn (jobs : LineId Message) (replies : List (LineId Answer)) (number : ℕ)
    (seat : SeatState) : Type 0 where
  pub jobs_is : seat.jobs ≡ jobs
  pub replies_is : (d : LineId Answer) → seat.replies ≡ get_or replies number d
  pub number_is : seat.seat ≡ number

abbrev pub AreSeatsOn : LineId Message → List (LineId Answer) → List SeatState → Type 0
AreSeatsOn jobs replies seats = (k : ℕ) (d : SeatState) → k < length seats → IsSeatOn jobs replies k (get_or seats k d)

get_or-front : {A : Type 0} (xs ys : List A) (k : ℕ) (d : A) → k < length xs → get_or (xs ++ ys) k d ≡ get_or xs k d
get_or-front [] ys k d below = absurd (omega arith)
get_or-front (x ∷ xs) ys zero d below = refl
get_or-front (x ∷ xs) ys (suc k) d below = get_or-front xs ys k d (omega arith)

get_or-last : {A : Type 0} (xs : List A) (y d : A) → get_or (xs ++ y ∷ []) (length xs) d ≡ y
get_or-last [] y d = refl
get_or-last (x ∷ xs) y d = get_or-last xs y d

pub each_push : {A : Type 0} (F : ℕ → A → Type 0) (xs : List A) (x : A)
    → ((k : ℕ) (d : A) → k < length xs → F k (get_or xs k d)) → F (length xs) x → (k : ℕ) (d : A)
    → k < length (xs ++ x ∷ []) → F k (get_or (xs ++ x ∷ []) k d)
each_push F [] x h p zero d below = p
each_push F [] x h p (suc k) d below = absurd (omega arith)
each_push F (y ∷ ys) x h p zero d below = h 0 d (omega arith)
each_push F (y ∷ ys) x h p (suc k) d below =
    each_push (λ n. F (suc n)) ys x (λ j e b. h (suc j) e (omega arith)) p k d (omega arith)

pub one_seat_more : (jobs : LineId Message) (replies : List (LineId Answer)) (line : LineId Answer)
    (seats : List SeatState) (seat : SeatState) → length seats ≡ length replies → AreSeatsOn jobs replies seats
    → seat.jobs ≡ jobs → seat.replies ≡ line → seat.seat ≡ length seats
    → AreSeatsOn jobs (replies ++ line ∷ []) (seats ++ seat ∷ [])
one_seat_more jobs replies line seats seat same each p q r =
    each_push (IsSeatOn jobs (replies ++ line ∷ [])) seats seat
    (λ k d below. let s = each k d below in record {
      jobs_is = s.jobs_is;
      replies_is = λ e. s.replies_is e ∙ sym (get_or-front replies (line ∷ []) k e (omega arith));
      number_is = s.number_is;
    })
    (record {
      jobs_is = p;
      replies_is = λ e. q ∙ sym (get_or-last replies line e) ∙ ap (λ n. get_or (replies ++ line ∷ []) n e) (sym same);
      number_is = r;
    })

pub of_one_call : (keeper : KeeperState) (jobs : LineId Message) (replies : List (LineId Answer))
    (seats : List SeatState) → keeper.jobs ≡ jobs → keeper.replies ≡ replies → length seats ≡ length replies
    → AreSeatsOn jobs replies seats → AreOfOneCall keeper seats
of_one_call keeper jobs replies seats p q n each = search (rules, arith)

-- ---- settling one seat after the other

-- a middle of a list
mid : {A : Type 0} (xs : List A) (y : A) (ys : List A) (d : A) → get_or (xs ++ y ∷ ys) (length xs) d ≡ y
mid [] y ys d = refl
mid (x ∷ xs) y ys d = mid xs y ys d

pub get_or-mid : {A : Type 0} (xs : List A) (y : A) (ys all : List A) (d : A) → xs ++ y ∷ ys ≡ all
    → get_or all (length xs) d ≡ y
get_or-mid xs y ys all d e = ap (λ l. get_or l (length xs) d) (sym e) ∙ mid xs y ys d

pub mid_below : {A : Type 0} (xs : List A) (y : A) (ys all : List A) → xs ++ y ∷ ys ≡ all → length xs < length all
mid_below xs y ys all e = let n = length-append xs (y ∷ ys) in let m = ap length e in omega arith

-- one more of what waits is done
pub step_on : {A : Type 0} (done rest rest' all : List A) (x : A) → done ++ rest ≡ all → rest ≡ x ∷ rest'
    → (done ++ x ∷ []) ++ rest' ≡ all
step_on done rest rest' all x e f = append_assoc done (x ∷ []) rest' ∙ ap (λ l. done ++ l) (sym f) ∙ e

-- all of it is done
pub all_done : {A : Type 0} (done rest all : List A) → done ++ rest ≡ all → length rest ≡ 0 → done ≡ all
all_done done rest all e none = sym (append-nil done) ∙ ap (λ l. done ++ l) (sym (nil_from_length rest none)) ∙ e

pub get_or-map : {A B : Type 0} (f : A → B) (xs : List A) (k : ℕ) (a : A) (b : B) → k < length xs
    → get_or (map f xs) k b ≡ f (get_or xs k a)
get_or-map f [] k a b below = absurd (omega arith)
get_or-map f (x ∷ xs) zero a b below = refl
get_or-map f (x ∷ xs) (suc k) a b below = get_or-map f xs k a b (omega arith)
