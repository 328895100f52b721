-- A restart has what was heard.
use Rattle.std.proofs.Common.{◌≡◌, ℕ, ◌≤◌, Bool, List, [], ◌∷◌, ◌++◌, rules}
use Rattle.std.proofs.Common.{map, sym, refl, ap, ◌∙◌, subst, arith}
use Rattle.std.specs.Prelude.{if◌then◌else◌}
use Rattle.std.proofs.lemmas.List.Elements.{filter-append}
use Rattle.upload_service.specs.declared.answer.Answer.{Answer}
use Rattle.upload_service.specs.Machine.{State}
use Rattle.upload_service.specs.Run.{Exchange, Run, NeverBefore}
use Rattle.upload_keeper.specs.Log.{Step, exchanges_of, last_moment, taken, HaveMemory}
use Rattle.upload_keeper.specs.Restarts.{asked_of, AreRemembered, HasAnswer, ToldIsKept}
use Rattle.upload_keeper.specs.Safety.{Asked, changes, changed, MayBeHeard}
use Rattle.upload_keeper.proofs.Orders.{runs_same}
use Rattle.upload_keeper.proofs.Changes.{by_first, leaves_out}

-- a run in two parts
record Parts (old : State) (xs ys : List Exchange) (new : State) : Type 0 where
  pub mid : State
  pub first : Run old xs mid
  pub second : Run mid ys new

parts : (old : State) (xs ys : List Exchange) (new : State) → Run old (xs ++ ys) new → Parts old xs ys new
parts old [] ys new r = record { mid = old; first = refl; second = r }
parts old (x ∷ xs) ys new r = search (rules, arith, parts r.0 xs ys new r.2)

remembered : (xs : List Exchange) → AreRemembered (changed xs)
remembered [] = tt
remembered (x ∷ xs) = search (rules, arith, by_first, remembered xs)

-- exchanges as the steps of one seat
abbrev at_0 : Exchange → Step
at_0 x = record { seat = 0; exchange = x }

back : (xs : List Exchange) → exchanges_of (map at_0 xs) ≡ xs
back [] = refl
back (x ∷ xs) = ap (λ l. x ∷ l) (back xs)

of_asks : (xs : List Exchange)
    → map taken (map at_0 xs) ≡ map (λ (a : Asked). (0, (a.ask, (a.secret, a.now)))) (map asked_of xs)
of_asks [] = refl
of_asks (x ∷ xs) = ap (λ l. taken (at_0 x) ∷ l) (of_asks xs)

as_steps : (xs : List Exchange) → AreRemembered xs → HaveMemory (map at_0 xs)
as_steps [] h = h
as_steps (x ∷ xs) h = (h.0, as_steps xs h.1)

-- the same requests of the same service are answered the same
again : (start one two : State) (xs ys : List Exchange) → Run start xs one → Run start ys two
    → map asked_of xs ≡ map asked_of ys → AreRemembered xs → AreRemembered ys → (xs ≡ ys) × (one ≡ two)
again start one two xs ys p q same m n =
    grind (
      arith,
      runs_same start start one two,
      back xs,
      back ys,
      of_asks xs,
      of_asks ys,
      as_steps xs m,
      as_steps ys n,
    )

rises : (moment : ℕ) (xs : List Exchange) → NeverBefore moment xs → moment ≤ last_moment moment xs
rises moment [] n = omega arith
rises moment (x ∷ xs) n = omega (arith, n.0, rises x.now xs n.1)

-- no exchange is after the last one
by_then : (moment : ℕ) (front : List Exchange) (x : Exchange) (rest : List Exchange)
    → NeverBefore moment (front ++ x ∷ rest) → x.now ≤ last_moment moment (front ++ x ∷ rest)
by_then moment [] x rest n = rises x.now rest n.1
by_then moment (y ∷ front) x rest n = by_then y.now front x rest n.1

module _ (start : State) (kept : List Exchange) (upto : ℕ) (answer : Answer) (h : MayBeHeard start kept upto answer)
  where
    -- by what is kept alone
    has_answer : HasAnswer start kept h.service upto answer
    has_answer =
        let p = parts start h.front (h.x ∷ h.rest) h.service h.served.run in
        record {
          before = changed h.front;
          after = changed (h.x ∷ h.rest);
          all = sym h.changes_are_kept ∙ filter-append (λ (y : Exchange). changes y.answer) h.front (h.x ∷ h.rest);
          mid = p.mid;
          run = leaves_out start h.front p.mid p.first;
          on = leaves_out p.mid (h.x ∷ h.rest) h.service p.second;
          x = h.x;
          left = p.second.0;
          turn = p.second.1;
          answer_is = h.answer_is;
          by = (let a = by_then 0 h.front h.x h.rest h.served.moments in let b = h.promised in omega arith);
          change =
              λ some. (
                changed h.rest,
                ap (λ (b : Bool). if b then h.x ∷ changed h.rest else changed h.rest) (ap changes h.answer_is ∙ some),
              );
        }

    restart_has : (served : List Exchange) (service : State) → Run start served service
        → map asked_of served ≡ map asked_of kept → AreRemembered served
        → (served ≡ kept) × HasAnswer start served service upto answer
    unfolding has_answer
    restart_has served service r same m =
        let kept_run =
        subst (λ l. Run start l h.service) h.changes_are_kept
        (leaves_out start (h.front ++ h.x ∷ h.rest) h.service h.served.run) in
        let kept_m = subst AreRemembered h.changes_are_kept (remembered (h.front ++ h.x ∷ h.rest)) in
        let e = again start service h.service served kept r kept_run same m kept_m in (
          e.0,
          subst (λ (y : List Exchange × State). HasAnswer start y.0 y.1 upto answer) (λ i. (sym e.0 i, sym e.1 i))
              has_answer,
        )

pub told_is_kept : ToldIsKept
told_is_kept = restart_has
