-- What is kept, from one step to the next.
use Rattle.std.proofs.Common.{◌≡◌, ℕ, ◌≤◌, Bool, true, false, true≢false, List, [], ◌∷◌, ◌++◌, filter, map, rules}
use Rattle.std.proofs.Common.{sym, refl, ap, ◌∙◌, subst, arith, append-nil, append_assoc, ⊎_elim}
use Rattle.std.specs.Prelude.{if◌then◌else◌, ◌==◌, Option, Some, None, IfSome}
use Rattle.std.proofs.lemmas.List.{map-append}
use Rattle.std.proofs.lemmas.List.Elements.{filter-append}
use Rattle.upload_service.specs.declared.answer.Answer.{Answer}
use Rattle.upload_service.specs.Machine.{State, Turn, IsLawful}
use Rattle.upload_service.specs.Run.{Exchange, Run, NeverBefore, NeverFall}
use Rattle.upload_service.specs.Headline.{HeadlineHolds}
use Rattle.upload_keeper.specs.Log.{Step, exchanges_of, last_moment, answers_to}
use Rattle.upload_keeper.specs.Kept.{Outlet, Replied, held_in}
use Rattle.upload_keeper.proofs.LineMoves.{is_either}
use Rattle.upload_keeper.specs.Served.{KeeperState, IsServed}
use Rattle.upload_keeper.specs.Safety.{changes, changed, IsSafe, Leads, LeadsTo, Follows, MayBeHeard, KeptSince, now_of}
use Rattle.upload_keeper.proofs.Changes.{turn_still, leaves_out, changed_twice, last_moment-from, moments_of_changes}
use Rattle.upload_keeper.proofs.KeeperMoves.{owed_alone, run_more, never_before_more}
use Rattle.upload_keeper.proofs.KeeperMoves.{last_moment-more, exchanges_of-more}

module _ (start : State) (kept : List Exchange) (now : ℕ) (service : State) (l : Leads start kept now service)
    (x : Exchange) (later : now ≤ x.now) (service' : State)
    (turn : Turn service x.ask x.secret x.now x.answer service') where
  with_it : changes x.answer ≡ true → Leads start (kept ++ x ∷ []) x.now service'
  with_it it = search (rules, arith, run_more, never_before_more, last_moment-more, filter-append)

  leads_if : (b : Bool) → changes x.answer ≡ b → Leads start (kept ++ changed (x ∷ [])) x.now service'
  leads_if true e = subst (λ c. Leads start (kept ++ (if c then x ∷ [] else [])) x.now service') (sym e) (with_it e)
  leads_if false e = search (rules, arith, append-nil, turn_still)

  pub leads_more : (since : ℕ) (start' : State) → start' ≡ start → (kept' : List Exchange)
      → kept' ≡ kept ++ changed (x ∷ [])
      → (log : List Step) (s : Step) → s.exchange ≡ x → (log' : List Step) → log' ≡ log ++ s ∷ []
      → Leads start' kept' (last_moment since (exchanges_of log')) service'
  leads_more since start' begun kept' grown log s same log' more =
      search (rules, arith, exchanges_of-more, last_moment-more, leads_if)

pub kept_none : (keeper new : KeeperState) (before after : List Exchange) → new.log ≡ keeper.log → after ≡ before
    → KeptSince keeper before new after
kept_none keeper new before after same still = search (rules, arith, append-nil)

-- what is kept may be told in another way
pub kept_by : (old : KeeperState) (before : List Exchange) (new : KeeperState) (after after' : List Exchange)
    → KeptSince old before new after → after' ≡ after → KeptSince old before new after'
kept_by old before new after after' k same = record { more = k.more; log = k.log; kept = same ∙ k.kept }

pub kept_twice : (a b c : KeeperState) (p q r : List Exchange) → KeptSince a p b q → KeptSince b q c r
    → KeptSince a p c r
kept_twice a b c p q r f g = search (rules, arith, append_assoc, filter-append, map-append)

-- what a keeper keeps begins with all that is kept when its log is empty
pub follows_at_first : (start : State) (kept : List Exchange) (upto : ℕ) (keeper : KeeperState)
    → LeadsTo start kept keeper → now_of keeper ≤ upto → keeper.log ≡ [] → Follows start kept upto keeper
follows_at_first start kept upto keeper leads by none =
    let all : kept ≡ kept ++ exchanges_of keeper.log =
    sym (append-nil kept) ∙ ap (λ (l : List Step). kept ++ exchanges_of l) (sym none) in
    record {
      leads = leads;
      by = by;
      earlier = kept;
      run = subst (λ xs. Run start xs keeper.service) all leads.run;
      moments = subst (NeverBefore 0) all leads.moments;
      last = subst (λ xs. last_moment 0 xs ≤ last_moment keeper.since (exchanges_of keeper.log)) all leads.last;
      whole = ap changed (sym all) ∙ leads.only;
    }

-- nothing but what changed something in a keeper's log
pub follows_alone : (keeper : KeeperState) (upto : ℕ) → IsLawful keeper.start
    → Run keeper.start (exchanges_of keeper.log) keeper.service → NeverFall (exchanges_of keeper.log)
    → now_of keeper ≤ upto → Follows keeper.start (changed (exchanges_of keeper.log)) upto keeper
follows_alone keeper upto lawful run moments by =
    search (rules, arith, moments_of_changes, last_moment-from, leaves_out, changed_twice)

-- nothing more is served, and nothing more is kept
pub follows_still : (start start' : State) (kept kept' : List Exchange) (upto upto' : ℕ) (old new : KeeperState)
    → Follows start kept upto old → start' ≡ start → kept' ≡ kept → upto' ≡ upto → new.since ≡ old.since
    → new.service ≡ old.service → new.log ≡ old.log → Follows start' kept' upto' new
follows_still start start' kept kept' upto upto' old new f begun same by since service log = search (rules, arith)

-- one exchange more, which is kept later
pub follows_more : (start start' : State) (kept kept' : List Exchange) (upto upto' : ℕ) (old new : KeeperState)
    (now : ℕ)
    → Follows start kept upto old → start' ≡ start → new.since ≡ old.since
    → last_moment old.since (exchanges_of old.log) ≡ now
    → (s : Step) → now ≤ s.exchange.now
    → Turn old.service s.exchange.ask s.exchange.secret s.exchange.now s.exchange.answer new.service
    → kept' ≡ kept ++ changed (s.exchange ∷ []) → new.log ≡ old.log ++ s ∷ [] → s.exchange.now ≤ upto'
    → Follows start' kept' upto' new
follows_more start start' kept kept' upto upto' old new now f begun since is s later turn grown more by =
    let x = s.exchange in
    let front = f.earlier ++ exchanges_of old.log in
    let behind_all : front ++ x ∷ [] ≡ f.earlier ++ exchanges_of new.log =
    append_assoc f.earlier (exchanges_of old.log) (x ∷ [])
    ∙ ap (λ l. f.earlier ++ l) (sym (exchanges_of-more old.log s) ∙ ap exchanges_of (sym more)) in
    let after : last_moment new.since (exchanges_of new.log) ≡ x.now =
    ap (λ l. last_moment new.since (exchanges_of l)) more ∙ ap (last_moment new.since) (exchanges_of-more old.log s)
    ∙ last_moment-more new.since (exchanges_of old.log) x in
    let before : last_moment 0 front ≤ x.now = (let a = f.last in omega arith) in
    let at_end : last_moment 0 (front ++ x ∷ []) ≤ last_moment new.since (exchanges_of new.log) =
    (let a = last_moment-more 0 front x in omega arith) in
    record {
      leads =
          leads_more start kept (last_moment old.since (exchanges_of old.log)) old.service f.leads x
          (subst (λ n. n ≤ x.now) (sym is) later) new.service turn new.since start' begun kept' grown old.log s refl
          new.log more;
      by = omega arith;
      earlier = f.earlier;
      run =
          subst (λ (y : State × List Exchange). Run y.0 y.1 new.service) (λ i. (sym begun i, behind_all i))
          (run_more front x start old.service new.service f.run turn);
      moments = subst (NeverBefore 0) behind_all (never_before_more 0 front x f.moments before);
      last = subst (λ xs. last_moment 0 xs ≤ last_moment new.since (exchanges_of new.log)) behind_all at_end;
      whole =
          ap changed (sym behind_all) ∙ filter-append (λ (y : Exchange). changes y.answer) front (x ∷ [])
          ∙ ap (λ l. l ++ changed (x ∷ [])) f.whole ∙ sym grown;
    }

-- also up to a later moment
pub follows_by : (start start' : State) (kept kept' : List Exchange) (upto upto' : ℕ) (keeper : KeeperState)
    → Follows start kept upto keeper → start' ≡ start → kept' ≡ kept → upto ≤ upto' → Follows start' kept' upto' keeper
follows_by start start' kept kept' upto upto' keeper f begun same later = search (rules, arith)

-- what follows is safe to keep
pub follows_safely : HeadlineHolds → (start : State) (kept : List Exchange) (upto : ℕ) (keeper : KeeperState)
    → Follows start kept upto keeper → IsSafe start kept
follows_safely law start kept upto keeper f = (
  keeper.service,
  record {
    run = f.leads.run;
    moments = f.leads.moments;
    headline = law start kept keeper.service f.leads.lawful f.leads.moments f.leads.run;
  },
)

-- an answer is of an exchange among these
pub record Stands (answer : Answer) (xs : List Exchange) : Type 0 where
  pub front : List Exchange
  pub x : Exchange
  pub rest : List Exchange
  pub split : xs ≡ front ++ x ∷ rest
  pub answer_is : x.answer ≡ answer

behind : (answer : Answer) (y : Exchange) (xs : List Exchange) → Stands answer xs → Stands answer (y ∷ xs)
behind answer y xs h = record {
  front = y ∷ h.front;
  x = h.x;
  rest = h.rest;
  split = ap (λ l. y ∷ l) h.split;
  answer_is = h.answer_is;
}

here : (answer : Answer) (y : Exchange) (xs : List Exchange) → y.answer ≡ answer → Stands answer (y ∷ xs)
here answer y xs is = record { front = []; x = y; rest = xs; split = refl; answer_is = is }

first_of : Answer → List Answer → Answer
first_of d [] = d
first_of d (x ∷ xs) = x

rest_of : List Answer → List Answer
rest_of [] = []
rest_of (x ∷ xs) = xs

is_some_list : List Answer → Bool
is_some_list [] = false
is_some_list (x ∷ xs) = true

own : (seat : ℕ) (s : Step) (steps : List Step) (front rest : List Answer) (answer : Answer)
    → s.exchange.answer ∷ answers_to seat steps ≡ front ++ answer ∷ rest
    → ((front' : List Answer) → answers_to seat steps ≡ front' ++ answer ∷ rest
    → Stands answer (exchanges_of steps)) → Stands answer (exchanges_of (s ∷ steps))
unfolding first_of rest_of
own seat s steps [] rest answer e ih = here answer s.exchange (exchanges_of steps) (ap (first_of answer) e)
own seat s steps (a ∷ front) rest answer e ih = search (rules, arith, behind)

none_there : (front rest : List Answer) (answer : Answer) → [] ≡ front ++ answer ∷ rest → ⊥
unfolding is_some_list
none_there [] rest answer e = true≢false (sym (ap is_some_list e))
none_there (a ∷ front) rest answer e = true≢false (sym (ap is_some_list e))

pub answer_stands : (seat : ℕ) (steps : List Step) (front rest : List Answer) (answer : Answer)
    → answers_to seat steps ≡ front ++ answer ∷ rest → Stands answer (exchanges_of steps)
answer_stands seat [] front rest answer e = absurd (none_there front rest answer e)
answer_stands seat (s ∷ steps) front rest answer e =
    let others = filter (λ (y : Step). seat == y.seat) steps in
    let P : Bool → Type 0 = λ c.
    map (λ (y : Step). y.exchange.answer) (if c then s ∷ others else others) ≡ front ++ answer ∷ rest in
    ⊎_elim
    (λ (ours : (seat == s.seat) ≡ true).
    own seat s steps front rest answer (subst P ours e)
    (λ front' e'. answer_stands seat steps front' rest answer e'))
    (λ (theirs : (seat == s.seat) ≡ false).
    behind answer s.exchange (exchanges_of steps) (answer_stands seat steps front rest answer (subst P theirs e)))
    (is_either (seat == s.seat))

module _ (law : HeadlineHolds) (seat : ℕ) (start : State) (kept : List Exchange) (upto : ℕ) (keeper : KeeperState)
    (f : Follows start kept upto keeper) where
  one_stands : (answer : Answer) (replies : List Answer) → answers_to seat keeper.log ≡ replies ++ answer ∷ []
      → MayBeHeard start kept upto answer
  one_stands answer replies e =
      let at = answer_stands seat keeper.log replies [] answer e in
      let all : f.earlier ++ exchanges_of keeper.log ≡ (f.earlier ++ at.front) ++ at.x ∷ at.rest =
      ap (λ l. f.earlier ++ l) at.split ∙ sym (append_assoc f.earlier at.front (at.x ∷ at.rest)) in
      record {
        front = f.earlier ++ at.front;
        x = at.x;
        rest = at.rest;
        service = keeper.service;
        served =
            subst (λ xs. IsServed start xs keeper.service) all record {
              run = f.run;
              moments = f.moments;
              headline =
                  law start (f.earlier ++ exchanges_of keeper.log) keeper.service f.leads.lawful f.moments f.run;
            };
        changes_are_kept = ap changed (sym all) ∙ f.whole;
        promised = subst (λ xs. last_moment 0 xs ≤ upto) all (let a = f.last in let b = f.by in omega arith);
        answer_is = at.answer_is;
      }

  may_hear : (held : Option Answer) (replies : List Answer) → answers_to seat keeper.log ≡ replies ++ held_in held
      → IfSome held (λ answer. MayBeHeard start kept upto answer)
  may_hear (Some answer) replies e = one_stands answer replies e
  may_hear None replies e = tt

  -- what is held back for a seat may be heard, once all that changed is kept
  pub held_may_be_heard : (outlet : Outlet) → Replied seat keeper.log outlet → outlet.is_open ≡ true
      → outlet.is_crowded ≡ false → IfSome outlet.held (λ answer. MayBeHeard start kept upto answer)
  held_may_be_heard outlet r up alone = search (rules, arith, may_hear, owed_alone)
