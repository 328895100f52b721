-- The headline of a whole run.
use Rattle.std.proofs.Common.{◌≡◌, ℕ, List, [], ◌∷◌, ◌++◌, length, refl, subst, arith, rules}
use Rattle.upload_service.specs.declared.ask.Ask.{Ask}
use Rattle.upload_service.specs.declared.answer.Answer.{Answer}
use Rattle.upload_service.specs.Machine.{State}
use Rattle.upload_service.specs.Machine.{Turn}
use Rattle.upload_service.proofs.Claims.{Moment}
use Rattle.upload_service.specs.Run.{Exchange, NeverBefore, NeverFall, Run, exchanges}
use Rattle.upload_service.specs.Headline.{IsOrderly, HeadlineHolds}
use Rattle.upload_service.proofs.Headline.{commits_its_chunks, missed_chunk_changes_nothing, misplaced_only_there}
use Rattle.upload_service.proofs.Headline.{closed_takes_nothing}
use Rattle.upload_service.proofs.Alone.{answered_as_alone}
use Rattle.upload_service.proofs.Store.{run-push, store_is_what_was_stored, blob_is_what_was_stored, held_is_given}
use Rattle.upload_service.proofs.Store.{others_are_no_blob}
use Rattle.upload_service.proofs.Lawful.{stays_lawful}

pub orderly : (start : State) (front : List Exchange) (before : State) (x : Exchange) (after : State)
    → Moment start front before x after → IsOrderly start front before x after
unfolding Turn
orderly start front before x after m =
    record {
      committed = commits_its_chunks start front before x after m;
      missed = missed_chunk_changes_nothing start front before x after m;
      misplaced = misplaced_only_there start front before x after m;
      closed = closed_takes_nothing start front before x after m;
      blob = blob_is_what_was_stored start front before x after m;
      has = held_is_given start front before x after m;
      has_not = others_are_no_blob start front before x after m;
    }

-- a run comes apart at each of its exchanges
run_split : (front : List Exchange) (s : State) (x : Exchange) (rest : List Exchange) (t : State)
    → Run s (front ++ x ∷ rest) t → (before : State) × (after : State) × Run s front before
    × Turn before x.ask x.secret x.now x.answer after × Run after rest t
unfolding Turn
run_split [] s x rest t (mid, turn, later) = (s, mid, refl, turn, later)
run_split (y ∷ ys) s x rest t (mid, turn, later) = search (rules, arith, run_split ys mid x rest t later)

never_in_front : (front : List Exchange) (x : Exchange) (rest : List Exchange) (from : ℕ)
    → NeverBefore from (front ++ x ∷ rest) → NeverBefore from (front ++ x ∷ [])
never_in_front [] x rest from (later, never) = (later, tt)
never_in_front (y ∷ ys) x rest from (later, never) = (later, never_in_front ys x rest y.now never)

pub headline_holds : HeadlineHolds
unfolding Turn
headline_holds start xs end lawful never run =
    record {
      each = λ front x rest e.
          let parts = run_split front start x rest end (subst (λ ys. Run start ys end) e run) in
          let no_fall : NeverFall (front ++ x ∷ []) = never_in_front front x rest 0 (subst NeverFall e never) in (
            parts.0,
            parts.1,
            parts.2,
            parts.3,
            parts.4,
            orderly start front parts.0 x parts.1
                (record { lawful = lawful; never_fall = no_fall; so_far = parts.2; turn = parts.3 }),
          );
      alone = answered_as_alone start xs end lawful never run;
      store = store_is_what_was_stored start xs end lawful run;
      lawful = stays_lawful start xs end lawful run;
    }

abbrev Job : Type 0
Job = Ask × List ℕ × ℕ

pub exchanges-push : (jobs : List Job) (answered : List Answer) (job : Job) (answer : Answer)
    → length jobs ≡ length answered → exchanges (jobs ++ job ∷ []) (answered ++ answer ∷ [])
    ≡ exchanges jobs answered ++ record { ask = job.0; secret = job.1; now = job.2; answer = answer } ∷ []
exchanges-push [] [] job answer e = refl
exchanges-push [] (a ∷ as') job answer e = absurd (omega arith)
exchanges-push (j ∷ js) [] job answer e = absurd (omega arith)
exchanges-push (j ∷ js) (a ∷ as') job answer e = cc (exchanges-push js as' job answer (omega arith))

pub run_more : (start mid end : State) (jobs : List Job) (answered : List Answer) (job : Job) (answer : Answer)
    → length jobs ≡ length answered → Run start (exchanges jobs answered) mid → Turn mid job.0 job.1 job.2 answer end
    → Run start (exchanges (jobs ++ job ∷ []) (answered ++ answer ∷ [])) end
unfolding Turn
run_more start mid end jobs answered job answer e run turn = search (rules, arith, exchanges-push, run-push)
