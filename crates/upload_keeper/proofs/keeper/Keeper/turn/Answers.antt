use Rattle.std.proofs.Common.{arith, refl, ap, sym, ◌∙◌, subst, append_assoc, [], ◌∷◌, ◌++◌, rules}
use Rattle.std.proofs.Math.Seq.{map-set_same}
use Rattle.upload_keeper.proofs.KeeperMoves.{served_seat, wish_taken, finished_seat, logged, grows_one}
use Rattle.upload_keeper.proofs.Safely.{follows_more, follows_still, kept_none}
use Rattle.upload_service.specs.Run.{Exchange}
use Rattle.upload_service.specs.Requests.{ask_in}
use Rattle.upload_keeper.specs.Safety.{Follows, changed}
use Rattle.upload_keeper.specs.Log.{Step, exchanges_of, last_moment}
use Rattle.upload_keeper.specs.Served.{KeeperState}
use Rattle.upload_keeper.proofs.keeper.Keeper.turn.Goals as goal

pub invariant_of-self-in-Job : goal.invariant_of-self-in-Job
invariant_of-self-in-Job g c =
    served_seat _ _ _ _ c.self.invariant _ c.in-Some.ensures.taken _ _ _ _ _ _ c.in-Job.is
    (omega arith) c.serve-answer.ensures.turn c.are_typed.ensures c.saturating_add-self-inside.ensures
    _ _ c.index_mut.ensures.value c.hold.ensures.held c.hold.ensures.done _ refl _
    (logged _ _ _ _ c.and.ensures
    (λ i. record {
      seat = c.in-Some.item.seat;
      exchange = record {
        ask = ask_in (c.of-asked.ensures i);
        secret = c.in-Job.secret;
        now = c.max-self-inside.result;
        answer = c.of.ensures i;
      };
    }))

pub invariant_of-self-in-Wish : goal.invariant_of-self-in-Wish
invariant_of-self-in-Wish g c =
    wish_taken _ _ _ _ c.self.invariant _ c.in-Some.ensures.taken _ c.in-Wish.is _
    c.grant-told.ensures

pub invariant_of-self-in-Finish : goal.invariant_of-self-in-Finish
invariant_of-self-in-Finish g c =
    finished_seat _ _ _ _ c.self.invariant _ c.in-Some.ensures.taken c.in-Finish.is _ _
    c.index_mut-in-Finish.ensures.value refl _ refl

pub returns-in-Job-clause-same : goal.returns-in-Job-clause-same
returns-in-Job-clause-same g c = grind (arith, map-set_same)

pub returns-in-Finish-clause-same : goal.returns-in-Finish-clause-same
returns-in-Finish-clause-same g c = search (rules, arith, map-set_same)

pub returns-in-Job-clause-grows : goal.returns-in-Job-clause-grows
returns-in-Job-clause-grows g c =
    let grown = logged _ _ _ _ c.and.ensures
    (λ i. record {
      seat = c.in-Some.item.seat;
      exchange = record {
        ask = ask_in (c.of-asked.ensures i);
        secret = c.in-Job.secret;
        now = c.max-self-inside.result;
        answer = c.of.ensures i;
      };
    }) in
    grows_one g.M.Moments.tells c.args.self.now _ c.args.moments.now c.now.new.self c.self.inside.books.now c.now.result
    (record {
      seat = c.in-Some.item.seat;
      exchange = record {
        ask = ask_in c.in-Job.request;
        secret = c.in-Job.secret;
        now = c.max-self-inside.result;
        answer = c.serve-answer.result;
      };
    })
    (grown ∙ ap (λ l. l ++ record {
      seat = c.in-Some.item.seat;
      exchange = record {
        ask = ask_in c.in-Job.request;
        secret = c.in-Job.secret;
        now = c.max-self-inside.result;
        answer = c.serve-answer.result;
      };
    } ∷ []) (ap (λ (k : KeeperState). k.log) c.self.view_is))
    (sym c.self.invariant.keeps.last
    ∙ ap (λ (k : KeeperState). last_moment k.since (exchanges_of k.log)) c.self.view_is)
    c.now.ensures
    c.max-self-inside.ensures

pub returns-in-Job-clause-follows : goal.returns-in-Job-clause-follows
returns-in-Job-clause-follows g c =
    let K = g.K.Keeping in
    let was = c.args.keeping.now in
    let f =
    subst (λ (k : KeeperState). Follows (K.start was) (K.kept was ++ K.waiting was) (K.last was) k) (sym c.self.view_is)
    c.requires.follows in
    let served = c.serve-answer.ensures in
    let x : Exchange = record {
      ask = ask_in c.in-Job.request;
      secret = c.in-Job.secret;
      now = c.max-self-inside.result;
      answer = c.serve-answer.result;
    } in
    let s : Step = record { seat = c.in-Some.item.seat; exchange = x } in
    follows_more (K.start was) _ (K.kept was ++ K.waiting was) _ (K.last was) _ _ _ c.self.inside.books.now f
    served.start refl c.self.invariant.keeps.last s (omega (arith, c.max-self-inside.ensures))
    served.turn
    ((λ i. served.kept i ++ served.waiting i)
    ∙ sym (append_assoc (K.kept was) (K.waiting was) (changed (x ∷ []))))
    (logged _ _ _ s c.and.ensures
    (λ i. record {
      seat = c.in-Some.item.seat;
      exchange = record {
        ask = ask_in (c.of-asked.ensures i);
        secret = c.in-Job.secret;
        now = c.max-self-inside.result;
        answer = c.of.ensures i;
      };
    }))
    (omega (arith, served.last))

pub returns-in-Job-clause-since : goal.returns-in-Job-clause-since
returns-in-Job-clause-since g c =
    let K = g.K.Keeping in
    let was = c.args.keeping.now in
    let served = c.serve-answer.ensures in
    let x : Exchange = record {
      ask = ask_in c.in-Job.request;
      secret = c.in-Job.secret;
      now = c.max-self-inside.result;
      answer = c.serve-answer.result;
    } in
    let s : Step = record { seat = c.in-Some.item.seat; exchange = x } in
    let grown = logged _ _ _ s c.and.ensures
    (λ i. record {
      seat = c.in-Some.item.seat;
      exchange = record {
        ask = ask_in (c.of-asked.ensures i);
        secret = c.in-Job.secret;
        now = c.max-self-inside.result;
        answer = c.of.ensures i;
      };
    }) in
    record {
      more = s ∷ [];
      log = grown ∙ ap (λ l. l ++ s ∷ []) (ap (λ (k : KeeperState). k.log) c.self.view_is);
      kept =
          (λ i. served.kept i ++ served.waiting i)
          ∙ sym (append_assoc (K.kept was) (K.waiting was) (changed (x ∷ [])));
    }

pub returns-in-Wish-clause-follows : goal.returns-in-Wish-clause-follows
returns-in-Wish-clause-follows g c = search (rules, arith, follows_still)

pub returns-in-Wish-clause-since : goal.returns-in-Wish-clause-since
returns-in-Wish-clause-since g c = search (rules, arith, kept_none)
