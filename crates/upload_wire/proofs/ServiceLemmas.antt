-- The steps of a desk over a service, as a run of the service's machine.
use Rattle.std.proofs.Common.{rules}
use Rattle.std.proofs.Common.{◌≡◌, ℕ, List, [], ◌∷◌, ◌++◌, sym, ◌∙◌, subst, inl, inr, ⊎_elim, arith}
use Rattle.std.specs.Prelude.{Option, Some, None, map}
use Rattle.std.proofs.lemmas.List.{append-nil}
use Rattle.upload_service.specs.Machine.{Turn}
use Rattle.upload_service.specs.Run.{Run}
use Rattle.upload_wire.specs.declared.connection.ConnEnd.{ConnEnd}
use Rattle.upload_wire.specs.declared.connection.ConnEnd.TheVariants.{Clean, AfterClose, AfterBad, TooMany, DeskGone}
use Rattle.upload_wire.specs.declared.connection.ConnEnd.TheVariants.{Fault}
use Rattle.upload_wire.specs.declared.connection.ConnFault.TheVariants as Conn
use Rattle.upload_wire.specs.declared.desk.ServiceDesk.{ServiceDesk}
use Rattle.upload_wire.specs.Conversation.{WireExchange, Answers, ConnectionState, Standing, EndsWith}
use Rattle.upload_wire.specs.Conversation.{IsConversation}
use Rattle.upload_wire.specs.ServiceTurns.{StepsService}
use Rattle.upload_wire.specs.ConnectionRuns.{service_exchange, answered_last, answered, IsRunOfService}
use Rattle.upload_wire.proofs.ConversationLemmas.{answers_more}

same_said : {A : Type 0} (said answer : A) → ◌≡◌ {A = Option A} (Some answer) (Some said) → said ≡ answer
same_said said answer same = cc

never_none : {A : Type 0} (said : A) → ◌≡◌ {A = Option A} None (Some said) → ⊥
never_none said same = cc

-- what the steps of the desk come to
record Ran (old new : ServiceDesk) (xs : List WireExchange) : Type 0 where
  run : Run old.service (map (service_exchange old.secret old.now) xs) new.service
  same_secret : new.secret ≡ old.secret
  same_moment : new.now ≡ old.now

with_secret : (from into : ServiceDesk) (xs : List WireExchange) (new : ServiceDesk) → into.secret ≡ from.secret
    → into.now ≡ from.now → Run into.service (map (service_exchange into.secret into.now) xs) new.service
    → Run into.service (map (service_exchange from.secret from.now) xs) new.service
with_secret from into xs new secret moment run = search (rules, arith)

ran : (old new : ServiceDesk) (xs : List WireExchange) → Answers StepsService old xs new → Ran old new xs
ran old new [] same = search (rules, arith)
ran old new (x ∷ xs) h =
    let step = h.1 in
    let more = ran h.0 new xs h.2 in
    record {
      run = (
        h.0.service,
        subst (λ a. Turn old.service x.ask old.secret old.now a h.0.service)
            (same_said step.said x.answer step.answered) step.turn,
        with_secret old h.0 xs new step.same_secret step.same_moment more.run,
      );
      same_secret = more.same_secret ∙ step.same_secret;
      same_moment = more.same_moment ∙ step.same_moment;
    }

run_of : (old new : ServiceDesk) (xs : List WireExchange) (end : ConnEnd) → (end ≡ DeskGone → ⊥)
    → Answers StepsService old xs new → IsRunOfService old new xs end
run_of old new xs end there answers = search (rules, arith, ran)

module _ (max_body : ℕ) (old : ServiceDesk) (s : Standing ServiceDesk) (new : ConnectionState ServiceDesk)
    (xs : List WireExchange)
    (answers : Answers StepsService old xs s.desk) where
  -- nothing more was asked
  none_more : (end : ConnEnd) → (end ≡ DeskGone → ⊥) → new.desk ≡ s.desk → IsRunOfService old new.desk (xs ++ []) end
  none_more end there same =
      run_of old new.desk (xs ++ []) end there
      (subst (λ ys. Answers StepsService old ys new.desk) (sym (append-nil xs))
      (subst (λ d. Answers StepsService old xs d) (sym same) answers))

  one_more : (end : ConnEnd) (x : WireExchange) → (end ≡ DeskGone → ⊥)
      → StepsService s.desk x.ask (Some x.answer) new.desk → IsRunOfService old new.desk (xs ++ x ∷ []) end
  one_more end x there step =
      run_of old new.desk (xs ++ x ∷ []) end there (answers_more StepsService old s.desk new.desk xs x answers step)

  ended : (end : ConnEnd) (e : EndsWith StepsService max_body s new end)
      → IsRunOfService old new.desk (xs ++ answered_last StepsService max_body s new end e) end
  ended Clean e = none_more Clean (λ same. cc) e.2.unasked
  ended AfterClose e = one_more AfterClose e.0 (λ same. cc) e.1.answered
  ended AfterBad e = none_more AfterBad (λ same. cc) e.1.unasked
  ended TooMany e = one_more TooMany e.0 (λ same. cc) e.1.answered
  ended DeskGone e = absurd (never_none e.0.gone.said e.0.gone.answered)
  ended (Fault (Conn.Wire fault)) e = none_more (Fault (Conn.Wire fault)) (λ same. cc) e.1.unasked
  ended (Fault Conn.Write) e =
      elim e as (λ e. IsRunOfService old new.desk (xs ++ ⊎_elim (λ s. s.0 ∷ []) (λ s. []) e) (Fault Conn.Write)) [
        | inl h ↦ one_more (Fault Conn.Write) h.0 (λ same. cc) h.1.answered
        | inr h ↦ none_more (Fault Conn.Write) (λ same. cc) h.1.unasked
      ]

pub run_of_conversation : (max_body : ℕ) (old new : ConnectionState ServiceDesk) (end : ConnEnd)
    → (c : IsConversation StepsService max_body old new end)
    → IsRunOfService old.desk new.desk (answered StepsService max_body old new end c) end
run_of_conversation max_body old new end c = search (rules, arith, ended)
