-- A conversation with the program's new service.
use Rattle.std.proofs.Common.{◌≡◌, ℕ, List, [], ◌∷◌, subst, lit≤}
use Rattle.upload_service.specs.Machine.{empty_state, IsLawful}
use Rattle.upload_service.specs.Run.{NeverBefore}
use Rattle.upload_service.specs.Headline.{HeadlineHolds}
use Rattle.upload_service.specs.declared.limits.Limits.{Limits}
use Rattle.http_wire.specs.States.{SourceState, SinkState}
use Rattle.upload_wire.specs.Conversation.{WireExchange, connection, IsConversation}
use Rattle.upload_wire.specs.ConnectionRuns.{answered, service_exchanges, ConversationsRunTheService}
use Rattle.upload_wire.specs.ServiceTurns.{StepsService}
use Rattle.upload_wire.specs.declared.connection.ConnEnd.{ConnEnd}
use Rattle.upload_wire.specs.declared.desk.ServiceDesk.{ServiceDesk}
use Rattle.blobd_serve.specs.Limits.{program_limits}
use Rattle.blobd.specs.Once.{first_desk, status_of, IsOnce}

pub with_first_desk : (first left : SourceState) (before after : SinkState)
    (end : ConnEnd) (limits : Limits) (desk new : ServiceDesk) → limits ≡ program_limits → desk ≡ first_desk
    → IsConversation StepsService limits.max_body (connection first desk before) (connection left new after) end
    → IsConversation StepsService program_limits.max_body (connection first first_desk before)
    (connection left new after) end
with_first_desk first left before after end limits desk new is_limits is_desk talk =
    subst (λ d. IsConversation StepsService program_limits.max_body (connection first d before)
    (connection left new after) end) is_desk
    (subst (λ l. IsConversation StepsService l.max_body (connection first desk before) (connection left new after) end)
    is_limits talk)

-- the clock stands at 0
never_falls : (xs : List WireExchange) → NeverBefore 0 (service_exchanges first_desk xs)
never_falls [] = tt
never_falls (x ∷ xs) = (lit≤ tt, never_falls xs)

pub once : ConversationsRunTheService → HeadlineHolds → (first left : SourceState) (before after : SinkState)
    (end : ConnEnd) (new : ServiceDesk) (status : ℕ) → IsLawful (empty_state program_limits 0)
    → IsConversation StepsService program_limits.max_body (connection first first_desk before)
    (connection left new after) end → status ≡ status_of end → IsOnce first left before after status
once runs holds first left before after end new status lawful talk is_status =
    let given = connection first first_desk before in
    let kept = connection left new after in
    let run = (runs program_limits.max_body given kept end talk).run in
    let xs = answered StepsService program_limits.max_body given kept end talk in
    record {
      end = end;
      desk = new;
      conversation = talk;
      run = run;
      headline = holds first_desk.service (service_exchanges first_desk xs) new.service lawful (never_falls xs) run;
      is_status = is_status;
    }
