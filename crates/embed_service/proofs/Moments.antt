-- Requests of one moment: their moments don't fall.
use Rattle.std.proofs.Common.{◌≡◌, ℕ, List, [], ◌∷◌, Result, Ok, Err, Vec, Global, IfOk, sym, subst, arith}
use Rattle.upload_service.specs.declared.ask.Ask.{Ask}
use Rattle.upload_service.specs.declared.answer.Answer.{Answer}
use Rattle.upload_service.specs.Machine.{State}
use Rattle.upload_service.specs.Run.{NeverFall, exchanges}
use Rattle.upload_service.specs.Headline.{Headline}
use Rattle.embed_service.specs.AtOnce.{at_once}

at_once-never_fall : (asks : List Ask) (answers : List Answer) → NeverFall (exchanges (at_once asks) answers)
at_once-never_fall [] answers = tt
at_once-never_fall (ask ∷ asks) [] = tt
at_once-never_fall (ask ∷ asks) (answer ∷ answers) = (omega arith, at_once-never_fall asks answers)

-- so the headline holds of them and their answers
pub served : {E : Type 0} (result : Result (Vec Answer Global) E) (old new : State) (asks : List Ask)
    (jobs : List (Ask × List ℕ × ℕ)) → jobs ≡ at_once asks → IfOk result (λ answers.
    NeverFall (exchanges jobs answers.items) → Headline old (exchanges jobs answers.items) new)
    → IfOk result (λ answers. Headline old (exchanges (at_once asks) answers.items) new)
served (Ok answers) old new asks jobs e holds =
    subst (λ listed. Headline old (exchanges listed answers.items) new) e
    (holds
    (subst (λ listed. NeverFall (exchanges listed answers.items)) (sym e) (at_once-never_fall asks answers.items)))
served (Err fault) old new asks jobs e holds = tt
