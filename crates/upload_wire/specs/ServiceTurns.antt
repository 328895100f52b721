-- A desk over a service: each ask is one turn of the service's machine.
use Rattle.std.specs.Prelude.{◌≡◌, Option, Some}
use Rattle.upload_service.specs.declared.ask.Ask.{Ask}
use Rattle.upload_service.specs.declared.answer.Answer.{Answer}
use Rattle.upload_service.specs.Machine.{Turn}
use Rattle.upload_wire.specs.declared.desk.ServiceDesk.{ServiceDesk}

-- The ask was answered by one turn, with the desk's secret and at its moment, which stay.
pub record StepsService (old : ServiceDesk) (ask : Ask) (answer : Option Answer) (new : ServiceDesk) : Type 0 where
  pub said : Answer
  pub answered : answer ≡ Some said
  pub turn : Turn old.service ask old.secret old.now said new.service
  pub same_secret : new.secret ≡ old.secret
  pub same_moment : new.now ≡ old.now
