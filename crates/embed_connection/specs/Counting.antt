-- A desk over a service that counts: each request is one turn of the service's machine, and one more in the count.
use Rattle.std.specs.Prelude.{◌≡◌, ◌+◌, ◌-◌, ◌^◌, ◌<◌, Option, Some, replicate}
use Rattle.upload_service.specs.declared.ask.Ask.{Ask}
use Rattle.upload_service.specs.declared.answer.Answer.{Answer}
use Rattle.upload_service.specs.Machine.{Turn}
use Rattle.embed_connection.specs.declared.CountingDesk.{CountingDesk}

-- The ask was answered by one turn, at moment 0, and counted; at the last count nothing is claimed of it.
pub record StepsAndCounts (old : CountingDesk) (ask : Ask) (answer : Option Answer) (new : CountingDesk) : Type 0 where
  pub said : Answer
  pub answered : answer ≡ Some said
  pub turn : Turn old.service ask (replicate 12 0) 0 said new.service
  pub counted : old.asked < 2 ^ 64 - 1 → new.asked ≡ old.asked + 1
