use Rattle.std.proofs.Common.{◌≡◌}
use Rattle.upload_service.proofs.sessions.Sessions.give_way.Given as goal

abbrev pub invariant-loop : goal.invariant-loop
invariant-loop g l = l.self ≡ l.fn.self
