use Rattle.std.proofs.Common.{◌≡◌, ◌≤◌, ◌+◌, length}
use Rattle.std.specs.Prelude.{vec_len, vec_capacity}
use Rattle.upload_service.specs.Run.{Run, exchanges}
use Rattle.upload_service.proofs.service.Service.run_each.Given as goal

abbrev pub invariant-loop-ask : goal.invariant-loop-ask
invariant-loop-ask l = record {
  count : length l.yielded ≡ length l.answers.items;
  room : vec_len l.answers + l.ask-iterator.rest.len ≤ vec_capacity l.answers;
  run : Run l.fn.self (exchanges l.yielded l.answers.items) l.self;
}
