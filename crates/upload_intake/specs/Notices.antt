-- What a gate is told of one request.
use Rattle.std.specs.Prelude.{ℕ}
use Rattle.upload_service.specs.declared.ask.Ask.{Ask}
use Rattle.upload_service.specs.declared.answer.Answer.{Answer}

-- that it is about to be asked, or what it was answered
pub data Notice : Type 0 where
  Asking : Ask → Notice
  Answered : Answer → Notice

-- how a gate takes what it is told: its state, which of the worker's requests it is, the notice, and its new state
abbrev pub Watching : Type 0 → Type 1
Watching G = G → ℕ → Notice → G → Type 0
