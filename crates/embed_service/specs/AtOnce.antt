-- Requests that are served at one moment.
use Rattle.std.specs.Prelude.{ℕ, List, map, replicate}
use Rattle.upload_service.specs.declared.ask.Ask.{Ask}

-- each with the zero secret, at the moment 0
abbrev pub at_once : List Ask → List (Ask × List ℕ × ℕ)
at_once asks = map (λ ask. (ask, replicate 12 0, 0)) asks
