-- To an ask that is no GET no bytes of a blob are answered.
use Rattle.std.proofs.Common.{arith, rules}
use Rattle.std.proofs.Common.{ℕ, List, sym, subst, Some, inl, inr}
use Rattle.upload_names.specs.Digest.{Digest}
use Rattle.upload_service.specs.Machine.{State, Turn}
use Rattle.upload_service.specs.declared.ask.Ask.{Ask}
use Rattle.upload_service.specs.declared.answer.Answer.{Answer}
use Rattle.upload_service.proofs.Effects.{IsBlob, FitsAnswer}
use Rattle.upload_service.proofs.Steps.{None≢Some, outcome_sound}
use Rattle.wire_laws.specs.Joined.{IsNoGet, IsShort}

handed_out : (s : State) (ask : Ask) (digest : Digest) (size : ℕ) (content : List ℕ) → IsNoGet ask
    → IsBlob s ask digest size (Some content) → ⊥
handed_out s ask digest size content no_get is = search (rules, arith, None≢Some)

short : (s : State) (now : ℕ) (ask : Ask) → IsNoGet ask → (answer : Answer) → FitsAnswer s now ask answer
    → IsShort answer
short s now ask h answer = search (rules, arith, handed_out)

pub short_answers : (s : State) (secret : List ℕ) (now : ℕ) (ask : Ask) (answer : Answer) (after : State) → IsNoGet ask
    → Turn s ask secret now answer after → IsShort answer
unfolding Turn
short_answers s secret now ask answer after no_get (inl does) = search (rules, arith, short, outcome_sound)
short_answers s secret now ask answer after no_get (inr lacks) = subst IsShort (sym lacks.1) tt
