use Rattle.std.proofs.Common.{rules}
use Rattle.std.proofs.Common.{ℕ, ◌+◌, ◌≤◌, List, ◌++◌, length, take, arith}
use Rattle.std.specs.Prelude.{Result, Ok, Err, IfOk}
use Rattle.std.specs.Result.{result_unwrap_or}
use Rattle.std.specs.Io.KnownBytes.{ReadConsumes}
use Rattle.std.proofs.lemmas.List.{append-nil}
use Rattle.http_wire.specs.declared.bytes.Failed.{Failed}
use Rattle.http_wire.specs.States.{SourceState, input_state}
use Rattle.http_wire.specs.Reading.{ReadTells, Gave}
use Rattle.http_wire.proofs.BufferLemmas.{read_on, read_nothing}
use Rattle.http_wire.proofs.GaveLemmas.{consumes_kept}
use Rattle.http_wire.proofs.input.read_behind.Goals as goal

-- one read, behind the first bytes
gave_by : (a b : SourceState) (old got after : List ℕ) (end : ℕ) (r : Result ℕ Failed)
    → end ≤ length old → IfOk r (λ n. n ≤ length got) → ReadConsumes a.remaining b.remaining r got → ReadTells a b r got
    → Gave (input_state (take end old) a) b (take (end + result_unwrap_or r 0) (take end old ++ (got ++ after)))
gave_by a b old got after end (Ok n) fits few read told = search (rules, arith, read_on)
gave_by a b old got after end (Err e) fits few read told =
    search (rules, arith, append-nil, consumes_kept, read_nothing)

pub returns-clause-gave : goal.returns-clause-gave
returns-clause-gave g c = search (rules, arith, gave_by)
