use Rattle.std.proofs.Common.{◌<◌, ◌≤◌, ℕ, List, take, length, arith, rules}
use Rattle.std.proofs.lemmas.List.{take_all}
use Rattle.std.proofs.lemmas.List.Elements.{All-more, All-weaker}
use Rattle.upload_store.proofs.store.above.Goals as goal

pub loop-number-preserved : goal.loop-number-preserved
loop-number-preserved c =
    let at = c.loop-number.number-index in
    let numbers : List ℕ = c.args.numbers.now in
    let before : ℕ → Type 0 = λ n. n < c.loop-number.next in
    let after : ℕ → Type 0 = λ n. n < c.max-next.result in
    let larger : c.loop-number.next ≤ c.max-next.result = omega (arith, c.max-next.ensures) in
    let within : at < length numbers =
    omega (arith, c.loop-number-test.true, c.loop-number.auto.number-index-end) in
    All-more after numbers at 0 within
    (All-weaker before after (λ n h. omega (arith, h, larger)) (take at numbers) c.loop-number.invariant)
    (omega (arith, c.max-next.ensures, c.in_ok-behind.ensures.1))

pub returns-clause-some : goal.returns-clause-some
returns-clause-some c = search (rules, arith, take_all)
