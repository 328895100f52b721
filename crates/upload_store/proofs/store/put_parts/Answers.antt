use Rattle.std.proofs.Common.{◌+◌, ◌-◌, ◌<◌, List, ℕ, ap, sym, ◌∙◌, arith, take, drop, length, get_or, rules}
use Rattle.std.proofs.Common.{append_assoc}
use Rattle.std.proofs.Common.{length-append}
use Rattle.std.specs.List.{concat}
use Rattle.bodies.specs.Body.{bytes_of}
use Rattle.upload_bytes.proofs.Parts.{concat-take_next, concat-take_rest}
use Rattle.upload_store.proofs.Causes.{fault_weaker}
use Rattle.upload_store.proofs.store.put_parts.Goals as goal

pub loop-part-preserved : goal.loop-part-preserved
loop-part-preserved g c = search (rules, arith, concat-take_next, append_assoc)

pub returns-in-Err-clause-cause : goal.returns-in-Err-clause-cause
returns-in-Err-clause-cause g c =
    let parts : List (List ℕ) = c.args.parts.now in
    let i = c.loop-part.part-index in
    let here : i < length parts = omega (arith, c.loop-part-test.true, c.loop-part.auto.part-index-end) in
    let item = c.as_slice.ensures ∙ c.part-item.is in
    let next = concat-take_next parts i c.part-item.result here in
    let rest : List ℕ = concat (take (length parts - (i + 1)) (drop (i + 1) parts)) in
    fault_weaker _ _ _ _ _ _ _ _ _ _ (λ never. absurd never) (λ never. absurd never)
    (λ ended. sym ended.0 ∙ c.loop-part.invariant.is_still_open)
    (λ long.
    let len = long.0 in
    omega (
      arith,
      len,
      ap length c.loop-part.invariant.written,
      length-append (bytes_of c.args.file.now) (concat (take i parts)),
      ap length item,
      ap length next,
      length-append (concat (take i parts)) (get_or parts i c.part-item.result),
      ap length (concat-take_rest (i + 1) parts),
      length-append (concat (take (i + 1) parts)) rest,
    ))
    (λ more. record { old = c.loop-part.file.file; new = c.append.new.self.file; more = more }) c.in-Err.fault
    c.in-Err.ensures.cause
