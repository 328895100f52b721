use Rattle.std.proofs.Common.{length, ◌≤◌, List, ℕ, arith}
use Rattle.upload_names.specs.declared.digest.Algorithm.TheVariants.{Sha256}
use Rattle.upload_push.specs.Slices.{IsLawfulPush, log_of, push_of}
use Rattle.wire_tests.proofs.pushes.push_and_know.Goals as goal

small : (name file : List ℕ) → length file ≤ 100 → IsLawfulPush (push_of Sha256 name file 2 5)
small name file size = record { size = omega (arith, size); chunk_least = omega arith; chunk_most = omega arith }

pub returns-clause-alone : goal.returns-clause-alone
returns-clause-alone c = λ is own.
    let lawful = small c.args.name.now c.args.file.now c.requires.file in
    (c.push_promise.ensures.promise _ _ _ _ lawful c.requires.lawful c.push.ensures).pushed is
    (c.push_promise.ensures.alone _ _ (log_of _ c.push.ensures.heard) own)

pub returns-clause-pushed : goal.returns-clause-pushed
returns-clause-pushed c =
    let lawful = small c.args.name.now c.args.file.now c.requires.file in
    (c.push_promise.ensures.promise _ _ _ _ lawful c.requires.lawful c.push.ensures).pushed_beside_others

pub returns-clause-already : goal.returns-clause-already
returns-clause-already c =
    let lawful = small c.args.name.now c.args.file.now c.requires.file in
    (c.push_promise.ensures.promise _ _ _ _ lawful c.requires.lawful c.push.ensures).already
