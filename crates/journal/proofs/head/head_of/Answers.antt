use Rattle.std.proofs.Common.{◌++◌, take, ap, ◌∙◌}
use Rattle.std.proofs.lemmas.List.{take_at}
use Rattle.journal.specs.Format.{numbers, number_bytes, sum_of}
use Rattle.journal.proofs.Commit.{numbers_long}
use Rattle.journal.proofs.head.head_of.Goals as goal

pub returns : goal.returns
returns c =
    let all = numbers c.args.number c.args.time c.args.len in
    c.head_with.ensures ∙ ap (λ n. all ++ number_bytes n) (c.sum_of.ensures ∙ ap sum_of
    (ap (λ l. take 24 l) c.head_with-head.ensures
    ∙ take_at all (number_bytes 0) 24 (numbers_long c.args.number c.args.time c.args.len)))
