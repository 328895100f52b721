use Rattle.upload_records.proofs.Sweeps.{other_than}
use Rattle.upload_records.proofs.sweeping.remove_other.Goals as goal

pub returns-in-Ok-clause-keeps : goal.returns-in-Ok-clause-keeps
returns-in-Ok-clause-keeps g c n has =
    c.remove.ensures.others.each n
    (other_than c.args.named.now c.args.number n (λ there. absurd (cc (c.has.ensures.1 there, c.if-has.false))) has)

pub returns-in-Err-clause-keeps : goal.returns-in-Err-clause-keeps
returns-in-Err-clause-keeps g c n has =
    c.remove.ensures.others.each n
    (other_than c.args.named.now c.args.number n (λ there. absurd (cc (c.has.ensures.1 there, c.if-has.false))) has)
