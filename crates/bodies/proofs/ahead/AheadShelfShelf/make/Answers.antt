use Rattle.bodies.proofs.ahead.AheadShelfShelf.make.Goals as goal

pub returns-clause-others : goal.returns-clause-others
returns-clause-others g c = record {
  each = λ other apart. let k = c.make.ensures.others.each other apart in record { same = k.same; left = k.left };
}
