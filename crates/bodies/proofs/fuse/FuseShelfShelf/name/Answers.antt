use Rattle.bodies.proofs.fuse.FuseShelfShelf.name.Goals as goal

pub returns-clause-others : goal.returns-clause-others
returns-clause-others g c = record {
  each = λ other apart. let k = c.name.ensures.others.each other apart in record { same = k.same; left = k.left };
}
