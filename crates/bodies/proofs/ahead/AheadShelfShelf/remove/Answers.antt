use Rattle.std.proofs.Common.{◌∙◌, ap, subst}
use Rattle.bodies.proofs.ahead.AheadShelfShelf.remove.Goals as goal

pub returns-clause-others : goal.returns-clause-others
returns-clause-others g c = record {
  each =
      λ other apart.
      let k = c.remove.ensures.others.each other apart in
      record {
        same = k.same ∙ ap (λ shelf. g.S.Shelf.held shelf other) c.forget.ensures;
        left = λ file h. subst (λ shelf. g.S.Shelf.may_leave shelf other file) c.forget.ensures (k.left file h);
      };
}
