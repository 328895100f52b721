use Rattle.std.proofs.Common.{◌∙◌, ap, subst}
use Rattle.bodies.proofs.ahead.AheadShelfShelf.ready.Goals as goal

pub returns-clause-same : goal.returns-clause-same
returns-clause-same g c =
    let none = c.take.ensures ∙ c.read_on.ensures in
    record {
      each =
          λ n.
          let k = c.take_back.ensures.same.each n in
          record {
            same = k.same ∙ ap (λ shelf. g.S.Shelf.held shelf n) none;
            left = λ file h. subst (λ shelf. g.S.Shelf.may_leave shelf n file) none (k.left file h);
          };
    }
