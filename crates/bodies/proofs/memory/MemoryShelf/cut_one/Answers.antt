use Rattle.std.proofs.Common.{refl}
use Rattle.bodies.proofs.Staying.{stays}
use Rattle.bodies.proofs.memory.MemoryShelf.cut_one.Goals as goal

pub returns-in-0-clause-cut : goal.returns-in-0-clause-cut
returns-in-0-clause-cut c =
    record {
      left = c.lose.ensures.left;
      fewer = c.lose.ensures.fewer;
      others = record {
        each = λ other apart.
            let k = c.lose.ensures.others.each other apart in record { same = k.same; left = k.left };
      };
    }

pub returns-in-1-clause-cut : goal.returns-in-1-clause-cut
returns-in-1-clause-cut c =
    record {
      left = c.tear.ensures.left;
      fewer = c.tear.ensures.fewer;
      others = record {
        each = λ other apart.
            let k = c.tear.ensures.others.each other apart in record { same = k.same; left = k.left };
      };
    }

pub returns-in_default-clause-cut : goal.returns-in_default-clause-cut
returns-in_default-clause-cut c = record {
  left = stays c.args.self.now.calls.items c.args.number;
  fewer = λ file h. h;
  others = record { each = λ other apart. record { same = refl; left = λ file h. h } };
}
