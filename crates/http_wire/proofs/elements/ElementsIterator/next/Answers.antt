use Rattle.std.proofs.Common.{◌≡◌, ◌+◌, ◌-◌, [], ◌∷◌, length, take, drop, rules, arith, add-one}
use Rattle.std.proofs.lemmas.List.{take_rest}
use Rattle.http_wire.specs.Fields.{elements}
use Rattle.http_wire.specs.Inner.FieldReading.{elements_left}
use Rattle.http_wire.proofs.Heads.ElementLemmas.{elements_at, elements_whole}
use Rattle.http_wire.proofs.elements.ElementsIterator.next.Goals.{After-trim, After-trim-in-None}
use Rattle.http_wire.proofs.elements.ElementsIterator.next.Goals as goal

-- the element ends at the first comma
at_comma : (c : After-trim) → elements_left c.args.self.now ≡ c.trim.result.now ∷ elements (take
    (length c.in_ok-rest.rest.now - (c.in-Some.comma + 1)) (drop (c.in-Some.comma + 1) c.in_ok-rest.rest.now))
at_comma c = search (rules, arith, elements_at, take_rest, add-one)

at_end : (c : After-trim-in-None) → elements_left c.args.self.now ≡ c.trim-in-None.result.now ∷ []
at_end c = search (rules, arith, elements_whole)

pub returns-in-Some-clause-steps : goal.returns-in-Some-clause-steps
returns-in-Some-clause-steps c = at_comma c

pub returns-in-Some-clause-goes : goal.returns-in-Some-clause-goes
returns-in-Some-clause-goes c = search (rules, arith, at_comma)

pub returns-in-None-clause-steps : goal.returns-in-None-clause-steps
returns-in-None-clause-steps c = at_end c

pub returns-in-None-clause-goes : goal.returns-in-None-clause-goes
returns-in-None-clause-goes c = search (rules, arith, at_end)
