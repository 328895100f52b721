use Rattle.std.proofs.Common.{rules, tests}
use Rattle.std.specs.Prelude.{codes}
use Rattle.std.proofs.lemmas.Iterator.Consumers.{YieldsList-from_first}
use Rattle.std.proofs.lemmas.Iterator.Search.{any_from_yields_List}
use Rattle.http_wire.specs.Fields.{same_word, lists_close}
use Rattle.http_wire.specs.Inner.FieldReading.{elements_left}
use Rattle.http_wire.proofs.fields.has_close.Goals as goal

pub returns : goal.returns
unfolding lists_close
returns c =
    any_from_yields_List (λ e. same_word e (codes "close")) _ _ _ c.any.ensures.ran
    (YieldsList-from_first (λ x. x.now) elements_left _ c.new.ensures) (λ x b q k. search (rules, tests))
