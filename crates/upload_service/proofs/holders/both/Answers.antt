use Rattle.std.proofs.Common.{◌∙◌, ap, map as list_map}
use Rattle.std.specs.Prelude.{◌||◌}
use Rattle.std.specs.Arc.{arc_value}
use Rattle.std.specs.List.{list_any}
use Rattle.upload_service.specs.Machine.{same}
use Rattle.upload_service.proofs.Keeping.Holding.{name_more}
use Rattle.upload_service.proofs.holders.both.Goals as goal

pub returns-in-Ok : goal.returns-in-Ok
returns-in-Ok c = λ q.
    ap (λ s. list_any (same q) (list_map arc_value s.keys)) c.in-Ok.ensures.ok
    ∙ name_more c.args.other c.insert.new.self.keys c.insert-2.new.self.keys c.in_ok-insert-2.ensures.updates.0 q
    ∙ ap (λ b. same q (arc_value c.args.other) || b)
    (name_more c.args.one c.new-names.result.keys c.insert.new.self.keys c.in_ok-insert.ensures.updates.0 q
    ∙ ap (λ names. same q (arc_value c.args.one) || list_any (same q) (list_map arc_value names))
    c.new-names.ensures.empty)
