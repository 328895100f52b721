use Rattle.std.proofs.Common.{◌≡◌, map as list_map}
use Rattle.std.specs.Arc.{arc_value}
use Rattle.upload_service.proofs.holders.are_same.Given as goal

abbrev pub invariant-loop-name : goal.invariant-loop-name
invariant-loop-name l =
    list_map arc_value l.name-iterator ≡ list_map arc_value l.left
    → list_map arc_value l.fn.names.keys ≡ list_map arc_value l.fn.others.keys
