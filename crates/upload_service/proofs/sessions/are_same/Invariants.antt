use Rattle.std.proofs.Common.{◌≡◌, map as list_map}
use Rattle.upload_service.specs.Kept.Entries.{seen_entry}
use Rattle.upload_service.proofs.sessions.are_same.Given as goal

abbrev pub invariant-loop-at : goal.invariant-loop-at
invariant-loop-at l =
    list_map seen_entry l.at-iterator ≡ list_map seen_entry l.left
    → list_map seen_entry l.fn.sessions.entries ≡ list_map seen_entry l.fn.others.entries
