use Rattle.std.proofs.Common.{◌≡◌, Some, drop}
use Rattle.upload_names.specs.NamePass.{passes, is_in_grammar}
use Rattle.upload_names.proofs.name.is_in_grammar.Given as goal

-- what is left of the text decides
abbrev pub invariant-loop-byte : goal.invariant-loop-byte
invariant-loop-byte l = is_in_grammar l.text ≡ passes (Some l.place) (drop l.byte-index l.text)
