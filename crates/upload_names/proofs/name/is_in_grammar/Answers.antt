use Rattle.std.proofs.Common.{refl}
use Rattle.upload_names.specs.NamePass.{is_in_grammar}
use Rattle.upload_names.proofs.name.is_in_grammar.Goals as goal

pub loop-byte-init : goal.loop-byte-init
unfolding is_in_grammar
loop-byte-init c = refl
