use Rattle.std.proofs.Common.{refl}
use Rattle.http_wire.specs.Fields.{values_of}
use Rattle.http_wire.proofs.fields.lists_close.Goals as goal

pub loop-header-init : goal.loop-header-init
unfolding values_of
loop-header-init c = refl
