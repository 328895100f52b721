use Rattle.std.proofs.Common.{◌≡◌, drop}
use Rattle.upload_compact.specs.Leaving.{forgotten_all}
use Rattle.upload_compact.proofs.renewal.forget_all.Given as goal

abbrev pub invariant-loop-name : goal.invariant-loop-name
invariant-loop-name l = forgotten_all l.gone l.fn.service ≡ forgotten_all (drop l.name-index l.gone) l.service
