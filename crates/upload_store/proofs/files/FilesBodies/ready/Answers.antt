use Rattle.std.proofs.Common.{Option, Some, None, IfSome, arith, rules}
use Rattle.upload_store.proofs.Rescues.{since_then}
use Rattle.upload_store.proofs.files.FilesBodies.ready.Goals as goal

-- what is told of a value, told otherwise
if_some : {T : Type 0} {P Q : T → Type 0} (result : Option T) → ((x : T) → P x → Q x) → IfSome result P
    → IfSome result Q
if_some None more told = tt
if_some (Some x) more told = more x told

pub returns-clause-read : goal.returns-clause-read
returns-clause-read g c = search (rules, arith, if_some)

pub returns-clause-same : goal.returns-clause-same
returns-clause-same g c n bytes stood clean = search (rules, arith)

pub returns-clause-keeps : goal.returns-clause-keeps
returns-clause-keeps g c first kept =
    let faults = c.ready.ensures.faults in
    since_then g.S.Shelf.held g.S.Shelf.may_leave g.S.Shelf.IsClean g.S.Shelf.faults first.shelf c.args.self.now.shelf
    c.ready.new.self kept (record { all = c.ready.ensures.same; clean = c.ready.ensures.clean }, omega (arith, faults))
