use Rattle.upload_compact.proofs.Copying.{copies_then}
use Rattle.upload_compact.proofs.settling.files_at.Goals as goal

pub returns-in_err-file_at : goal.returns-in_err-file_at
returns-in_err-file_at g c =
    copies_then c.args.store.now c.loop-place.store c.file_at.new.store c.args.safe.now c.loop-place.safe
    c.file_at.new.safe c.loop-place.invariant c.file_at.ensures

pub returns-in_err-push : goal.returns-in_err-push
returns-in_err-push g c =
    copies_then c.args.store.now c.loop-place.store c.file_at.new.store c.args.safe.now c.loop-place.safe
    c.file_at.new.safe c.loop-place.invariant c.file_at.ensures

pub loop-place-preserved : goal.loop-place-preserved
loop-place-preserved g c =
    copies_then c.args.store.now c.loop-place.store c.file_at.new.store c.args.safe.now c.loop-place.safe
    c.file_at.new.safe c.loop-place.invariant c.file_at.ensures
