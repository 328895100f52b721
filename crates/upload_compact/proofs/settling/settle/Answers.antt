use Rattle.upload_compact.proofs.Copying.{copies_then}
use Rattle.upload_compact.proofs.settling.settle.Goals as goal

pub returns-in_err-files : goal.returns-in_err-files
returns-in_err-files g c =
    copies_then c.args.store.now c.loop-digest.store c.files_of.new.store c.args.safe.now c.loop-digest.safe
    c.files_of.new.safe c.loop-digest.invariant c.files_of.ensures

pub returns-in_err-note_files : goal.returns-in_err-note_files
returns-in_err-note_files g c =
    copies_then c.args.store.now c.loop-digest.store c.files_of.new.store c.args.safe.now c.loop-digest.safe
    c.files_of.new.safe c.loop-digest.invariant c.files_of.ensures

pub loop-digest-preserved : goal.loop-digest-preserved
loop-digest-preserved g c =
    copies_then c.args.store.now c.loop-digest.store c.files_of.new.store c.args.safe.now c.loop-digest.safe
    c.files_of.new.safe c.loop-digest.invariant c.files_of.ensures
