use Rattle.upload_compact.proofs.Copying.{copies_put, copies_failed}
use Rattle.upload_compact.proofs.settling.put_copy.Goals as goal

pub returns-in-Err : goal.returns-in-Err
returns-in-Err g c =
    copies_failed c.args.store.now c.put_bytes.new.store c.in-Err.fault c.args.safe.now c.in-Err.ensures

pub returns-in_err-add : goal.returns-in_err-add
returns-in_err-add g c =
    copies_put c.args.store.now c.put_bytes.new.store c.in-Ok.file c.args.safe.now c.add.new.self c.in-Ok.ensures
    c.add.ensures.only

pub returns : goal.returns
returns g c =
    copies_put c.args.store.now c.put_bytes.new.store c.in-Ok.file c.args.safe.now c.add.new.self c.in-Ok.ensures
    c.add.ensures.only
