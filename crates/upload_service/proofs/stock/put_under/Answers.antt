use Rattle.std.proofs.Common.{Some, sym, ap, refl}
use Rattle.std.specs.Prelude.{is_some}
use Rattle.upload_service.specs.declared.stock.Item.{Item}
use Rattle.upload_service.proofs.Keeping.Stocked.{blob_written, held_kept}
use Rattle.upload_service.proofs.stock.put_under.Goals as goal

pub returns-clause-blobs : goal.returns-clause-blobs
returns-clause-blobs _ c =
    let item : Item = record { blob = c.args.blob; holders = c.in-Some.item.now.holders } in
    let holds = c.get_mut.follows.holds item in
    blob_written c.args.items.now.entries (c.get_mut.follows.lender item).entries c.args.key.now item
    (Some c.in-Some.item.now) c.in-Some.ensures.value
    ((holds.3 (ap is_some (sym c.in-Some.ensures.value))).0)

pub returns-clause-held : goal.returns-clause-held
returns-clause-held _ c =
    let item : Item = record { blob = c.args.blob; holders = c.in-Some.item.now.holders } in
    let holds = c.get_mut.follows.holds item in
    held_kept c.args.items.now.entries (c.get_mut.follows.lender item).entries c.args.key.now item
    (Some c.in-Some.item.now) c.in-Some.ensures.value
    ((holds.3 (ap is_some (sym c.in-Some.ensures.value))).0) (λ _. refl)
