use Rattle.std.proofs.Common.{Some, None, sym, ◌∙◌, ap, refl, cond}
use Rattle.std.specs.Prelude.{is_some}
use Rattle.std.specs.Arc.{arc_value}
use Rattle.std.specs.List.{list_any}
use Rattle.std.specs.Map.{lookup}
use Rattle.std.proofs.lemmas.Result.{on_ok_weaker, on_err_weaker}
use Rattle.upload_service.specs.Machine.{same}
use Rattle.upload_service.specs.declared.stock.Item.{Item}
use Rattle.upload_service.proofs.Keeping.Stocked.{blob_kept, held_more, item_kept}
use Rattle.upload_service.proofs.stock.hold_under.Goals as goal

pub returns-in-Some-clause-blobs : goal.returns-in-Some-clause-blobs
returns-in-Some-clause-blobs _ c =
    let item : Item = record { blob = c.in-Some.item.now.blob; holders = c.add.new.self } in
    let holds = c.get_mut.follows.holds item in
    on_ok_weaker c.add.result (λ _.
    blob_kept c.args.items.now.entries (c.get_mut.follows.lender item).entries c.args.key.now item
    (Some c.in-Some.item.now) c.in-Some.ensures.value
    ((holds.3 (ap is_some (sym c.in-Some.ensures.value))).0) refl) c.add.ensures.ok

pub returns-in-Some-clause-held : goal.returns-in-Some-clause-held
returns-in-Some-clause-held _ c =
    let item : Item = record { blob = c.in-Some.item.now.blob; holders = c.add.new.self } in
    let holds = c.get_mut.follows.holds item in
    on_ok_weaker c.add.result (λ more.
    held_more c.args.items.now.entries (c.get_mut.follows.lender item).entries c.args.key.now item
    (Some c.in-Some.item.now) c.in-Some.ensures.value
    ((holds.3 (ap is_some (sym c.in-Some.ensures.value))).0) (arc_value c.args.name) more) c.add.ensures.ok

pub returns-in-Some-clause-err : goal.returns-in-Some-clause-err
returns-in-Some-clause-err _ c =
    let item : Item = record { blob = c.in-Some.item.now.blob; holders = c.add.new.self } in
    let holds = c.get_mut.follows.holds item in
    on_err_weaker c.add.result (λ same.
    item_kept c.args.items.now.entries (c.get_mut.follows.lender item).entries c.args.key.now item
    (Some c.in-Some.item.now) c.in-Some.ensures.value
    ((holds.3 (ap is_some (sym c.in-Some.ensures.value))).0)
    (λ i. Some (record { blob = c.in-Some.item.now.blob; holders = same i }))) c.add.ensures.err

pub returns-clause-blobs : goal.returns-clause-blobs
returns-clause-blobs _ c =
    let item : Item = record { blob = c.empty.result; holders = c.of.result } in
    blob_kept c.args.items.now.entries c.insert.new.self.entries c.args.key.now item None c.in_default.ensures.value
    (λ q. c.in_ok-insert.ensures.updates.0 q
    ∙ (λ i. cond (same c.args.key.now q) (Some item) (lookup (same q) (c.get_mut.follows.holds-at-none i).entries)))
    c.empty.ensures

pub returns-clause-held : goal.returns-clause-held
returns-clause-held _ c =
    let item : Item = record { blob = c.empty.result; holders = c.of.result } in
    held_more c.args.items.now.entries c.insert.new.self.entries c.args.key.now item None c.in_default.ensures.value
    (λ q. c.in_ok-insert.ensures.updates.0 q
    ∙ (λ i. cond (same c.args.key.now q) (Some item) (lookup (same q) (c.get_mut.follows.holds-at-none i).entries)))
    (arc_value c.args.name) (λ n. ap (list_any (same n)) c.of.ensures)
