use Rattle.std.proofs.Common.{◌≡◌, false, true, Some, sym, ◌∙◌, ap, refl, arith, rules}
use Rattle.std.specs.Prelude.{is_some}
use Rattle.std.specs.Arc.{arc_value}
use Rattle.std.specs.Map.{lookup}
use Rattle.upload_service.specs.Machine.{same}
use Rattle.upload_service.specs.Kept.Stock.{is_held_alone}
use Rattle.upload_service.specs.declared.stock.Item.{Item}
use Rattle.upload_service.proofs.Keeping.Forgetting.{blob_stays, held_absent, blob_gone, held_gone}
use Rattle.upload_service.proofs.Keeping.Stocked.{blob_same, held_less}
use Rattle.upload_service.proofs.stock.forget_under.Goals as goal

pub returns-in_default-clause-held : goal.returns-in_default-clause-held
returns-in_default-clause-held _ c = search (rules, arith, held_absent)

pub returns-then-not-remove-clause-blobs : goal.returns-then-not-remove-clause-blobs
returns-then-not-remove-clause-blobs _ c =
    let item : Item = record { blob = c.in-Some.item.now.blob; holders = c.remove.new.self } in
    let holds = c.get_mut.follows.holds item in
    let alone : is_held_alone (arc_value c.args.name.now) (lookup (same c.args.key.now) c.args.items.now.entries)
    ≡ false =
    ap (is_held_alone (arc_value c.args.name.now)) (sym c.in-Some.ensures.value)
    ∙ sym c.remove.ensures.only ∙ c.if-not-remove.true in
    blob_stays c.args.items.now.entries (c.get_mut.follows.lender item).entries c.args.key.now _ alone
    (blob_same c.args.items.now.entries (c.get_mut.follows.lender item).entries c.args.key.now item
    (Some c.in-Some.item.now) c.in-Some.ensures.value ((holds.3 (ap is_some (sym c.in-Some.ensures.value))).0) refl)

pub returns-then-not-remove-clause-held : goal.returns-then-not-remove-clause-held
returns-then-not-remove-clause-held _ c =
    let item : Item = record { blob = c.in-Some.item.now.blob; holders = c.remove.new.self } in
    let holds = c.get_mut.follows.holds item in
    held_less c.args.items.now.entries (c.get_mut.follows.lender item).entries c.args.key.now item
    (Some c.in-Some.item.now) c.in-Some.ensures.value
    ((holds.3 (ap is_some (sym c.in-Some.ensures.value))).0) (arc_value c.args.name.now)
    (c.remove.ensures.removed c.if-not-remove.true)

pub returns-clause-blobs : goal.returns-clause-blobs
returns-clause-blobs _ c =
    let item : Item = record { blob = c.in-Some.item.now.blob; holders = c.remove.new.self } in
    let holds = c.get_mut.follows.holds item in
    let alone : is_held_alone (arc_value c.args.name.now) (lookup (same c.args.key.now) c.args.items.now.entries)
    ≡ true =
    ap (is_held_alone (arc_value c.args.name.now)) (sym c.in-Some.ensures.value)
    ∙ sym c.remove.ensures.only ∙ c.if-not-remove.false in
    blob_gone c.args.items.now.entries (c.get_mut.follows.lender item).entries c.remove-2.new.self.entries
    c.args.key.now c.in-Some.item.now item c.in-Some.ensures.value
    ((holds.3 (ap is_some (sym c.in-Some.ensures.value))).0) c.remove-2.ensures.updates.0
    (arc_value c.args.name.now) alone

pub returns-clause-held : goal.returns-clause-held
returns-clause-held _ c =
    let item : Item = record { blob = c.in-Some.item.now.blob; holders = c.remove.new.self } in
    let holds = c.get_mut.follows.holds item in
    let alone : is_held_alone (arc_value c.args.name.now) (lookup (same c.args.key.now) c.args.items.now.entries)
    ≡ true =
    ap (is_held_alone (arc_value c.args.name.now)) (sym c.in-Some.ensures.value)
    ∙ sym c.remove.ensures.only ∙ c.if-not-remove.false in
    held_gone c.args.items.now.entries (c.get_mut.follows.lender item).entries c.remove-2.new.self.entries
    c.args.key.now c.in-Some.item.now item c.in-Some.ensures.value
    ((holds.3 (ap is_some (sym c.in-Some.ensures.value))).0) c.remove-2.ensures.updates.0
    (arc_value c.args.name.now) alone
