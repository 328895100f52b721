-- What the passes of a line know: of one sender alone, and of the receiver.
use Rattle.std.specs.Prelude.{ℕ, true, false, List, [], map}
use Rattle.atomic_table.specs.Seated.{TableId}
use Rattle.atomic_table.specs.declared.badge.Badge.{Badge}
use Rattle.crossbeam_channel.specs.declared.flavors.array.Key.{Key}
use Rattle.crossbeam_channel.specs.declared.flavors.array.Doing.{Doing}
use Rattle.crossbeam_channel.specs.declared.flavors.array.Rows.{Rows}
use Rattle.upload_keeper.specs.declared.line.Item.{Item}
use Rattle.upload_keeper.specs.declared.line.Sending.TheVariants.{One, AllFrom}
use Rattle.upload_keeper.specs.declared.line.LineView.{LineView}

-- which line an end belongs to
abbrev pub LineId : Type 0 → Type 0
LineId T = TableId × Badge (Key (Item T))

module _ {T V Q M L A : Type 0} where
  abbrev pub line_of : Rows (Badge (Key (Item T))) (Doing (Item T) V) Q M (Key (Item T)) L A → LineId T
  line_of end = (end.stamps.shared.table_id, end.stamps.shared.key)

module _ {T : Type 0} where
  abbrev pub sender_view : ℕ → List T → LineView T
  sender_view seat sent = record { takes = false; taken = []; sending = One seat sent }

  -- the receiver, from which the senders of the seats below this number were cut off
  abbrev pub taker_view : ℕ → List (Item T) → LineView T
  taker_view seats taken = record { takes = true; taken = taken; sending = AllFrom seats }

  abbrev pub whats : List (Item T) → List T
  whats items = map (λ (x : Item T). x.what) items
