-- THE RULED LINE: senders, each of a seat, and one receiver. Of each seat, what was taken, followed by what waits, is
-- what it sent. Each item names its seat, and a line has no other items.
use Rattle.std.specs.Prelude.{◌≡◌, ◌≢◌, ℕ, ◌+◌, ◌==◌, nat_le, Bool, true, false, List, [], ◌∷◌, ◌++◌, map, filter}
use mathlib.Core.Option.{some}
use lib.ListN.{get_elem?}
use Rattle.upload_keeper.specs.declared.line.Item.{Item}
use Rattle.upload_keeper.specs.declared.line.Sending.{Sending}
use Rattle.upload_keeper.specs.declared.line.Sending.TheVariants.{Nothing, One, AllFrom}
use Rattle.upload_keeper.specs.declared.line.LineView.{LineView}

-- at which port a line's sender of each seat is, and at which its receiver
pub record Ports : Type 0 where
  pub sender : ℕ → ℕ
  pub taker : ℕ

module _ {T : Type 0} where
  -- what one seat sent, of these items, in their order
  abbrev pub items_of : ℕ → List (Item T) → List T
  items_of seat items = map (λ (x : Item T). x.what) (filter (λ (x : Item T). seat == x.seat) items)

  -- whether a pass sends as this seat, whether as it alone, and what was so sent
  abbrev pub sends : ℕ → Sending T → Bool
  sends seat Nothing = false
  sends seat (One own what) = seat == own
  sends seat (AllFrom first) = nat_le first seat

  abbrev pub is_sender : ℕ → Sending T → Bool
  is_sender seat (One own what) = seat == own
  is_sender seat Nothing = false
  is_sender seat (AllFrom first) = false

  abbrev pub sent : Sending T → List T
  sent Nothing = []
  sent (One own what) = what
  sent (AllFrom first) = []

  -- The pass at a port agrees with the line. There is one port at most for each seat, and one that receives.
  abbrev pub Fits : Ports → List (Item T) → List (Item T) → ℕ → LineView T → Type 0
  Fits ports taken items port v =
      ((seat : ℕ) → sends seat v.sending ≡ true
      → (port ≡ ports.sender seat) × (sent v.sending ≡ items_of seat (taken ++ items)))
      × (v.takes ≡ true → (port ≡ ports.taker) × (v.taken ≡ taken))

  -- what a line's items and the views of its passes have in common, at every moment
  abbrev pub InOrder : List (Item T) → List (LineView T) → Type 0
  InOrder items views =
      (ports : Ports) × (taken : List (Item T))
      × ((port : ℕ) (v : LineView T) → get_elem? views port ≡ some v → Fits ports taken items port v)

  -- what a pass that also receives knows of the items that wait
  abbrev pub Waits : LineView T → List (Item T) → Type 0
  Waits v items =
      v.takes ≡ true → (seat : ℕ) → sends seat v.sending ≡ true → sent v.sending ≡ items_of seat (v.taken ++ items)

  -- the item isn't of a seat as which this pass sends and sent nothing
  abbrev pub IsOfAnother : LineView T → Item T → Type 0
  IsOfAnother v x = sends x.seat v.sending ≡ true → sent v.sending ≢ []

  -- a new line's only pass, which does everything, and a pass that does nothing any more
  abbrev pub unused : LineView T
  unused = record { takes = true; taken = []; sending = AllFrom 0 }

  abbrev pub idle : LineView T
  idle = record { takes = false; taken = []; sending = Nothing }

  -- the two parts when the next seat's sender is cut off
  abbrev pub after : Sending T → Sending T
  after (AllFrom first) = AllFrom (first + 1)
  after Nothing = Nothing
  after (One own what) = Nothing

  abbrev pub next : Sending T → Sending T
  next (AllFrom first) = One first []
  next Nothing = Nothing
  next (One own what) = One own what

  abbrev pub without_next : LineView T → LineView T
  without_next v = record v { sending = after v.sending }

  abbrev pub next_alone : LineView T → LineView T
  next_alone v = record { takes = false; taken = []; sending = next v.sending }

  -- one pass with what the other one sent
  abbrev pub joined : LineView T → LineView T → LineView T
  joined v w = record v { sending = w.sending }

  -- the view after an item was sent, and after one was taken
  abbrev pub more : T → Sending T → Sending T
  more what (One own before) = One own (before ++ what ∷ [])
  more what Nothing = Nothing
  more what (AllFrom first) = AllFrom first

  abbrev pub with_sent : Item T → LineView T → LineView T
  with_sent x v = record v { sending = more x.what v.sending }

  abbrev pub with_taken : Item T → LineView T → LineView T
  with_taken x v = record v { taken = v.taken ++ x ∷ [] }
