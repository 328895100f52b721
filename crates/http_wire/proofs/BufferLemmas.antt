-- The window of a read buffer.
use Rattle.std.proofs.Common.{◌≡◌, ℕ, ◌+◌, ◌-◌, ◌≤◌, List, [], ◌++◌, length, take, drop, slice_range, sym, ap, ◌∙◌}
use Rattle.std.proofs.Common.{arith, length-take, length-drop, rules}
use Rattle.std.specs.List.{copy_within}
use Rattle.std.specs.Prelude.{Vec}
use Rattle.std.specs.declared.alloc.Global.{Global}
use Rattle.http_wire.specs.declared.input.ReadBuffer.TheInside.{Inside}
use Rattle.std.proofs.lemmas.List.{drop-take, drop-append-le, drop-drop, take-append-le}
use Rattle.std.proofs.lemmas.List.Edits.{take-paste}
use Rattle.std.proofs.Math.Seq.{take-append-add}

pub range_is : (xs : List ℕ) (a b : ℕ) → a ≤ b → slice_range xs a b ≡ drop a (take b xs)
range_is xs a b le =
    let whole : a + (b - a) ≡ b = omega arith in
    sym (ap (λ n. drop a (take n xs)) (sym whole) ∙ drop-take a (b - a) xs)

-- behind the window came more bytes
pub grown : (old new given : List ℕ) (start end n : ℕ) → start ≤ end → end ≤ length old
    → take (end + n) new ≡ take end old ++ given → slice_range new start (end + n) ≡ slice_range old start end ++ given
grown old new given start end n le fits more = search (rules, arith, range_is, drop-append-le, length-take)

-- the window moved to the front
pub moved : (xs : List ℕ) (start len : ℕ) → start ≤ len → len ≤ length xs
    → slice_range (copy_within xs start len 0) 0 (len - start) ≡ slice_range xs start len
moved xs start len le fits =
    let same : len - start - 0 ≡ 0 + (len - start) = omega arith in
    ap (λ n. take n (copy_within xs start len 0)) same
    ∙ take-paste xs 0 (drop start xs) (len - start) (omega arith) (omega (arith, length-drop start xs))

pub consumed : (xs : List ℕ) (start end count : ℕ) → start + count ≤ end
    → slice_range xs (start + count) end ≡ drop count (slice_range xs start end)
consumed xs start end count fits = search (rules, arith, range_is, drop-drop)

pub window_length : (xs : List ℕ) (start end : ℕ) → start ≤ end → end ≤ length xs
    → length (slice_range xs start end) ≡ end - start
window_length xs start end le fits = omega (arith, length-take (end - start) (drop start xs), length-drop start xs)

-- a read behind the first bytes
pub read_on : (old got after : List ℕ) (end n : ℕ) → end ≤ length old → n ≤ length got
    → take (end + n) (take end old ++ (got ++ after)) ≡ take end old ++ take n got
read_on old got after end n fits few = search (rules, arith, length-take, take-append-add, take-append-le)

pub read_nothing : (old more : List ℕ) (end : ℕ) → end ≤ length old
    → take (end + 0) (take end old ++ more) ≡ take end old ++ []
read_nothing old more end fits =
    let len : length (take end old) ≡ end = omega (arith, length-take end old) in
    ap (λ k. take (k + 0) (take end old ++ more)) (sym len) ∙ take-append-add (take end old) more 0

-- the buffer's fields, if its window has these bytes
pub record IsWindow (x : Inside) (held : List ℕ) : Type 0 where
  pub window : slice_range x.bytes.items x.start x.end ≡ held
  pub order : x.start ≤ x.end
  pub fits : x.end ≤ 65536
  pub whole : length x.bytes.items ≡ 65536

-- the window after the bytes moved to the front
pub moved_window : (x : Inside) (bytes : Vec ℕ Global) (held : List ℕ) → IsWindow x held → x.end ≡ 65536
    → bytes.items ≡ copy_within x.bytes.items x.start 65536 0 → length bytes.items ≡ 65536
    → IsWindow (record { bytes = bytes; start = 0; end = x.end - x.start }) held
moved_window x bytes held at full items whole = search (rules, arith, slice_range, moved)

-- the window after a read behind it
pub window_grows : (x : Inside) (held new given : List ℕ) (n : ℕ) → IsWindow x held
    → take (x.end + n) new ≡ take x.end x.bytes.items ++ given → slice_range new x.start (x.end + n) ≡ held ++ given
window_grows x held new given n at more = search (rules, arith, grown)

-- the window if the first bytes stayed
pub window_stays : (x : Inside) (held new : List ℕ) → IsWindow x held → take x.end new ≡ take x.end x.bytes.items
    → slice_range new x.start x.end ≡ held
window_stays x held new at same =
    cc (range_is new x.start x.end at.order, range_is x.bytes.items x.start x.end at.order)
