-- Texts cut behind a prefix, and written behind one.
use Rattle.std.proofs.Common.{rules}
use Rattle.std.proofs.Common.{◌≡◌, ◌≢◌, ℕ, ◌+◌, ◌-◌, List, ◌++◌, length, take, drop, true, false, length-take-le}
use Rattle.std.proofs.Common.{Option, Some, None, Result, Ok, Err, sym, ap, ◌∙◌, arith, length-append, Bor}
use Rattle.std.specs.Prelude.{MatchOption, IsOk, OnOk, nat_eq}
use Rattle.std.proofs.lemmas.Bool.{true≢false}
use Rattle.std.proofs.lemmas.List.{append-nil, take_at, drop_at, drop_all, length-drop, take-append-drop}
use Rattle.std.specs.Cmp.Lexicographic.{pointwise}
use borrow.Rule.Slice.PartMut.{put_mid}

-- what a search for a prefix found
pub behind_found : (text prefix : List ℕ) (r : Option (Bor (List ℕ)))
    → MatchOption r (pointwise nat_eq (take (length prefix) text) prefix ≡ false)
    (λ x. (pointwise nat_eq (take (length prefix) text) prefix ≡ true) × (x.now ≡ drop (length prefix) text)
    × (length x.now + length prefix ≡ length text))
    → MatchOption r ((rest : List ℕ) → text ≢ prefix ++ rest) (λ x. text ≡ prefix ++ x.now)
behind_found text prefix None h = search (rules, arith, take_at)
behind_found text prefix (Some x) h = search (rules, arith, take-append-drop)

-- a text written behind a prefix of seven bytes, to the end of the room
pub put_behind : (prefix front rest text out : List ℕ) → front ≡ prefix → length prefix ≡ 7 → out ≡ text
    → put_mid 7 (length (front ++ rest) - 7) (front ++ rest) out ≡ prefix ++ text
put_behind prefix front rest text out is_front seven is_text =
    let whole = length-append front rest in
    let left = length-drop 7 (front ++ rest) in
    cc (
      take_at front rest 7 (ap length is_front ∙ seven),
      drop_all (length (front ++ rest) - 7) (drop 7 (front ++ rest)) (omega (arith, left)),
      append-nil out,
    )

-- the room behind a prefix of seven bytes
pub room_behind : (front text : List ℕ) (room : ℕ) → length front ≡ 7 → length text ≡ 7 + room
    → length (take (length (front ++ drop 7 text) - 7) (drop 7 (front ++ drop 7 text))) ≡ room
room_behind front text room seven long = search (rules, arith, length-append, length-drop, drop_at, length-take-le)

pub where_ok : {T E P : Type 0} (r : Result T E) → IsOk r → OnOk r P → P
where_ok (Ok x) is h = h
where_ok (Err e) is h = absurd (true≢false (sym is))
