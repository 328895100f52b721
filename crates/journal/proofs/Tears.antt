-- What several writes leave together.
use Rattle.std.proofs.Common.{◌≡◌, ℕ, ◌+◌, ◌<◌, ◌≤◌, inl, inr, List, [], ◌++◌, length, take, rules}
use Rattle.std.proofs.Common.{sym, ◌∙◌, ap, subst, arith, length-append, length-take, get_or-take}
use Rattle.std.proofs.lemmas.Bool.{cases_lt}
use Rattle.std.proofs.lemmas.List.{append-nil, nil_from_length, get_or_append_left, get_or-append_right}
use Rattle.sqlite_disk.specs.Disk.{Holds, Torn, Follows}

-- a write that lies within a wider range
pub torn_wider : (a k at n : ℕ) (old new : List ℕ) → a ≤ at → at + n ≤ a + k → Torn at n old new → Torn a k old new
torn_wider a k at n old new from to torn = omega arith

pub torn_both : (a k : ℕ) (old mid new : List ℕ) → Torn a k old mid → Torn a k mid new → Torn a k old new
torn_both a k old mid new one two = omega arith

pub follows_wider : (a k at n : ℕ) (P Q : List ℕ → Type 0) → a ≤ at → at + n ≤ a + k → Follows (Torn at n) P Q →
    Follows (Torn a k) P Q
follows_wider a k at n P Q from to follows c left = search (rules, arith, torn_wider)

pub follows_both : (a k : ℕ) (P Q R : List ℕ → Type 0) → Follows (Torn a k) P Q → Follows (Torn a k) Q R → Follows
    (Torn a k) P R
follows_both a k P Q R one two c left = search (rules, arith, torn_both)

-- bytes before the range of a later write
pub holds_still : (at b m : ℕ) (bytes old new : List ℕ) → at + length bytes ≤ b → Torn b m old new → Holds old at
    bytes → Holds new at bytes
holds_still at b m bytes old new before torn holds = omega arith

pub holds_front : (file : List ℕ) (at : ℕ) (bytes : List ℕ) (n : ℕ) → Holds file at bytes → Holds file at (take n bytes)
holds_front file at bytes n holds = omega (arith, length-take n bytes, get_or-take n bytes)

pub holds_both : (file : List ℕ) (at : ℕ) (one two : List ℕ) → Holds file at one → Holds file (at + length one) two →
    Holds file at (one ++ two)
holds_both file at one two first second =
    search (rules, arith, length-append, cases_lt, get_or_append_left, get_or-append_right)

-- two writes, one behind the other, each of which may be of nothing
pub joined : (at b k : ℕ) (bytes one two mid new : List ℕ) → bytes ≡ one ++ two → (0 < length one → Holds mid at one)
    → at + length one ≤ b → (0 < length two → b ≡ at + length one) → Torn b k mid new →
    (0 < length two → Holds new b two) → 0 < length bytes → Holds new at bytes
joined at b k bytes one two mid new is first before meets torn second some =
    subst (λ (l : List ℕ). Holds new at l) (sym is) (elim (cases_lt 0 (length one)) [
      | inl has ↦
          let kept = holds_still at b k one mid new before torn (first has) in
          elim (cases_lt 0 (length two)) [
            | inl more ↦ holds_both new at one two kept (subst (λ (n : ℕ). Holds new n two) (meets more) (second more))
            | inr none ↦ subst (λ (l : List ℕ). Holds new at l)
                (sym (ap (λ (l : List ℕ). one ++ l) (nil_from_length two (omega arith)) ∙ append-nil one)) kept
          ]
      | inr none ↦
          let empty : one ≡ [] = nil_from_length one (omega arith) in
          let more : 0 < length two = omega (arith, ap length is, length-append one two) in
          let here : b ≡ at = omega (arith, meets more) in
          subst (λ (l : List ℕ). Holds new at l) (sym (ap (λ (l : List ℕ). l ++ two) empty))
          (subst (λ (n : ℕ). Holds new n two) here (second more))
    ])
