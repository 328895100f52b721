-- Which batches have no record.
use Rattle.std.proofs.Common.{◌≡◌, inl, inr, ℕ, ◌<◌, ◌≤◌, Bool, true, false, ◌||◌, eqb, List, [], ◌∷◌, ◌++◌, rules}
use Rattle.std.proofs.Common.{length, take, Some, None, refl, sym, ◌∙◌, ap, arith, length-take}
use Rattle.std.proofs.lemmas.Bool.{cases_Bool, cases_lt, eq-eqb, eqb-true}
use Rattle.journal.specs.Format.{Kept, records, first, is_mark, has_mark}
use Rattle.journal.proofs.Reading.{first_nil, nil_first, records_none, records_some}

more : (done : List Kept) (kept : Kept) → has_mark (done ++ kept ∷ []) ≡ (has_mark done || is_mark kept)
more [] kept = elim (is_mark kept) as (λ b. (b || false) ≡ (false || b)) [ true ↦ refl | false ↦ refl ]
more (k ∷ done) kept = search (rules, arith, more done kept)

no_mark : (time : ℕ) (bytes : List ℕ) → 0 < length bytes → is_mark (time, records bytes) ≡ false
no_mark time bytes some =
    elim (first bytes) as (λ r. first bytes ≡ r → is_mark (time, records bytes) ≡ false) [
      | None ↦ λ none. absurd (omega (arith, some, ap length (nil_first bytes none)))
      | Some found ↦ λ is. ap (λ rs. is_mark (time, rs)) (records_some bytes found is)
    ] refl

pub marked_more : (marked : Bool) (time len : ℕ) (done : List Kept) (bytes : List ℕ) → marked ≡ has_mark done → len ≤
    length bytes
    → (marked || eqb len 0) ≡ has_mark (done ++ (time, records (take len bytes)) ∷ [])
marked_more marked time len done bytes is fits =
    elim (cases_Bool (eqb len 0)) [
      | inl none ↦
          ap (λ (b : Bool). marked || b) none ∙ ap (λ (b : Bool). b || true) is
          ∙ ap (λ (b : Bool). has_mark done || b)
          (sym (ap (λ n. is_mark (time, records (take n bytes))) (eqb-true len 0 none)
          ∙ ap (λ rs. is_mark (time, rs)) (records_none [] first_nil)))
          ∙ sym (more done (time, records (take len bytes)))
      | inr not ↦
          let some : 0 < len = elim (cases_lt 0 len) [
            | inl some ↦ some
            | inr none ↦ absurd (cc (sym (eq-eqb len 0 (omega (arith, none))) ∙ not))
          ] in
          ap (λ (b : Bool). marked || b) not ∙ ap (λ (b : Bool). b || false) is
          ∙ ap (λ (b : Bool). has_mark done || b)
          (sym (no_mark time (take len bytes) (omega (arith, length-take len bytes, fits, some))))
          ∙ sym (more done (time, records (take len bytes)))
    ]
