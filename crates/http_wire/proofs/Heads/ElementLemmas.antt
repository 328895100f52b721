-- The elements of a value, one after another.
use Rattle.std.proofs.Common.{◌≡◌, ◌≢◌, ℕ, zero, suc, ◌<◌, cond, List, [], ◌∷◌, map, length, get_or, take, drop, refl}
use Rattle.std.proofs.Common.{ap, ◌∙◌, arith}
use Rattle.std.proofs.lemmas.Bool.{eq-eqb, ne_eqb}
use Rattle.httparse.specs.Grammar.{trim_ows}
use Rattle.form_urlencoded.specs.Form.{split, onto_first}
use Rattle.http_wire.specs.Fields.{elements}

-- the first piece ends at the first comma
split_at : (xs : List ℕ) (i : ℕ) → i < length xs → get_or xs i 0 ≡ 44 → ((k : ℕ) → k < i → get_or xs k 0 ≢ 44)
    → split 44 xs ≡ take i xs ∷ split 44 (drop (suc i) xs)
unfolding split
split_at [] i inside comma before = absurd (omega arith)
split_at (b ∷ bs) zero inside comma before = cc (eq-eqb b 44 comma)
split_at (b ∷ bs) (suc i) inside comma before =
    ap (λ t. cond t ([] ∷ split 44 bs) (onto_first b (split 44 bs))) (ne_eqb b 44 (before 0 (omega arith)))
    ∙ ap (onto_first b) (split_at bs i (omega arith) comma (λ k below. before (suc k) (omega arith)))

split_whole : (xs : List ℕ) → ((k : ℕ) → k < length xs → get_or xs k 0 ≢ 44) → split 44 xs ≡ xs ∷ []
unfolding split
split_whole [] none = refl
split_whole (b ∷ bs) none =
    ap (λ t. cond t ([] ∷ split 44 bs) (onto_first b (split 44 bs))) (ne_eqb b 44 (none 0 (omega arith)))
    ∙ ap (onto_first b) (split_whole bs (λ k below. none (suc k) (omega arith)))

pub elements_at : (xs : List ℕ) (i : ℕ) → i < length xs → get_or xs i 0 ≡ 44 → ((k : ℕ) → k < i → get_or xs k 0 ≢ 44)
    → elements xs ≡ trim_ows (take i xs) ∷ elements (drop (suc i) xs)
elements_at xs i inside comma before = ap (map trim_ows) (split_at xs i inside comma before)

pub elements_whole : (xs : List ℕ) → ((k : ℕ) → k < length xs → get_or xs k 0 ≢ 44) → elements xs ≡ trim_ows xs ∷ []
elements_whole xs none = ap (map trim_ows) (split_whole xs none)
