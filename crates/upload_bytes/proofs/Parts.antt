-- What one more part does to the bytes of parts.
use Rattle.std.proofs.Common.{◌≡◌, ℕ, zero, suc, ◌+◌, ◌-◌, ◌<◌, List, [], ◌∷◌, ◌++◌, length, take, drop, get_or}
use Rattle.std.proofs.Common.{refl, ◌∙◌, ap, arith, rules}
use Rattle.std.proofs.lemmas.List.{append-nil, append_assoc, take-append-drop, take_rest}
use Rattle.std.proofs.lemmas.List.Folds.{concat-append}
use Rattle.std.specs.List.{concat}

pub concat-push : (xs : List (List ℕ)) (x : List ℕ) → concat (xs ++ x ∷ []) ≡ concat xs ++ x
concat-push xs x = concat-append xs (x ∷ []) ∙ ap (λ r. concat xs ++ r) (append-nil x)

-- one more of them is taken
pub take_next : (xs : List (List ℕ)) (i : ℕ) (d : List ℕ) → i < length xs
    → take (i + 1) xs ≡ take i xs ++ get_or xs i d ∷ []
take_next [] i d lt = absurd (omega arith)
take_next (x ∷ xs) zero d lt = refl
take_next (x ∷ xs) (suc i) d lt = search (rules, arith, take_next xs i d (omega arith))

-- the next part comes behind those that were taken
pub concat-take_next : (xs : List (List ℕ)) (i : ℕ) (d : List ℕ) → i < length xs
    → concat (take (i + 1) xs) ≡ concat (take i xs) ++ get_or xs i d
concat-take_next [] i d lt = absurd (omega arith)
concat-take_next (x ∷ xs) zero d lt = append-nil x
concat-take_next (x ∷ xs) (suc i) d lt = search (rules, arith, append_assoc, concat-take_next xs i d (omega arith))

-- the parts that were taken, and the rest as a slice behind them
pub concat-take_rest : (i : ℕ) (xs : List (List ℕ))
    → concat (take i xs) ++ concat (take (length xs - i) (drop i xs)) ≡ concat xs
concat-take_rest i xs = cc (take_rest xs i, concat-append (take i xs) (drop i xs), take-append-drop i xs)
