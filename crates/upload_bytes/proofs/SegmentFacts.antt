-- What one more part does to the bytes.
use Rattle.std.proofs.Common.{◌≡◌, ℕ, List, [], ◌∷◌, ◌++◌, sym, ap, ◌∙◌, length, take, Option, Some, None}
use Rattle.std.specs.Prelude.{IfSome, option_map}
use Rattle.std.proofs.lemmas.List.{append-nil, append_assoc}
use Rattle.std.proofs.lemmas.List.Folds.{concat-append}
use Rattle.std.specs.List.{concat}
use Rattle.std.proofs.Math.Seq.{take-length, take-append_seam}
use Rattle.upload_bytes.proofs.Parts.{concat-push}
use Rattle.upload_bytes.specs.Segments.{with_part}

pub concat-with_part : (xs : List (List ℕ)) (x : List ℕ) → concat (with_part xs x) ≡ concat xs ++ x
concat-with_part xs [] = sym (append-nil (concat xs))
concat-with_part xs (b ∷ x) = concat-push xs (b ∷ x)

-- one part more leaves those before it as they were
pub front_of : (xs : List (List ℕ)) (x : List ℕ) → take (length xs) (with_part xs x) ≡ xs
front_of xs [] = take-length xs
front_of xs (b ∷ x) = take-append_seam xs ((b ∷ x) ∷ [])

-- nor do more parts
pub with_more : (xs ys : List (List ℕ)) (x : List ℕ) → take (length xs) (with_part (xs ++ ys) x) ≡ xs
with_more xs ys [] = take-append_seam xs ys
with_more xs ys (b ∷ x) =
    ap (take (length xs)) (append_assoc xs ys ((b ∷ x) ∷ [])) ∙ take-append_seam xs (ys ++ (b ∷ x) ∷ [])

-- what came before, a body's parts and its last one, joined
pub concat-behind : (xs : List (List ℕ)) (ys : List (List ℕ)) (l : List ℕ)
    → concat ((xs ++ ys) ++ l ∷ []) ≡ concat xs ++ (concat ys ++ l)
concat-behind xs ys l = simp (concat-push, concat-append, append_assoc)

-- a body behind segments
pub concat-with_body : (xs ys : List (List ℕ)) (l : List ℕ)
    → concat (with_part (xs ++ ys) l) ≡ concat xs ++ (concat ys ++ l)
concat-with_body xs ys l =
    concat-with_part (xs ++ ys) l ∙ ap (λ x. x ++ l) (concat-append xs ys) ∙ append_assoc (concat xs) (concat ys) l

-- what is known of what an option shows is known of the option
pub of_mapped : {V W : Type 0} (f : V → W) (P : W → Type 0) (o : Option V) → IfSome (option_map f o) P
    → IfSome o (λ v. P (f v))
of_mapped f P None h = tt
of_mapped f P (Some v) h = h

-- and the other way round
pub mapped : {V W : Type 0} (f : V → W) (P : W → Type 0) (o : Option V) → IfSome o (λ v. P (f v))
    → IfSome (option_map f o) P
mapped f P None h = tt
mapped f P (Some v) h = h
