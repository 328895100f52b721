-- A file that is read piece by piece.
use Rattle.std.proofs.lemmas.Grind.{common_steps}
use Rattle.std.proofs.Common.{◌≡◌, ℕ, ◌+◌, ◌-◌, ◌≤◌, List, ◌++◌, length, take, drop, Option, Some, rules}
use Rattle.std.proofs.Common.{subst, arith, append_assoc, length-append, length-take, length-drop}
use Rattle.std.proofs.lemmas.List.{take-take, drop-take, take-append-drop}
use Rattle.bodies.specs.Shelf.{IsPiece}

-- so far these bytes were put behind the first, and if no wrong answer was taken as true, the file begins with them
pub record Came (file : Option (List ℕ)) (clean : Type 0) (first now : List ℕ) : Type 0 where
  pub rest : List ℕ
  pub is : now ≡ first ++ rest
  pub front : clean → (bytes : List ℕ) → file ≡ Some bytes → (rest ≡ take (length rest) bytes)
      × (length rest ≤ length bytes)

take_then : (n m : ℕ) (file : List ℕ) → take n file ++ take m (drop n file) ≡ take (n + m) file
take_then n m file =
    cc (take-take n (n + m) file (omega arith), drop-take n m file, take-append-drop n (take (n + m) file))

one_more : (file rest piece : List ℕ) → rest ≡ take (length rest) file → length rest ≤ length file
    → piece ≡ take (length piece) (drop (length rest) file)
    → (rest ++ piece ≡ take (length (rest ++ piece)) file) × (length (rest ++ piece) ≤ length file)
one_more file rest piece front short is = search (rules, arith, length-take, length-drop, length-append, take_then)

piece_of : (file : Option (List ℕ)) (at n : ℕ) (piece bytes : List ℕ) → IsPiece file at n piece → file ≡ Some bytes
    → IsPiece (Some bytes) at n piece
piece_of file at n piece bytes is e = subst (λ f. IsPiece f at n piece) e is

pub came_more : (file later : Option (List ℕ)) (clean cleaner : Type 0) (first now piece next : List ℕ) (at n : ℕ)
    → Came file clean first now → (cleaner → clean) → later ≡ file → at ≡ length now - length first
    → (cleaner → IsPiece file at n piece) → next ≡ now ++ piece → Came later cleaner first next
came_more file later clean cleaner first now piece next at n came was same place is added =
    grind (arith, common_steps, length-append, append_assoc, piece_of, one_more)
