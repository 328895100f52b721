-- Changes that are read one after another, as a loop reads them.
use Rattle.std.proofs.Common.{◌≡◌, ℕ, suc, ◌-◌, ◌+◌, ◌≤◌, ◌<◌, List, [], ◌∷◌, ◌++◌, Ok, Err, refl, sym, ap, ◌∙◌}
use Rattle.std.proofs.Common.{append_assoc, arith, rules}
use Rattle.std.proofs.lemmas.List.{append-nil}
use Rattle.upload_claims.specs.declared.fault.ReadError.{ReadError}
use Rattle.upload_claims.specs.declared.fault.ReadError.TheVariants as errors
use Rattle.upload_claims.specs.declared.change.Change.{Change}
use Rattle.upload_claims.specs.Fields.{◌>>=◌, Read, Fails}
use Rattle.upload_claims.specs.Texts.{change_at, changes_at}

-- the changes that were read before, and those that are still to be read
abbrev pub with_front : List Change → Read (List Change) → Read (List Change)
with_front front read = read >>= λ x. Ok (front ++ x.0, x.1)

regroup : (front : List Change) (change : Change) (read : Read (List Change))
    → with_front front (read >>= λ x. Ok (change ∷ x.0, x.1)) ≡ with_front (front ++ change ∷ []) read
regroup front change (Ok x) = ap (λ (changes : List Change). Ok (changes, x.1)) (simp append_assoc)
regroup front change (Err fault) = refl

pub goes_on : (front : List Change) (count i : ℕ) (bytes : List ℕ) (change : Change) (after : List ℕ)
    (total : Read (List Change)) → i < count → change_at bytes ≡ Ok (change, after)
    → with_front front (changes_at (count - i) bytes) ≡ total
    → with_front (front ++ change ∷ []) (changes_at (count - (i + 1)) after) ≡ total
unfolding changes_at
goes_on front count i bytes change after total lt h so_far =
    let k : count - i ≡ suc (count - (i + 1)) = omega arith in
    let one : with_front front (changes_at (count - i) bytes)
    ≡ with_front (front ++ change ∷ []) (changes_at (count - (i + 1)) after) =
    rw (k, h) (regroup front change (changes_at (count - (i + 1)) after)) in
    sym one ∙ so_far

pub ends : (e : ReadError) (front : List Change) (count i : ℕ) (bytes : List ℕ) (total : Read (List Change))
    → i < count → Fails e (change_at bytes) → with_front front (changes_at (count - i) bytes) ≡ total → Fails e total
unfolding changes_at
ends errors.NoMemory front count i bytes total lt h so_far = tt
ends (errors.Fault fault) front count i bytes total lt h so_far =
    let k : count - i ≡ suc (count - (i + 1)) = omega arith in
    let one : with_front front (changes_at (count - i) bytes) ≡ Err fault = rw (k, h) refl in
    sym so_far ∙ one

pub is_done : (front : List Change) (count i : ℕ) (bytes : List ℕ) (total : Read (List Change)) → count ≤ i
    → with_front front (changes_at (count - i) bytes) ≡ total → total ≡ Ok (front, bytes)
unfolding changes_at
is_done front count i bytes total le so_far = search (rules, arith, append-nil)
