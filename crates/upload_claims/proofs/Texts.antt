-- Changes are read back.
use Rattle.std.proofs.Common.{◌≡◌, ℕ, cond, eqb, List, [], ◌∷◌, ◌++◌, length, Ok, Err, refl, sym, ap, ◌∙◌, append-nil}
use Rattle.std.proofs.Common.{append_assoc}
use Rattle.std.specs.List.{AllByRecursion, flat_map}
use Rattle.std.specs.Int.{w32, w64}
use Rattle.std.proofs.lemmas.List.Concat.{flat_map-cons}
use Rattle.upload_claims.specs.declared.fault.RecordFault.TheVariants.{Trailing}
use Rattle.upload_claims.specs.declared.change.Change.{Change}
use Rattle.upload_claims.specs.declared.change.Change.TheVariants.{NumbersUpTo, MomentsUpTo, LapsedBefore, Began, Took}
use Rattle.upload_claims.specs.declared.change.Change.TheVariants.{Seen, Closed, Stored, Laid, Joined, Has}
use Rattle.upload_claims.specs.Fields.{◌>>=◌, both, number_at, name_at, digest_at, reference_at, stretch_at}
use Rattle.upload_claims.specs.Texts.{change_text, changes_text, IsChange, began_at, took_at, seen_at, closed_at}
use Rattle.upload_claims.specs.Texts.{stored_at, joined_at, has_at, fields_at, change_at, changes_at, changes_of}
use Rattle.upload_claims.proofs.Exact.{both_again, made_again, number32, number64}
use Rattle.upload_claims.proofs.Values.{name_again, digest_again, reference_again, stretch_again}

again : (change : Change) (rest : List ℕ) → IsChange change → change_at (change_text change ++ rest) ≡ Ok (change, rest)
unfolding change_at fields_at began_at took_at seen_at closed_at stored_at joined_at has_at
again (NumbersUpTo n) rest h = made_again NumbersUpTo (number_at w32) _ _ number32 n rest h
again (MomentsUpTo m) rest h = made_again MomentsUpTo (number_at w64) _ _ number64 m rest h
again (LapsedBefore m) rest h = made_again LapsedBefore (number_at w64) _ _ number64 m rest h
again (Began at name now) rest h =
    made_again (λ p. Began p.0 p.1.0 p.1.1) (both reference_at (both name_at (number_at w64))) _ _
    (both_again _ _ _ _ _ _ reference_again (both_again _ _ _ _ _ _ name_again number64)) (at, (name, now)) rest h
again (Took at now from s) rest h =
    made_again (λ p. Took p.0 p.1.0 p.1.1.0 p.1.1.1)
    (both reference_at (both (number_at w64) (both (number_at w64) stretch_at))) _ _
    (both_again _ _ _ _ _ _ reference_again
    (both_again _ _ _ _ _ _ number64 (both_again _ _ _ _ _ _ number64 stretch_again))) (at, (now, (from, s))) rest h
again (Seen at now) rest h =
    made_again (λ p. Seen p.0 p.1) (both reference_at (number_at w64)) _ _
    (both_again _ _ _ _ _ _ reference_again number64) (at, now) rest h
again (Closed at digest end) rest h =
    made_again (λ p. Closed p.0 p.1.0 p.1.1) (both reference_at (both digest_at (number_at w64))) _ _
    (both_again _ _ _ _ _ _ reference_again (both_again _ _ _ _ _ _ digest_again number64)) (at, (digest, end)) rest h
again (Stored digest s) rest h =
    made_again (λ p. Stored p.0 p.1) (both digest_at stretch_at) _ _
    (both_again _ _ _ _ _ _ digest_again stretch_again) (digest, s) rest h
again (Laid digest) rest h = made_again Laid digest_at _ _ digest_again digest rest h
again (Joined digest from s) rest h =
    made_again (λ p. Joined p.0 p.1.0 p.1.1) (both digest_at (both (number_at w64) stretch_at)) _ _
    (both_again _ _ _ _ _ _ digest_again (both_again _ _ _ _ _ _ number64 stretch_again)) (digest, (from, s)) rest h
again (Has name digest) rest h =
    made_again (λ p. Has p.0 p.1) (both name_at digest_at) _ _
    (both_again _ _ _ _ _ _ name_again digest_again) (name, digest) rest h

all_again : (changes : List Change) (rest : List ℕ) → AllByRecursion IsChange changes
    → changes_at (length changes) (flat_map change_text changes ++ rest) ≡ Ok (changes, rest)
unfolding changes_at
all_again [] rest h = refl
all_again (x ∷ xs) rest h =
    ap (changes_at (length (x ∷ xs)))
    (ap (λ text. text ++ rest) (flat_map-cons change_text x xs)
    ∙ append_assoc (change_text x) (flat_map change_text xs) rest)
    ∙ rw (again x (flat_map change_text xs ++ rest) h.0, all_again xs rest h.1) refl

pub changes_again : (changes : List Change) → AllByRecursion IsChange changes
    → changes_of (changes_text changes) ≡ Ok changes
unfolding changes_of
changes_again changes h =
    ap (λ text. changes_at (length changes) text >>= λ x. cond (eqb (length x.1) 0) (Ok x.0) (Err Trailing))
    (sym (append-nil (flat_map change_text changes)))
    ∙ rw (all_again changes [] h) refl
