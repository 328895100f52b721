-- What stands behind a prefix of a text.
use Rattle.std.proofs.lemmas.Grind.{common_steps}
use Rattle.std.proofs.Common.{◌≡◌, ◌≢◌, ℕ, Bool, true, false, List, ◌++◌, length, drop, refl, ◌∙◌, arith}
use Rattle.std.proofs.Common.{append_assoc, if◌then◌else◌, rules}
use Rattle.std.specs.Prelude.{Option, Some, None, option_and_then, nat_eq}
use Rattle.std.specs.List.{starts_with}
use Rattle.std.proofs.lemmas.Bool.{false≢true}
use Rattle.std.proofs.lemmas.Bool.Decides.{Decides-eqb}
use Rattle.std.proofs.lemmas.Slice.Eq.{starts_is}
use Rattle.std.proofs.lemmas.List.{append_cancel_left}
use Rattle.upload_client.specs.Heard.{after_front}

-- what stands behind the prefix, or that the text hasn't that prefix
abbrev pub IsAfter : List ℕ → List ℕ → Option (List ℕ) → Type 0
IsAfter front text None = (rest : List ℕ) → text ≢ front ++ rest
IsAfter front text (Some rest) = text ≡ front ++ rest

decided : (front text : List ℕ) (b : Bool) → b ≡ starts_with nat_eq text front
    → IsAfter front text (if b then Some (drop (length front) text) else None)
decided front text true e = (starts_is Decides-eqb text front true e).0 refl
decided front text false e = λ rest cut. false≢true ((starts_is Decides-eqb text front false e).1 rest cut)

pub after_front_is : (front text : List ℕ) → IsAfter front text (after_front front text)
after_front_is front text = decided front text (starts_with nat_eq text front) refl

pub IsAfter-unique : (front text : List ℕ) (o p : Option (List ℕ)) → IsAfter front text o → IsAfter front text p → o ≡ p
IsAfter-unique front text o p h k = search (rules, arith, append_cancel_left)

then_after : (a b text : List ℕ) (m : Option (List ℕ)) → IsAfter a text m
    → IsAfter (a ++ b) text (option_and_then (after_front b) m)
then_after a b text None h = λ rest cut. h (b ++ rest) (cut ∙ append_assoc a b rest)
then_after a b text (Some m) h = search (rules, arith, after_front_is, append_cancel_left, append_assoc)

-- a prefix of two parts is taken one part after the other
pub after_front-append : (a b text : List ℕ)
    → after_front (a ++ b) text ≡ option_and_then (after_front b) (after_front a text)
after_front-append a b text = search (rules, arith, IsAfter-unique, after_front_is, then_after)

pub after_front-front : (front rest : List ℕ) → after_front front (front ++ rest) ≡ Some rest
after_front-front front rest = grind (arith, common_steps, IsAfter-unique, after_front_is)
