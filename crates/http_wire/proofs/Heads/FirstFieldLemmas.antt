-- The first field of a name, with one more field behind the others.
use Rattle.std.proofs.Common.{◌≡◌, ℕ, true, false, List, [], ◌∷◌, ◌++◌, refl, sym, ap, ◌∙◌, inl, inr}
use Rattle.std.specs.Prelude.{Option, Some, None}
use Rattle.std.proofs.lemmas.Bool.{cases_Bool}
use Rattle.http_wire.specs.Fields.{Fields, first_of, values_of, same_word}
use Rattle.http_wire.proofs.Heads.FieldLemmas.{values_of-same, values_of-differs}

pub first-none : (values : List (List ℕ)) (value : List ℕ) → None ≡ first_of values
    → first_of (values ++ value ∷ []) ≡ Some value
first-none [] value h = refl
first-none (v ∷ values) value h = absurd (cc)

pub first-some : (values more : List (List ℕ)) (value : List ℕ) → Some value ≡ first_of values
    → first_of (values ++ more) ≡ Some value
first-some [] more value h = absurd (cc)
first-some (v ∷ values) more value h = sym h

pub first-match : (name : List ℕ) (fields : Fields) (f : List ℕ × List ℕ) → None ≡ first_of (values_of name fields)
    → same_word f.0 name ≡ true → Some f.1 ≡ first_of (values_of name (fields ++ f ∷ []))
first-match name fields f none same =
    cc (values_of-same name fields f same, first-none (values_of name fields) f.1 none)

pub first-other : (name : List ℕ) (fields : Fields) (f : List ℕ × List ℕ) (found : Option (List ℕ))
    → found ≡ first_of (values_of name fields) → same_word f.0 name ≡ false
    → found ≡ first_of (values_of name (fields ++ f ∷ []))
first-other name fields f found e differs = e ∙ ap first_of (sym (values_of-differs name fields f differs))

pub first-kept : (name : List ℕ) (fields : Fields) (f : List ℕ × List ℕ) (value : List ℕ)
    → Some value ≡ first_of (values_of name fields) → Some value ≡ first_of (values_of name (fields ++ f ∷ []))
first-kept name fields f value h = elim (cases_Bool (same_word f.0 name)) [
  | inl same ↦
      sym (ap first_of (values_of-same name fields f same) ∙ first-some (values_of name fields) (f.1 ∷ []) value h)
  | inr differs ↦ first-other name fields f (Some value) h differs
]
