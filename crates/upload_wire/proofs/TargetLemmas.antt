-- Texts cut at their last slash.
use Rattle.std.proofs.lemmas.Grind.{common_steps}
use Rattle.std.proofs.Common.{◌≡◌, ◌≢◌, ℕ, ◌+◌, ◌-◌, ◌<◌, ◌≤◌, List, [], ◌∷◌, ◌++◌, length, get_or, take, drop, refl}
use Rattle.std.proofs.Common.{sym, ap, ◌∙◌, arith, append_assoc, length-append, drop-cons, add-one, rules}
use Rattle.std.proofs.lemmas.List.{take-append-drop}
use Rattle.std.proofs.Math.Seq.{take-append_seam, drop-append_seam}
use Rattle.std.specs.Borrow.{Bor}
use Rattle.std.proofs.lemmas.Slice.Eq.{bytes_eq-Decides}
use Rattle.http_wire.proofs.Heads.FieldLemmas.{not_both}
use Rattle.std.proofs.Common.{true, false}
use Rattle.std.specs.Prelude.{Option, Some, None, MatchOption, bytes_eq}
use Rattle.upload_wire.specs.declared.asks.PathForm.TheVariants.{NoForm}
use Rattle.upload_wire.specs.Target.{HasNoSlash, IsFormOf}

-- the text, cut at an index
drop-next : (t : List ℕ) (k : ℕ) → k < length t → drop k t ≡ get_or t k 0 ∷ drop (k + 1) t
drop-next t k lt = drop-cons t k 0 lt ∙ ap (λ n. get_or t k 0 ∷ drop n t) (sym (add-one k))

pub cut_at : (text : List ℕ) (i : ℕ) → i < length text → get_or text i 0 ≡ 47
    → text ≡ take i text ++ 47 ∷ drop (i + 1) text
cut_at text i lt same = cc (take-append-drop i text, drop-next text i lt)

-- a slash stands between two texts
slash_between : (c d : List ℕ) → get_or (c ++ 47 ∷ d) (length c) 0 ≡ 47
slash_between [] d = refl
slash_between (x ∷ c) d = slash_between c d

not_after : (b c d : List ℕ) → HasNoSlash b → b ≡ c ++ 47 ∷ d → ⊥
not_after b c d none e =
    let l = ap length e in
    none (length c) (omega (arith, l, length-append c (47 ∷ d))) (ap (λ t. get_or t (length c) 0) e ∙ slash_between c d)

-- a text has one last slash
pub cut_unique : (a b c d : List ℕ) → HasNoSlash b → HasNoSlash d → a ++ 47 ∷ b ≡ c ++ 47 ∷ d → (a ≡ c) × (b ≡ d)
cut_unique [] b [] d none other e = (refl, cc)
cut_unique [] b (y ∷ c) d none other e =
    let tail : b ≡ c ++ 47 ∷ d = cc in absurd (not_after b c d none tail)
cut_unique (x ∷ a) b [] d none other e =
    let tail : d ≡ a ++ 47 ∷ b = cc in absurd (not_after d a b other tail)
cut_unique (x ∷ a) b (y ∷ c) d none other e = search (rules, arith, cut_unique a b c d none other)

pub after_taken : (text prefix : List ℕ) → take (length prefix) text ≡ prefix
    → text ≡ prefix ++ drop (length prefix) text
after_taken text prefix same = cc (take-append-drop (length prefix) text)

pub not_after_prefix : (text prefix rest : List ℕ) → (take (length prefix) text ≡ prefix → ⊥) → text ≢ prefix ++ rest
not_after_prefix text prefix rest other e = other (ap (take (length prefix)) e ∙ take-append_seam prefix rest)

pub before_taken : (text suffix : List ℕ) → length suffix ≤ length text
    → drop (length text - length suffix) text ≡ suffix → text ≡ take (length text - length suffix) text ++ suffix
before_taken text suffix le same = cc (take-append-drop (length text - length suffix) text)

pub not_before_suffix : (text suffix front : List ℕ) → (drop (length text - length suffix) text ≡ suffix → ⊥)
    → text ≢ front ++ suffix
not_before_suffix text suffix front other e = grind (arith, common_steps, length-append, drop-append_seam)

pub after_found : (text prefix : List ℕ) (r : Option (Bor (List ℕ)))
    → MatchOption r (bytes_eq (take (length prefix) text) prefix ≡ false)
    (λ x. (bytes_eq (take (length prefix) text) prefix ≡ true) × (x.now ≡ drop (length prefix) text)
    × (length x.now + length prefix ≡ length text))
    → MatchOption r ((rest : List ℕ) → text ≢ prefix ++ rest) (λ x. text ≡ prefix ++ x.now)
after_found text prefix None h = search (rules, arith, not_after_prefix, not_both, bytes_eq-Decides)
after_found text prefix (Some x) h = search (rules, arith, after_taken, bytes_eq-Decides)

pub before_found : (text suffix : List ℕ) (r : Option (Bor (List ℕ)))
    → MatchOption r (bytes_eq (drop (length text - length suffix) text) suffix ≡ false)
    (λ x. (bytes_eq (drop (length text - length suffix) text) suffix ≡ true)
    × (x.now ≡ take (length text - length suffix) text) × (length x.now + length suffix ≡ length text))
    → MatchOption r ((front : List ℕ) → text ≢ front ++ suffix) (λ x. text ≡ x.now ++ suffix)
before_found text suffix None h = search (rules, arith, not_before_suffix, not_both, bytes_eq-Decides)
before_found text suffix (Some x) h = search (rules, arith, before_taken, bytes_eq-Decides)

-- ---- no form

-- a text that begins with "/v2/" and has neither end has no form
pub no_form_with : (path rest front tail : List ℕ) → path ≡ 47 ∷ 118 ∷ 50 ∷ 47 ∷ rest → rest ≡ front ++ 47 ∷ tail
    → HasNoSlash tail
    → ((x : List ℕ) → front ≢ x ++ (47 ∷ 98 ∷ 108 ∷ 111 ∷ 98 ∷ 115 ∷ 47 ∷ 117 ∷ 112 ∷ 108 ∷ 111 ∷ 97 ∷ 100 ∷ 115 ∷ []))
    → ((x : List ℕ) → front ≢ x ++ (47 ∷ 98 ∷ 108 ∷ 111 ∷ 98 ∷ 115 ∷ [])) → IsFormOf path NoForm
no_form_with path rest front tail p r none not_uploads not_blobs = (
  λ e. let same : rest ≡ [] = cc in
      let l = ap length (sym same ∙ r) in omega (arith, l, length-append front (47 ∷ tail)),
  λ name other clear e.
      let same : rest ≡ name ++ (47 ∷ 98 ∷ 108 ∷ 111 ∷ 98 ∷ 115 ∷ 47 ∷ other) = cc in
      not_blobs name (cut_unique front tail (name ++ (47 ∷ 98 ∷ 108 ∷ 111 ∷ 98 ∷ 115 ∷ [])) other none clear
      (sym r ∙ same ∙ sym (append_assoc name (47 ∷ 98 ∷ 108 ∷ 111 ∷ 98 ∷ 115 ∷ []) (47 ∷ other)))).0,
  λ name other clear e.
      let same : rest
      ≡ name ++ (47 ∷ 98 ∷ 108 ∷ 111 ∷ 98 ∷ 115 ∷ 47 ∷ 117 ∷ 112 ∷ 108 ∷ 111 ∷ 97 ∷ 100 ∷ 115 ∷ 47 ∷ other) =
      cc in
      not_uploads name (cut_unique front tail
      (name ++ (47 ∷ 98 ∷ 108 ∷ 111 ∷ 98 ∷ 115 ∷ 47 ∷ 117 ∷ 112 ∷ 108 ∷ 111 ∷ 97 ∷ 100 ∷ 115 ∷ [])) other none clear
      (sym r ∙ same ∙ sym (append_assoc name
      (47 ∷ 98 ∷ 108 ∷ 111 ∷ 98 ∷ 115 ∷ 47 ∷ 117 ∷ 112 ∷ 108 ∷ 111 ∷ 97 ∷ 100 ∷ 115 ∷ []) (47 ∷ other)))).0,
)

-- and so has one that has no slash behind "/v2/"
pub no_form_without : (path rest : List ℕ) → path ≡ 47 ∷ 118 ∷ 50 ∷ 47 ∷ rest → 0 < length rest → HasNoSlash rest
    → IsFormOf path NoForm
no_form_without path rest p some none = (
  λ e. let same : rest ≡ [] = cc in let l = ap length same in omega (arith, l, some),
  λ name other clear e.
      let same : rest ≡ name ++ (47 ∷ 98 ∷ 108 ∷ 111 ∷ 98 ∷ 115 ∷ 47 ∷ other) = cc in
      not_after rest name (98 ∷ 108 ∷ 111 ∷ 98 ∷ 115 ∷ 47 ∷ other) none same,
  λ name other clear e.
      let same : rest
      ≡ name ++ (47 ∷ 98 ∷ 108 ∷ 111 ∷ 98 ∷ 115 ∷ 47 ∷ 117 ∷ 112 ∷ 108 ∷ 111 ∷ 97 ∷ 100 ∷ 115 ∷ 47 ∷ other) =
      cc in
      not_after rest name
      (98 ∷ 108 ∷ 111 ∷ 98 ∷ 115 ∷ 47 ∷ 117 ∷ 112 ∷ 108 ∷ 111 ∷ 97 ∷ 100 ∷ 115 ∷ 47 ∷ other) none same,
)
