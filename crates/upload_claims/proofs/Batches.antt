-- Records of a batch that are applied one after another.
use Rattle.std.proofs.Common.{◌≡◌, ℕ, ◌<◌, List, [], ◌∷◌, ◌++◌, length, drop, Option, Some, Result, Ok, Err}
use Rattle.std.proofs.Common.{refl, sym, ap, ◌∙◌, append-nil, append_assoc, arith}
use Rattle.std.proofs.lemmas.List.{length-drop}
use Rattle.upload_claims.specs.declared.fault.RecordFault.{RecordFault}
use Rattle.upload_claims.specs.declared.address.Address.{Address}
use Rattle.upload_claims.specs.declared.claimed.Damage.{Damage}
use Rattle.upload_claims.specs.declared.change.Change.{Change}
use Rattle.upload_claims.specs.Claims.{Claims}
use Rattle.upload_claims.specs.Fold.{fold}
use Rattle.upload_claims.specs.Records.{span_of, whole_at, next, and_more, records_in}
use Rattle.upload_claims.specs.Damage.{changes_told, damages}
use Rattle.upload_claims.proofs.Folding.{fold-append}
use Rattle.upload_claims.proofs.Records.{span_long, unrolled}

abbrev Reads : Type 0
Reads = List (Result (List Change) RecordFault)

told_first : (c : Claims) (w : Result (List Change) RecordFault) (ws : Reads)
    → fold (fold c (changes_told (w ∷ []))) (changes_told ws) ≡ fold c (changes_told (w ∷ ws))
told_first c (Ok changes) ws =
    ap (λ xs. fold (fold c xs) (changes_told ws)) (append-nil changes) ∙ sym (fold-append c changes (changes_told ws))
told_first c (Err fault) ws = refl

damaged_first : (front : List Damage) (a : Address) (w : Result (List Change) RecordFault) (ws : Reads)
    → (front ++ damages a (w ∷ [])) ++ damages (next a) ws ≡ front ++ damages a (w ∷ ws)
damaged_first front a (Ok changes) ws = ap (λ xs. xs ++ damages (next a) ws) (append-nil front)
damaged_first front a (Err fault) ws =
    append_assoc front (record { at = a; fault = fault } ∷ []) (damages (next a) ws)

-- what is still to be read after a record
abbrev pub left : Address → List ℕ → Option ℕ → Reads
left a rest o = and_more (records_in (next a)) rest o

first_is : (a : Address) (rest : List ℕ) (o : Option ℕ) → 0 < length rest → span_of rest ≡ o
    → records_in a rest ≡ whole_at a rest ∷ left a rest o
first_is a rest o some e = unrolled a rest some ∙ ap (λ p. whole_at a rest ∷ left a rest p) e

pub claims_on : (c new total : Claims) (a : Address) (rest : List ℕ) (o : Option ℕ) → 0 < length rest
    → span_of rest ≡ o → new ≡ fold c (changes_told (whole_at a rest ∷ []))
    → fold c (changes_told (records_in a rest)) ≡ total → fold new (changes_told (left a rest o)) ≡ total
claims_on c new total a rest o some e is so_far =
    ap (λ d. fold d (changes_told (left a rest o))) is ∙ told_first c (whole_at a rest) (left a rest o)
    ∙ sym (ap (λ ws. fold c (changes_told ws)) (first_is a rest o some e)) ∙ so_far

pub damage_on : (front more total : List Damage) (a : Address) (rest : List ℕ) (o : Option ℕ) → 0 < length rest
    → span_of rest ≡ o → more ≡ front ++ damages a (whole_at a rest ∷ [])
    → front ++ damages a (records_in a rest) ≡ total → more ++ damages (next a) (left a rest o) ≡ total
damage_on front more total a rest o some e is so_far =
    ap (λ ds. ds ++ damages (next a) (left a rest o)) is ∙ damaged_first front a (whole_at a rest) (left a rest o)
    ∙ sym (ap (λ ws. front ++ damages a ws) (first_is a rest o some e)) ∙ so_far

pub fewer : (rest : List ℕ) (span : ℕ) → span_of rest ≡ Some span → length (drop span rest) < length rest
fewer rest span e =
    let long = span_long rest span e in
    omega (arith, length-drop span rest, long.0, long.1)

pub none_left : (a : Address) (rest : List ℕ) → length rest ≡ 0 → records_in a rest ≡ []
unfolding records_in
none_left a [] e = refl
none_left a (b ∷ rest) e = absurd (omega (arith, e))
