-- How a prefix of a chunked text can go on.
use Rattle.std.proofs.Common.{◌≡◌, ℕ, zero, suc, ◌-◌, ◌<◌, ◌≤◌, List, [], ◌∷◌, ◌++◌, length, refl, arith, ◌∙◌, sym, ap}
use Rattle.std.proofs.Common.{subst, append-nil, append_assoc, length-append, inl, inr, rules}
use Rattle.std.proofs.lemmas.List.Elements.{All-nil}
use Rattle.std.proofs.lemmas.Bool.{cases_lt}
use Rattle.std.proofs.lemmas.List.Sums.{AllPass-from_list_all}
use Rattle.std.specs.Str.Parse.{digits_value}
use Rattle.std.specs.Char.{is_ascii_hexdigit}
use Rattle.http_wire.specs.Body.{IsSize, Chunk, IsChunk, IsChunked, IsFrontOfChunked, ExceedsLimit}
use Rattle.http_wire.specs.Inner.SizeLines.{StandsAt}
use Rattle.http_wire.specs.declared.chunked.LineState.{LineState}
use Rattle.http_wire.specs.declared.chunked.LineState.TheVariants.{Digits, Ended}
use Rattle.http_wire.proofs.Bodies.ChunkLemmas.{chunk_more, chunk_flat, empty_of, over_has_line}
use Rattle.http_wire.proofs.Bodies.LineLemmas.{digits_le, stops_at}

-- so many times `a`
padding : ℕ → List ℕ
padding zero = []
padding (suc n) = 97 ∷ padding n

length-padding : (n : ℕ) → length (padding n) ≡ n
unfolding padding
length-padding zero = refl
length-padding (suc n) = ap suc (length-padding n)

zero_size : IsSize (48 ∷ [])
zero_size = omega (arith, AllPass-from_list_all is_ascii_hexdigit (48 ∷ []) refl)

last_chunked : IsChunked (48 ∷ 13 ∷ 10 ∷ 13 ∷ 10 ∷ []) []
last_chunked = record {
  chunks = [];
  zeros = 48 ∷ [];
  each = All-nil IsChunk;
  last = record { size = zero_size; zero = refl };
  cut = refl;
  joined = refl;
}

pub front_start : IsFrontOfChunked []
front_start = record { more = 48 ∷ 13 ∷ 10 ∷ 13 ∷ 10 ∷ []; body = []; some = omega arith; chunked = last_chunked }

-- a shorter prefix
pub front_shorter : (a b : List ℕ) → IsFrontOfChunked (a ++ b) → IsFrontOfChunked a
front_shorter a b f = search (rules, arith, length-append, append_assoc)

-- a size line, its data, and what stands of the line end
pub front_data_end : (ds d x y : List ℕ) → IsSize ds → digits_value 16 ds ≡ length d → x ++ y ≡ 13 ∷ 10 ∷ []
    → 0 < length y → IsFrontOfChunked (ds ++ (13 ∷ 10 ∷ (d ++ x)))
front_data_end ds d x y is same end some = elim (cases_lt 0 (length d)) [
  | inl filled ↦
      let c : Chunk = record { digits = ds; data_bytes = d } in
      let is_chunk : IsChunk c = record { size = is; some = filled; same = same } in
      record {
        more = y ++ (48 ∷ 13 ∷ 10 ∷ 13 ∷ 10 ∷ []);
        body = d ++ [];
        some = omega (arith, some, length-append y (48 ∷ 13 ∷ 10 ∷ 13 ∷ 10 ∷ []));
        chunked = subst (λ t. IsChunked t (d ++ [])) (sym (joined (48 ∷ 13 ∷ 10 ∷ 13 ∷ 10 ∷ [])))
            (subst (λ t. IsChunked t (d ++ [])) (chunk_flat c (48 ∷ 13 ∷ 10 ∷ 13 ∷ 10 ∷ []))
            (chunk_more c (48 ∷ 13 ∷ 10 ∷ 13 ∷ 10 ∷ []) [] is_chunk last_chunked));
      }
  | inr none ↦
      let empty : d ≡ [] = empty_of d (omega (arith, none)) in
      record {
        more = y;
        body = [];
        some = some;
        chunked = record {
          chunks = [];
          zeros = ds;
          each = All-nil IsChunk;
          last = record { size = is; zero = omega (arith, same, none) };
          cut =
              ap (λ t. t) (flat y) ∙ ap (λ b. ds ++ (13 ∷ 10 ∷ (b ++ (x ++ y)))) empty
              ∙ ap (λ t. ds ++ (13 ∷ 10 ∷ t)) end;
          joined = refl;
        };
      }
]
  where
    flat : (z : List ℕ) → (ds ++ (13 ∷ 10 ∷ (d ++ x))) ++ z ≡ ds ++ (13 ∷ 10 ∷ (d ++ (x ++ z)))
    flat z = simp append_assoc

    joined : (z : List ℕ) → (ds ++ (13 ∷ 10 ∷ (d ++ x))) ++ (y ++ z) ≡ ds ++ (13 ∷ 10 ∷ (d ++ (13 ∷ 10 ∷ z)))
    joined z = flat (y ++ z) ∙ ap (λ t. ds ++ (13 ∷ 10 ∷ (d ++ t))) (sym (append_assoc x y z) ∙ ap (λ t. t ++ z) end)

-- a size line and a part of its data
pub front_data : (ds d : List ℕ) → IsSize ds → length d ≤ digits_value 16 ds → IsFrontOfChunked (ds ++ (13 ∷ 10 ∷ d))
front_data ds d is le =
    let rest : List ℕ = padding (digits_value 16 ds - length d) in
    let len : digits_value 16 ds ≡ length (d ++ rest) =
    omega (arith, le, length-append d rest, length-padding (digits_value 16 ds - length d)) in
    front_shorter (ds ++ (13 ∷ 10 ∷ d)) rest
    (subst IsFrontOfChunked (simp (append_assoc, append-nil))
    (front_data_end ds (d ++ rest) [] (13 ∷ 10 ∷ []) is len refl (omega arith)))

pub front_digits : (ds : List ℕ) → IsSize ds → IsFrontOfChunked ds
front_digits ds is = front_shorter ds (13 ∷ 10 ∷ []) (front_data ds [] is (omega arith))

pub front_cr : (ds : List ℕ) → IsSize ds → IsFrontOfChunked (ds ++ 13 ∷ [])
front_cr ds is =
    front_shorter (ds ++ 13 ∷ []) (10 ∷ [])
    (subst IsFrontOfChunked (sym (append_assoc ds (13 ∷ []) (10 ∷ []))) (front_data ds [] is (omega arith)))

-- where a line stands it can go on
pub front_line : (front : List ℕ) (state : LineState) → StandsAt front state → IsFrontOfChunked front
front_line [] (Digits count value) h = front_start
front_line (b ∷ front) (Digits count value) h = search (rules, arith, front_digits)
front_line front (Ended value) h = subst IsFrontOfChunked (sym h.cut) (front_cr h.digits h.size)

-- a line that stands has no size line in it
pub under_line : (max : ℕ) (front : List ℕ) (state : LineState) → StandsAt front state → ¬ (ExceedsLimit max front)
under_line max front (Digits count value) h over =
    let l = over_has_line max front over in
    let few = digits_le front l.0 [] (10 ∷ l.1) h.hex (append-nil front ∙ l.3) in
    let len = ap length l.3 in
    omega (arith, few, len, length-append l.0 (13 ∷ 10 ∷ l.1))
under_line max front (Ended value) h over =
    let l = over_has_line max front over in
    let same : h.digits ++ 13 ∷ [] ≡ l.0 ++ 13 ∷ (10 ∷ l.1) = sym h.cut ∙ l.3 in
    let tail = (stops_at h.digits l.0 [] (10 ∷ l.1) 13 h.size.hex l.2.hex refl same).2 in
    absurd (cc)
