-- A chunked text is read in one way.
use Rattle.std.proofs.Common.{◌≡◌, ◌≢◌, ℕ, ◌+◌, ◌-◌, ◌<◌, ◌≤◌, List, [], ◌∷◌, ◌++◌, All, length, refl, arith, ◌∙◌, sym}
use Rattle.std.proofs.Common.{ap, subst, append_assoc, length-append, rules}
use Rattle.std.proofs.lemmas.List.Elements.{All-head, All-tail, All-cons, All-append}
use Rattle.std.proofs.lemmas.Grind.{flat_map-append}
use Rattle.std.specs.Str.Parse.{digits_value}
use Rattle.http_wire.specs.Body.{IsSize, Chunk, print_chunk, IsChunk, IsZero, chunks_text, chunks_data, IsChunked}
use Rattle.http_wire.specs.Body.{NeverChunked, IsFrontOfChunked, ExceedsLimit}
use Rattle.http_wire.specs.Inner.SizeLines.{NeverLine}
use Rattle.http_wire.proofs.Bodies.LineLemmas.{stops_at}

-- the same size line, and then the same bytes
pub lines_same : (ds es r q : List ℕ) → IsSize ds → IsSize es → ds ++ (13 ∷ 10 ∷ r) ≡ es ++ (13 ∷ 10 ∷ q)
    → (ds ≡ es) × (r ≡ q)
lines_same ds es r q d e cut =
    let s = stops_at ds es (10 ∷ r) (10 ∷ q) 13 d.hex e.hex refl cut in
    let tail = s.2 in
    (s.0, cc)

-- two prefixes of one length
pub same_front : (a b r q : List ℕ) → length a ≡ length b → a ++ r ≡ b ++ q → (a ≡ b) × (r ≡ q)
same_front [] [] r q l e = (refl, e)
same_front [] (y ∷ b) r q l e = absurd (omega arith)
same_front (x ∷ a) [] r q l e = absurd (omega arith)
same_front (x ∷ a) (y ∷ b) r q l e = search (rules, arith, same_front a b r q (omega arith))

pub empty_of : (x : List ℕ) → length x ≡ 0 → x ≡ []
empty_of [] h = refl
empty_of (y ∷ x) h = absurd (omega arith)

pub chunk_flat : (c : Chunk) (t : List ℕ) → print_chunk c ++ t ≡ c.digits ++ (13 ∷ 10 ∷ (c.data_bytes ++ (13 ∷ 10 ∷ t)))
chunk_flat c t = simp append_assoc

-- what follows a chunk, if the whole is a chunked text
pub record FollowsChunk (c : Chunk) (t body : List ℕ) : Type 0 where
  pub after : List ℕ
  pub chunked : IsChunked t after
  pub joined : body ≡ c.data_bytes ++ after

pub chunk_first : (c : Chunk) (t body : List ℕ) → IsChunk c → IsChunked (print_chunk c ++ t) body
    → FollowsChunk c t body
chunk_first c t body is h = first h.chunks h.zeros h.each h.last (sym (chunk_flat c t) ∙ h.cut) h.joined
  where
    first : (chunks : List Chunk) (zeros : List ℕ) → All IsChunk chunks → IsZero zeros
        → c.digits ++ (13 ∷ 10 ∷ (c.data_bytes ++ (13 ∷ 10 ∷ t)))
        ≡ chunks_text chunks ++ (zeros ++ (13 ∷ 10 ∷ 13 ∷ 10 ∷ [])) → body ≡ chunks_data chunks → FollowsChunk c t body
    first [] zeros each last cut joined =
        let s = lines_same c.digits zeros (c.data_bytes ++ (13 ∷ 10 ∷ t)) (13 ∷ 10 ∷ []) is.size last.size cut in
        let value = ap (digits_value 16) s.0 in
        let some = is.some in
        let same = is.same in
        let zero = last.zero in
        absurd (omega (arith, value, some, same, zero))
    first (d ∷ chunks) zeros each last cut joined =
        let is_d : IsChunk d = All-head IsChunk d chunks each in
        let tail : List ℕ = chunks_text chunks ++ (zeros ++ (13 ∷ 10 ∷ 13 ∷ 10 ∷ [])) in
        let flat : c.digits ++ (13 ∷ 10 ∷ (c.data_bytes ++ (13 ∷ 10 ∷ t)))
        ≡ d.digits ++ (13 ∷ 10 ∷ (d.data_bytes ++ (13 ∷ 10 ∷ tail))) =
        cut ∙ append_assoc (print_chunk d) (chunks_text chunks) (zeros ++ (13 ∷ 10 ∷ 13 ∷ 10 ∷ []))
        ∙ chunk_flat d tail in
        let s =
        lines_same c.digits d.digits (c.data_bytes ++ (13 ∷ 10 ∷ t)) (d.data_bytes ++ (13 ∷ 10 ∷ tail)) is.size
        is_d.size flat in
        let lengths : length c.data_bytes ≡ length d.data_bytes = sym is.same ∙ ap (digits_value 16) s.0 ∙ is_d.same in
        let parts = same_front c.data_bytes d.data_bytes (13 ∷ 10 ∷ t) (13 ∷ 10 ∷ tail) lengths s.1 in
        let rest : t ≡ tail = let after = parts.1 in cc in
        record {
          after = chunks_data chunks;
          chunked = record {
            chunks = chunks;
            zeros = zeros;
            each = All-tail IsChunk d chunks each;
            last = last;
            cut = rest;
            joined = refl;
          };
          joined = joined ∙ ap (λ x. x ++ chunks_data chunks) (sym parts.0);
        }

-- and the other way round
pub chunk_more : (c : Chunk) (t after : List ℕ) → IsChunk c → IsChunked t after
    → IsChunked (print_chunk c ++ t) (c.data_bytes ++ after)
chunk_more c t after is h = record {
  chunks = c ∷ h.chunks;
  zeros = h.zeros;
  each = All-cons IsChunk c h.chunks is h.each;
  last = h.last;
  cut =
      ap (λ x. print_chunk c ++ x) h.cut
      ∙ sym (append_assoc (print_chunk c) (chunks_text h.chunks) (h.zeros ++ (13 ∷ 10 ∷ 13 ∷ 10 ∷ [])));
  joined = ap (λ x. c.data_bytes ++ x) h.joined;
}

-- a text without a size line has no continuation
pub never_from_line : (text : List ℕ) → NeverLine text → NeverChunked text
never_from_line text never more body h = begins h.chunks h.zeros h.each h.last h.cut
  where
    begins : (chunks : List Chunk) (zeros : List ℕ) → All IsChunk chunks → IsZero zeros
        → text ++ more ≡ chunks_text chunks ++ (zeros ++ (13 ∷ 10 ∷ 13 ∷ 10 ∷ [])) → ⊥
    begins [] zeros each last cut = never more zeros (13 ∷ 10 ∷ []) last.size cut
    begins (d ∷ chunks) zeros each last cut =
        let tail : List ℕ = chunks_text chunks ++ (zeros ++ (13 ∷ 10 ∷ 13 ∷ 10 ∷ [])) in
        never more d.digits (d.data_bytes ++ (13 ∷ 10 ∷ tail)) (All-head IsChunk d chunks each).size
        (cut ∙ append_assoc (print_chunk d) (chunks_text chunks) (zeros ++ (13 ∷ 10 ∷ 13 ∷ 10 ∷ []))
        ∙ chunk_flat d tail)

-- chunks in front change nothing
pub never_after : (chunks : List Chunk) (text : List ℕ) → All IsChunk chunks → NeverChunked text
    → NeverChunked (chunks_text chunks ++ text)
never_after [] text each never more body h = never more body h
never_after (c ∷ chunks) text each never more body h =
    let is : IsChunk c = All-head IsChunk c chunks each in
    let moved : IsChunked (print_chunk c ++ ((chunks_text chunks ++ text) ++ more)) body =
    subst (λ t. IsChunked t body) (ap (λ t. t ++ more) (append_assoc (print_chunk c) (chunks_text chunks) text)
    ∙ append_assoc (print_chunk c) (chunks_text chunks ++ text) more) h in
    let f = chunk_first c ((chunks_text chunks ++ text) ++ more) body is moved in
    never_after chunks text (All-tail IsChunk c chunks each) never more f.after f.chunked

-- the prefix of a chunked text, behind chunks
pub front_after : (chunks : List Chunk) (text : List ℕ) → All IsChunk chunks → IsFrontOfChunked text
    → IsFrontOfChunked (chunks_text chunks ++ text)
front_after [] text each front = front
front_after (c ∷ chunks) text each front =
    let f = front_after chunks text (All-tail IsChunk c chunks each) front in
    let is : IsChunk c = All-head IsChunk c chunks each in
    record {
      more = f.more;
      body = c.data_bytes ++ f.body;
      some = f.some;
      chunked = subst (λ t. IsChunked t (c.data_bytes ++ f.body))
          (sym (ap (λ t. t ++ f.more) (append_assoc (print_chunk c) (chunks_text chunks) text)
          ∙ append_assoc (print_chunk c) (chunks_text chunks ++ text) f.more))
          (chunk_more c ((chunks_text chunks ++ text) ++ f.more) f.body is f.chunked);
    }

-- ---- the limit

-- a chunk that fits is no part of what takes the sum over the limit
over_first : (max : ℕ) (c : Chunk) (t : List ℕ) → IsChunk c → length c.data_bytes ≤ max
    → ExceedsLimit max (print_chunk c ++ t) → ExceedsLimit (max - length c.data_bytes) t
over_first max c t is fits h = first h.chunks h.digits h.rest h.each h.size (sym (chunk_flat c t) ∙ h.cut) h.over
  where
    first : (chunks : List Chunk) (digits rest : List ℕ) → All IsChunk chunks → IsSize digits
        → c.digits ++ (13 ∷ 10 ∷ (c.data_bytes ++ (13 ∷ 10 ∷ t))) ≡ chunks_text chunks ++ (digits ++ (13 ∷ 10 ∷ rest))
        → max < length (chunks_data chunks) + digits_value 16 digits → ExceedsLimit (max - length c.data_bytes) t
    first [] digits rest each size cut over =
        let s = lines_same c.digits digits (c.data_bytes ++ (13 ∷ 10 ∷ t)) rest is.size size cut in
        let value = ap (digits_value 16) s.0 in
        let same = is.same in
        absurd (omega (arith, value, same, fits, over))
    first (d ∷ chunks) digits rest each size cut over =
        let is_d : IsChunk d = All-head IsChunk d chunks each in
        let tail : List ℕ = chunks_text chunks ++ (digits ++ (13 ∷ 10 ∷ rest)) in
        let flat : c.digits ++ (13 ∷ 10 ∷ (c.data_bytes ++ (13 ∷ 10 ∷ t)))
        ≡ d.digits ++ (13 ∷ 10 ∷ (d.data_bytes ++ (13 ∷ 10 ∷ tail))) =
        cut ∙ append_assoc (print_chunk d) (chunks_text chunks) (digits ++ (13 ∷ 10 ∷ rest)) ∙ chunk_flat d tail in
        let s =
        lines_same c.digits d.digits (c.data_bytes ++ (13 ∷ 10 ∷ t)) (d.data_bytes ++ (13 ∷ 10 ∷ tail)) is.size
        is_d.size flat in
        let lengths : length c.data_bytes ≡ length d.data_bytes = sym is.same ∙ ap (digits_value 16) s.0 ∙ is_d.same in
        let parts = same_front c.data_bytes d.data_bytes (13 ∷ 10 ∷ t) (13 ∷ 10 ∷ tail) lengths s.1 in
        let after : t ≡ tail = let behind = parts.1 in cc in
        record {
          chunks = chunks;
          digits = digits;
          rest = rest;
          each = All-tail IsChunk d chunks each;
          size = size;
          cut = after;
          over = omega (arith, over, lengths, fits, length-append d.data_bytes (chunks_data chunks));
        }

-- behind chunks that keep the limit, the room that is left decides
pub under_after : (max : ℕ) (chunks : List Chunk) (text : List ℕ) → All IsChunk chunks
    → length (chunks_data chunks) ≤ max → ¬ (ExceedsLimit (max - length (chunks_data chunks)) text)
    → ¬ (ExceedsLimit max (chunks_text chunks ++ text))
under_after max [] text each fits under over = search (rules, arith)
under_after max (c ∷ chunks) text each fits under over =
    let is : IsChunk c = All-head IsChunk c chunks each in
    let len = length-append c.data_bytes (chunks_data chunks) in
    let one : length c.data_bytes ≤ max = omega (arith, fits, len) in
    let left : (max - length c.data_bytes) - length (chunks_data chunks)
    ≡ max - length (c.data_bytes ++ chunks_data chunks) =
    omega (arith, len) in
    under_after (max - length c.data_bytes) chunks text (All-tail IsChunk c chunks each) (omega (arith, fits, len))
    (subst (λ n. ¬ (ExceedsLimit n text)) (sym left) under)
    (over_first max c (chunks_text chunks ++ text) is one
    (subst (ExceedsLimit max) (append_assoc (print_chunk c) (chunks_text chunks) text) over))

pub over_after : (max : ℕ) (chunks : List Chunk) (text : List ℕ) → All IsChunk chunks
    → length (chunks_data chunks) ≤ max → ExceedsLimit (max - length (chunks_data chunks)) text
    → ExceedsLimit max (chunks_text chunks ++ text)
over_after max chunks text each fits h =
    let over = h.over in
    let data_joined = ap length (flat_map-append (λ c. c.data_bytes) chunks h.chunks) in
    record {
      chunks = chunks ++ h.chunks;
      digits = h.digits;
      rest = h.rest;
      each = All-append IsChunk chunks h.chunks each h.each;
      size = h.size;
      cut = ap (λ t. chunks_text chunks ++ t) h.cut
          ∙ sym (append_assoc (chunks_text chunks) (chunks_text h.chunks) (h.digits ++ (13 ∷ 10 ∷ h.rest)))
          ∙ ap (λ t. t ++ (h.digits ++ (13 ∷ 10 ∷ h.rest))) (sym (flat_map-append print_chunk chunks h.chunks));
      over = omega (arith, over, fits, data_joined, length-append (chunks_data chunks) (chunks_data h.chunks));
    }

-- a text that is over has a size line
pub over_has_line : (max : ℕ) (text : List ℕ) → ExceedsLimit max text
    → (digits : List ℕ) × (rest : List ℕ) × IsSize digits × (text ≡ digits ++ (13 ∷ 10 ∷ rest))
over_has_line max text h = first h.chunks h.each h.cut
  where
    first : (chunks : List Chunk) → All IsChunk chunks → text ≡ chunks_text chunks ++ (h.digits ++ (13 ∷ 10 ∷ h.rest))
        → (digits : List ℕ) × (rest : List ℕ) × IsSize digits × (text ≡ digits ++ (13 ∷ 10 ∷ rest))
    first [] each cut = (h.digits, h.rest, h.size, cut)
    first (d ∷ chunks) each cut =
        let tail : List ℕ = chunks_text chunks ++ (h.digits ++ (13 ∷ 10 ∷ h.rest)) in (
          d.digits,
          d.data_bytes ++ (13 ∷ 10 ∷ tail),
          (All-head IsChunk d chunks each).size,
          cut ∙ append_assoc (print_chunk d) (chunks_text chunks) (h.digits ++ (13 ∷ 10 ∷ h.rest)) ∙ chunk_flat d tail,
        )

-- inside a chunk that fits nothing is over
pub under_inside : (max : ℕ) (digits d : List ℕ) → IsSize digits → digits_value 16 digits ≤ max
    → length d < digits_value 16 digits + 2 → ¬ (ExceedsLimit max (digits ++ (13 ∷ 10 ∷ d)))
under_inside max digits d size fits short h = first h.chunks h.each h.cut h.over
  where
    first : (chunks : List Chunk) → All IsChunk chunks
        → digits ++ (13 ∷ 10 ∷ d) ≡ chunks_text chunks ++ (h.digits ++ (13 ∷ 10 ∷ h.rest))
        → max < length (chunks_data chunks) + digits_value 16 h.digits → ⊥
    first [] each cut over =
        let s = lines_same digits h.digits d h.rest size h.size cut in
        let value = ap (digits_value 16) s.0 in
        omega (arith, value, fits, over)
    first (e ∷ chunks) each cut over =
        let is_e : IsChunk e = All-head IsChunk e chunks each in
        let tail : List ℕ = chunks_text chunks ++ (h.digits ++ (13 ∷ 10 ∷ h.rest)) in
        let flat : digits ++ (13 ∷ 10 ∷ d) ≡ e.digits ++ (13 ∷ 10 ∷ (e.data_bytes ++ (13 ∷ 10 ∷ tail))) =
        cut ∙ append_assoc (print_chunk e) (chunks_text chunks) (h.digits ++ (13 ∷ 10 ∷ h.rest)) ∙ chunk_flat e tail in
        let s = lines_same digits e.digits d (e.data_bytes ++ (13 ∷ 10 ∷ tail)) size is_e.size flat in
        let value = ap (digits_value 16) s.0 in
        let same = is_e.same in
        let whole = ap length s.1 in
        omega (arith, value, same, short, whole, length-append e.data_bytes (13 ∷ 10 ∷ tail))

-- behind the data stands CR LF, or the text is none
pub never_end : (digits bytes x : List ℕ) → IsSize digits → digits_value 16 digits ≡ length bytes
    → ((more rest : List ℕ) → x ++ more ≢ 13 ∷ 10 ∷ rest) → NeverChunked (digits ++ (13 ∷ 10 ∷ (bytes ++ x)))
never_end digits bytes x size counted never more body h = first h.chunks h.zeros h.each h.last (flat_more ∙ h.cut)
  where
    flat_more : digits ++ (13 ∷ 10 ∷ (bytes ++ (x ++ more))) ≡ (digits ++ (13 ∷ 10 ∷ (bytes ++ x))) ++ more
    flat_more = simp append_assoc

    first : (chunks : List Chunk) (zeros : List ℕ) → All IsChunk chunks → IsZero zeros
        → digits ++ (13 ∷ 10 ∷ (bytes ++ (x ++ more))) ≡ chunks_text chunks ++ (zeros ++ (13 ∷ 10 ∷ 13 ∷ 10 ∷ [])) → ⊥
    first [] zeros each last cut =
        let s = lines_same digits zeros (bytes ++ (x ++ more)) (13 ∷ 10 ∷ []) size last.size cut in
        let value = ap (digits_value 16) s.0 in
        let zero = last.zero in
        let none : bytes ≡ [] = empty_of bytes (omega (arith, value, zero, counted)) in
        never more [] (ap (λ b. b ++ (x ++ more)) (sym none) ∙ s.1)
    first (d ∷ chunks) zeros each last cut =
        let is_d : IsChunk d = All-head IsChunk d chunks each in
        let tail : List ℕ = chunks_text chunks ++ (zeros ++ (13 ∷ 10 ∷ 13 ∷ 10 ∷ [])) in
        let flat : digits ++ (13 ∷ 10 ∷ (bytes ++ (x ++ more)))
        ≡ d.digits ++ (13 ∷ 10 ∷ (d.data_bytes ++ (13 ∷ 10 ∷ tail))) =
        cut ∙ append_assoc (print_chunk d) (chunks_text chunks) (zeros ++ (13 ∷ 10 ∷ 13 ∷ 10 ∷ []))
        ∙ chunk_flat d tail in
        let s =
        lines_same digits d.digits (bytes ++ (x ++ more)) (d.data_bytes ++ (13 ∷ 10 ∷ tail)) size is_d.size flat in
        let lengths : length bytes ≡ length d.data_bytes = sym counted ∙ ap (digits_value 16) s.0 ∙ is_d.same in
        never more tail (same_front bytes d.data_bytes (x ++ more) (13 ∷ 10 ∷ tail) lengths s.1).1
