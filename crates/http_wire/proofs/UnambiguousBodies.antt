-- Behind a head stands at most one body.
use Rattle.std.proofs.Common.{◌≡◌, ℕ, ◌+◌, ◌<◌, ◌≤◌, List, [], ◌∷◌, ◌++◌, All, length, refl, sym, ap, ◌∙◌, subst, arith}
use Rattle.std.proofs.Common.{append_assoc, append-nil, length-append, inl, inr, rules}
use Rattle.std.specs.Prelude.{◌⊎◌}
use Rattle.std.proofs.lemmas.Bool.{cases_lt}
use Rattle.std.proofs.lemmas.List.Elements.{All-head, All-tail}
use Rattle.std.specs.Str.Parse.{digits_value}
use Rattle.http_wire.specs.Body.{IsSize, Chunk, print_chunk, IsChunk, IsZero, chunks_text, chunks_data, IsChunked}
use Rattle.http_wire.specs.Body.{IsFrontOfChunked, ExceedsLimit, IsBroken, IsBadBody, IsCutBody}
use Rattle.http_wire.specs.Unambiguous.{BodyParse, whole, refused, cut, IsReadAs, BodiesAreUnambiguous}
use Rattle.http_wire.specs.declared.body.Framing.TheVariants.{Length, Chunked}
use Rattle.http_wire.specs.declared.fault.Bad.{Bad}
use Rattle.http_wire.proofs.Bodies.ChunkLemmas.{lines_same, same_front, chunk_flat, front_after}
use Rattle.http_wire.proofs.Heads.FrontLemmas.{front_data}
use Rattle.http_wire.proofs.UnambiguousHeads.{longer_front}

-- ---- chunked texts

-- the text of chunks and of the last one
abbrev text_of : List Chunk → List ℕ → List ℕ
text_of chunks zeros = chunks_text chunks ++ (zeros ++ (13 ∷ 10 ∷ 13 ∷ 10 ∷ []))

-- the last chunk, flat
last_flat : (zeros a : List ℕ) → (zeros ++ (13 ∷ 10 ∷ 13 ∷ 10 ∷ [])) ++ a ≡ zeros ++ (13 ∷ 10 ∷ (13 ∷ 10 ∷ a))
last_flat zeros a = append_assoc zeros (13 ∷ 10 ∷ 13 ∷ 10 ∷ []) a

-- the first chunk, flat
first_flat : (c : Chunk) (chunks : List Chunk) (more a : List ℕ)
    → (chunks_text (c ∷ chunks) ++ more) ++ a
    ≡ c.digits ++ (13 ∷ 10 ∷ (c.data_bytes ++ (13 ∷ 10 ∷ ((chunks_text chunks ++ more) ++ a))))
first_flat c chunks more a = simp (append_assoc, chunk_flat)

-- two chunks that begin one text are the same
record SameChunk (c d : Chunk) (r q : List ℕ) : Type 0 where
  digits : c.digits ≡ d.digits
  bytes : c.data_bytes ≡ d.data_bytes
  rest : r ≡ q

same_chunk : (c d : Chunk) (r q : List ℕ) → IsChunk c → IsChunk d
    → c.digits ++ (13 ∷ 10 ∷ (c.data_bytes ++ (13 ∷ 10 ∷ r))) ≡ d.digits ++ (13 ∷ 10 ∷ (d.data_bytes ++ (13 ∷ 10 ∷ q)))
    → SameChunk c d r q
same_chunk c d r q is is_d e = search (rules, arith, lines_same, same_front)

-- a chunk isn't the last one
not_last : (c : Chunk) (zeros r q : List ℕ) → IsChunk c → IsZero zeros
    → c.digits ++ (13 ∷ 10 ∷ r) ≡ zeros ++ (13 ∷ 10 ∷ q) → ⊥
not_last c zeros r q is last e = search (rules, arith, lines_same)

-- what two chunked texts that begin one text have in common
record SameText (cs ds : List Chunk) (zs ws a b : List ℕ) : Type 0 where
  text : text_of cs zs ≡ text_of ds ws
  joined : chunks_data cs ≡ chunks_data ds
  rest : a ≡ b

same_text : (cs ds : List Chunk) (zs ws a b : List ℕ) → All IsChunk cs → All IsChunk ds → IsZero zs → IsZero ws
    → text_of cs zs ++ a ≡ text_of ds ws ++ b → SameText cs ds zs ws a b
same_text [] [] zs ws a b each other last end e = search (rules, arith, lines_same, last_flat)
same_text [] (d ∷ ds) zs ws a b each other last end e =
    search (rules, arith, not_last, All-head, first_flat, last_flat)
same_text (c ∷ cs) [] zs ws a b each other last end e =
    search (rules, arith, not_last, All-head, first_flat, last_flat)
same_text (c ∷ cs) (d ∷ ds) zs ws a b each other last end e =
    let s =
    same_chunk c d (text_of cs zs ++ a) (text_of ds ws ++ b) (All-head IsChunk c cs each) (All-head IsChunk d ds other)
    (sym (first_flat c cs (zs ++ (13 ∷ 10 ∷ 13 ∷ 10 ∷ [])) a) ∙ e
    ∙ first_flat d ds (ws ++ (13 ∷ 10 ∷ 13 ∷ 10 ∷ [])) b) in
    let next = same_text cs ds zs ws a b (All-tail IsChunk c cs each) (All-tail IsChunk d ds other) last end s.rest in
    record {
      text = append_assoc (print_chunk c) (chunks_text cs) (zs ++ (13 ∷ 10 ∷ 13 ∷ 10 ∷ []))
          ∙ (λ i. (s.digits i ++ (13 ∷ 10 ∷ (s.bytes i ++ (13 ∷ 10 ∷ [])))) ++ next.text i)
          ∙ sym (append_assoc (print_chunk d) (chunks_text ds) (ws ++ (13 ∷ 10 ∷ 13 ∷ 10 ∷ [])));
      joined = λ i. s.bytes i ++ next.joined i;
      rest = next.rest;
    }

-- two chunked texts that begin one text are the same
record SameBody (t u body other a b : List ℕ) : Type 0 where
  text : t ≡ u
  joined : body ≡ other
  rest : a ≡ b

same_body : (t u body other a b : List ℕ) → IsChunked t body → IsChunked u other → t ++ a ≡ u ++ b
    → SameBody t u body other a b
same_body t u body other a b x y e = search (rules, arith, same_text)

-- no chunked text is a prefix of another
no_proper_front : (t body more other : List ℕ) → IsChunked t body → IsChunked (t ++ more) other → 0 < length more → ⊥
no_proper_front t body more other x y some =
    let s = same_body t (t ++ more) body other more [] x y (sym (append-nil (t ++ more))) in
    let none = ap length s.rest in
    omega (arith, none, some)

-- ---- whole, refused and cut short

-- if the chunks and what was taken before keep the limit, no size line goes over it
within_limit : (max have : ℕ) (cs ds : List Chunk) (zs digits a rest : List ℕ) → All IsChunk cs
    → All IsChunk ds → IsZero zs → IsSize digits → text_of cs zs ++ a ≡ chunks_text ds ++ (digits ++ (13 ∷ 10 ∷ rest))
    → have + length (chunks_data cs) ≤ max → max < have + (length (chunks_data ds) + digits_value 16 digits) → ⊥
within_limit max have [] [] zs digits a rest each other last size e fits over =
    search (rules, arith, lines_same, last_flat)
within_limit max have [] (d ∷ ds) zs digits a rest each other last size e fits over =
    search (rules, arith, not_last, All-head, append_assoc, chunk_flat, last_flat)
within_limit max have (c ∷ cs) [] zs digits a rest each other last size e fits over =
    search (rules, arith, All-head, lines_same, first_flat, length-append)
within_limit max have (c ∷ cs) (d ∷ ds) zs digits a rest each other last size e fits over =
    let s =
    same_chunk c d (text_of cs zs ++ a) (chunks_text ds ++ (digits ++ (13 ∷ 10 ∷ rest))) (All-head IsChunk c cs each)
    (All-head IsChunk d ds other)
    (sym (first_flat c cs (zs ++ (13 ∷ 10 ∷ 13 ∷ 10 ∷ [])) a) ∙ e
    ∙ append_assoc (print_chunk d) (chunks_text ds) (digits ++ (13 ∷ 10 ∷ rest))
    ∙ chunk_flat d (chunks_text ds ++ (digits ++ (13 ∷ 10 ∷ rest)))) in
    let lengths = ap length s.bytes in
    within_limit max (have + length c.data_bytes) cs ds zs digits a rest (All-tail IsChunk c cs each)
    (All-tail IsChunk d ds other) last size s.rest
    (omega (arith, fits, length-append c.data_bytes (chunks_data cs)))
    (omega (arith, over, lengths, length-append d.data_bytes (chunks_data ds)))

whole_not_over : (max : ℕ) (t body a : List ℕ) → IsChunked t body → length body ≤ max → ExceedsLimit max (t ++ a) → ⊥
whole_not_over max t body a x fits y =
    let over = y.over in
    let joined = ap length x.joined in
    within_limit max 0 x.chunks y.chunks x.zeros y.digits a y.rest x.each y.each x.last y.size
    (ap (λ m. m ++ a) (sym x.cut) ∙ y.cut) (omega (arith, fits, joined)) (omega (arith, over))

-- what breaks off goes on in no way
broken_never : (max : ℕ) (text more body : List ℕ) → IsBroken max text → IsChunked (text ++ more) body → ⊥
broken_never max text more body y x =
    y.never (y.rest ++ more) body
    (subst (λ t. IsChunked t body)
    (ap (λ t. t ++ more) (y.cut ∙ sym (append_assoc y.before (y.byte ∷ []) y.rest))
    ∙ append_assoc (y.before ++ y.byte ∷ []) y.rest more) x)

-- a text that is longer than a prefix has the byte behind it
has_byte : (before rest text a : List ℕ) (byte : ℕ) → text ++ a ≡ before ++ byte ∷ rest → length before < length text
    → (more : List ℕ) × (text ≡ (before ++ byte ∷ []) ++ more)
has_byte before rest text a byte e longer =
    let one : (before ++ byte ∷ []) ++ rest ≡ text ++ a = append_assoc before (byte ∷ []) rest ∙ sym e in
    let next =
    longer_front (before ++ byte ∷ []) rest text a one (omega (arith, longer, length-append before (byte ∷ []))) in
    (next.0, next.1)

whole_not_broken : (max : ℕ) (t body a : List ℕ) → IsChunked t body → IsBroken max (t ++ a) → ⊥
whole_not_broken max t body a x y = elim (cases_lt (length y.before) (length t)) [
  | inl longer ↦
      let next = has_byte y.before y.rest t a y.byte y.cut longer in
      y.never next.0 body (subst (λ m. IsChunked m body) next.1 x)
  | inr within ↦
      let next = longer_front t a y.before (y.byte ∷ y.rest) y.cut within in
      let front = y.front in
      let some = front.some in
      no_proper_front t body (next.0 ++ front.more) front.body x
      (subst (λ m. IsChunked m front.body)
      (ap (λ m. m ++ front.more) next.1 ∙ append_assoc t next.0 front.more) front.chunked)
      (omega (arith, some, length-append next.0 front.more))
]

-- the chunks and the size line that go over the limit begin some chunked text
over_is_front : (ds : List Chunk) (digits : List ℕ) → All IsChunk ds → IsSize digits
    → IsFrontOfChunked (chunks_text ds ++ (digits ++ (13 ∷ 10 ∷ [])))
over_is_front ds digits each size = search (rules, arith, front_after, front_data)

over_not_broken : (max : ℕ) (text : List ℕ) → ExceedsLimit max text → IsBroken max text → ⊥
over_not_broken max text x y = by (cases_lt (length y.before) (length line))
  where
    line : List ℕ
    line = chunks_text x.chunks ++ (x.digits ++ (13 ∷ 10 ∷ []))

    flat : (m : List ℕ) → chunks_text x.chunks ++ (x.digits ++ (13 ∷ 10 ∷ m)) ≡ line ++ m
    flat m =
        ap (λ t. chunks_text x.chunks ++ t) (sym (append_assoc x.digits (13 ∷ 10 ∷ []) m))
        ∙ sym (append_assoc (chunks_text x.chunks) (x.digits ++ (13 ∷ 10 ∷ [])) m)

    both : line ++ x.rest ≡ y.before ++ y.byte ∷ y.rest
    both = sym (flat x.rest) ∙ sym x.cut ∙ y.cut

    by : (length y.before < length line) ⊎ (length line ≤ length y.before) → ⊥
    by (inl longer) =
        let next = has_byte y.before y.rest line x.rest y.byte both longer in
        let front : IsFrontOfChunked line = over_is_front x.chunks x.digits x.each x.size in
        y.never (next.0 ++ front.more) front.body
        (subst (λ m. IsChunked m front.body)
        (ap (λ m. m ++ front.more) next.1 ∙ append_assoc (y.before ++ y.byte ∷ []) next.0 front.more) front.chunked)
    by (inr within) =
        let next = longer_front line x.rest y.before (y.byte ∷ y.rest) both within in
        y.under (record {
          chunks = x.chunks;
          digits = x.digits;
          rest = next.0;
          each = x.each;
          size = x.size;
          cut = next.1 ∙ sym (flat next.0);
          over = x.over;
        })

whole_not_cut : (t body a : List ℕ) → IsChunked t body → IsFrontOfChunked (t ++ a) → ⊥
whole_not_cut t body a x y =
    let some = y.some in
    no_proper_front t body (a ++ y.more) y.body x (subst (λ m. IsChunked m y.body) (append_assoc t a y.more) y.chunked)
    (omega (arith, some, length-append a y.more))

-- ---- parses

whole_not_bad : (max : ℕ) (t body a : List ℕ) (why : Bad) → IsChunked t body → length body ≤ max
    → IsBadBody (Chunked max) (t ++ a) why → ⊥
whole_not_bad max t body a why x fits (inl y) = whole_not_over max t body a x fits y.1
whole_not_bad max t body a why x fits (inr y) = whole_not_broken max t body a x y.1

one_bad : (max : ℕ) (text : List ℕ) (why other : Bad) → IsBadBody (Chunked max) text why
    → IsBadBody (Chunked max) text other → why ≡ other
one_bad max text why other (inl x) (inl y) = x.0 ∙ sym y.0
one_bad max text why other (inl x) (inr y) = absurd (over_not_broken max text x.1 y.1)
one_bad max text why other (inr x) (inl y) = absurd (over_not_broken max text y.1 x.1)
one_bad max text why other (inr x) (inr y) = x.0 ∙ sym y.0

bad_not_cut : (max : ℕ) (text : List ℕ) (why : Bad) → IsBadBody (Chunked max) text why
    → IsCutBody (Chunked max) text → ⊥
bad_not_cut max text why (inl x) y = y.1 x.1
bad_not_cut max text why (inr x) y = broken_never max text y.0.more y.0.body x.1 y.0.chunked

sized_parse : (n : ℕ) (text : List ℕ) (parse other : BodyParse)
    → IsReadAs (Length n) text parse → IsReadAs (Length n) text other → parse ≡ other
sized_parse n text (whole body rest) (whole other more) x y = search (rules, arith, same_front)
sized_parse n text (whole body rest) (refused why) x y = absurd y
sized_parse n text (whole body rest) cut x y = search (rules, arith, length-append)
sized_parse n text (refused why) other x y = absurd x
sized_parse n text cut (whole body rest) x y = search (rules, arith, length-append)
sized_parse n text cut (refused why) x y = absurd y
sized_parse n text cut cut x y = refl

chunked_parse : (max : ℕ) (text : List ℕ) (parse other : BodyParse)
    → IsReadAs (Chunked max) text parse → IsReadAs (Chunked max) text other → parse ≡ other
chunked_parse max text (whole body rest) (whole other more) x y =
    let s = same_body x.message y.message body other rest more x.written.0 y.written.0 (sym x.split ∙ y.split) in
    λ i. whole (s.joined i) (s.rest i)
chunked_parse max text (whole body rest) (refused why) x y =
    absurd (whole_not_bad max x.message body rest why x.written.0 x.written.1
    (subst (λ t. IsBadBody (Chunked max) t why) x.split y))
chunked_parse max text (whole body rest) cut x y =
    absurd (whole_not_cut x.message body rest x.written.0 (subst IsFrontOfChunked x.split y.0))
chunked_parse max text (refused why) (whole other more) x y =
    absurd (whole_not_bad max y.message other more why y.written.0 y.written.1
    (subst (λ t. IsBadBody (Chunked max) t why) y.split x))
chunked_parse max text (refused why) (refused other) x y = ap refused (one_bad max text why other x y)
chunked_parse max text (refused why) cut x y = absurd (bad_not_cut max text why x y)
chunked_parse max text cut (whole other more) x y =
    absurd (whole_not_cut y.message other more y.written.0 (subst IsFrontOfChunked y.split x.0))
chunked_parse max text cut (refused other) x y = absurd (bad_not_cut max text other y x)
chunked_parse max text cut cut x y = refl

pub bodies_unambiguous : BodiesAreUnambiguous
bodies_unambiguous (Length n) text parse other x y = sized_parse n text parse other x y
bodies_unambiguous (Chunked max) text parse other x y = chunked_parse max text parse other x y
