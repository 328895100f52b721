-- A text begins with at most one head.
use Rattle.std.proofs.Common.{◌≡◌, ℕ, ◌+◌, ◌<◌, ◌≤◌, List, [], ◌∷◌, ◌++◌, length, refl, sym, ap, ◌∙◌, arith, rules}
use Rattle.std.proofs.Common.{append_assoc, length-append, inl, inr}
use Rattle.std.proofs.lemmas.Bool.{cases_lt}
use Rattle.httparse.specs.Ascii.{line_feed}
use Rattle.httparse.proofs.GrammarLemmas.{request_unique, response_unique}
use Rattle.http_wire.specs.Fronts.{Words, requests, responses, Reads, ReadsHead, MayBeRefused, IsRefused, IsTooLong}
use Rattle.http_wire.specs.Fronts.{IsUnfinished, line_feeds, max_fields}
use Rattle.http_wire.specs.Unambiguous.{HeadParse, head, long, unfinished, BeginsWith, HeadsAreUnambiguous}
use Rattle.http_wire.proofs.Heads.HeadLemmas.{snoc_cases, snoc_inj, line_feeds-append, EndsInLineFeed}
use Rattle.http_wire.proofs.Heads.HeadLaws.{request_ends, response_ends}

-- the longer of two prefixes goes on behind the shorter
pub longer_front : (a b c d : List ℕ) → a ++ b ≡ c ++ d → length a ≤ length c
    → (more : List ℕ) × (c ≡ a ++ more) × (b ≡ more ++ d)
longer_front [] b c d e le = (c, refl, e)
longer_front (x ∷ a) b [] d e le = absurd (omega arith)
longer_front (x ∷ a) b (y ∷ c) d e le = search (rules, arith, longer_front a b c d)

-- no two heads of the grammar begin one text
abbrev IsUnique : Words → Type 0
IsUnique w = (text : List ℕ) (h k : w.Head) (r q : List ℕ) → Reads w text h r → Reads w text k q → (h ≡ k) × (r ≡ q)

-- a head that keeps the limit is within that many bytes
head_not_long : (w : Words) (text : List ℕ) (h : w.Head) (r : List ℕ) → ReadsHead w text h r → IsTooLong w text → ⊥
head_not_long w text h r x y =
    let short = x.short in
    let full = y.full in
    let cut = longer_front (w.print h) r y.front y.rest (sym x.reads.1 ∙ y.cut) (omega (arith, short, full)) in
    y.none h cut.0 (x.reads.0, cut.1)

long_not_short : (w : Words) (text : List ℕ) → IsTooLong w text → IsUnfinished w text → ⊥
long_not_short w text x y = search (rules, arith, length-append)

one_parse : (w : Words) → IsUnique w → (text : List ℕ) (parse other : HeadParse w)
    → BeginsWith w text parse → BeginsWith w text other → parse ≡ other
one_parse w law text (head h r) (head k q) x y =
    let same = law text h k r q x.reads y.reads in λ i. head (same.0 i) (same.1 i)
one_parse w law text (head h r) long x y = absurd (head_not_long w text h r x y)
one_parse w law text (head h r) unfinished x y = absurd (y.none h r x.reads)
one_parse w law text long (head k q) x y = absurd (head_not_long w text k q y x)
one_parse w law text long long x y = refl
one_parse w law text long unfinished x y = absurd (long_not_short w text x y)
one_parse w law text unfinished (head k q) x y = absurd (x.none k q y.reads)
one_parse w law text unfinished long x y = absurd (long_not_short w text y x)
one_parse w law text unfinished unfinished x y = refl

-- a head that is longer than a prefix has a line feed behind it
one_more_line : (w : Words) → EndsInLineFeed w → (front m : List ℕ) (h : w.Head) → w.print h ≡ front ++ m → 0 < length m
    → line_feeds front < line_feeds (w.print h)
one_more_line w ends front m h e some = elim (snoc_cases m) [
  | inl none ↦ let l = ap length none in absurd (omega (arith, l, some))
  | inr s ↦
      let end = ends h in
      let whole : (front ++ s.0) ++ s.1 ∷ [] ≡ end.0 ++ line_feed ∷ [] =
      append_assoc front s.0 (s.1 ∷ []) ∙ ap (λ t. front ++ t) (sym s.2) ∙ sym e ∙ end.1 in
      let same = (snoc_inj (front ++ s.0) end.0 s.1 line_feed whole).0 in
      let total = ap line_feeds (end.1 ∙ ap (λ t. t ++ line_feed ∷ []) (sym same)) in
      omega (arith, total, line_feeds-append (front ++ s.0) (line_feed ∷ []), line_feeds-append front s.0)
]

-- what may be refused has no head of few lines
refused_is_long : (w : Words) → EndsInLineFeed w → (text : List ℕ) (h : w.Head) (r : List ℕ) → ReadsHead w text h r
    → IsRefused w text → max_fields + 2 < line_feeds (w.print h)
refused_is_long w ends text h r x y = by y.refused
  where
    front : List ℕ
    front = y.before ++ line_feed ∷ []

    by : MayBeRefused w front → max_fields + 2 < line_feeds (w.print h)
    by (inl never) = absurd (never y.rest h r (x.reads.0, sym y.cut ∙ x.reads.1))
    by (inr (many, only_long)) = elim (cases_lt (length front) (length (w.print h))) [
      | inl shorter ↦
          let cut = longer_front front y.rest (w.print h) r (sym y.cut ∙ x.reads.1) (omega (arith, shorter)) in
          let l = ap length cut.1 in
          let more = one_more_line w ends front cut.0 h cut.1 (omega (arith, l, shorter, length-append front cut.0)) in
          omega (arith, many, more)
      | inr within ↦
          let cut = longer_front (w.print h) r front y.rest (sym x.reads.1 ∙ y.cut) within in
          let over = only_long h cut.0 (x.reads.0, cut.1) in
          let few = x.few in
          absurd (omega (arith, over, few))
    ]

heads_unambiguous : (w : Words) → IsUnique w → EndsInLineFeed w → HeadsAreUnambiguous w
heads_unambiguous w law ends = record { one = one_parse w law; refused = refused_is_long w ends }

pub requests_unambiguous : HeadsAreUnambiguous requests
requests_unambiguous = heads_unambiguous requests request_unique request_ends

pub responses_unambiguous : HeadsAreUnambiguous responses
responses_unambiguous = heads_unambiguous responses response_unique response_ends
