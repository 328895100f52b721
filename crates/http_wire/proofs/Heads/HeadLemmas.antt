-- A head ends in a line feed and has one for each line, so no head ends anywhere else.
use Rattle.std.proofs.Common.{◌≡◌, ◌≢◌, ℕ, ◌+◌, ◌<◌, ◌≤◌, List, [], ◌∷◌, ◌++◌, length, refl, sym, ap, ◌∙◌, subst, arith}
use Rattle.std.proofs.Common.{append_assoc, length-append, inl, inr, add-one, get_or, take, drop, length-take, rules}
use Rattle.std.proofs.Common.{length-drop}
use Rattle.std.specs.Prelude.{◌⊎◌}
use Rattle.std.specs.List.{flat_map}
use Rattle.std.proofs.Math.Seq.{take-suc}
use Rattle.std.proofs.lemmas.List.{append-nil, take-append-drop}
use Rattle.std.proofs.lemmas.List.Sums.{sum_by-append}
use Rattle.std.proofs.lemmas.List.Concat.{flat_map-cons}
use Rattle.httparse.specs.Ascii.{line_feed}
use Rattle.httparse.specs.Grammar.{LineEnd, crlf, lf, print_end, Field, print_field}
use Rattle.httparse.specs.declared.Error.{Error}
use Rattle.httparse.specs.declared.Error.TheVariants.{HeaderName, HeaderValue, NewLine, Status, Token, TooManyHeaders}
use Rattle.httparse.specs.declared.Error.TheVariants.{Version}
use Rattle.http_wire.specs.declared.head.Verdict.{Verdict}
use Rattle.http_wire.specs.declared.head.Verdict.TheVariants.{Complete, Refused, Open}
use Rattle.http_wire.specs.Inner.HeadReading.{Spans, AreLawful, IsHeadAtFront, Judges, JudgesAt}
use Rattle.http_wire.specs.Fronts.{Words, Reads, HasNone, NeverHas, IsRefused, IsTooLong, line_feeds, max_fields}
use Rattle.http_wire.specs.Fronts.{MayBeRefused}

-- ---- lists

pub snoc_cases : (xs : List ℕ) → (xs ≡ []) ⊎ ((front : List ℕ) × (b : ℕ) × (xs ≡ front ++ b ∷ []))
snoc_cases [] = inl refl
snoc_cases (x ∷ xs) =
    elim (snoc_cases xs) [
      | inl e ↦ inr ([], x, ap (λ t. x ∷ t) e)
      | inr s ↦ inr (x ∷ s.0, s.1, ap (λ t. x ∷ t) s.2)
    ]

pub snoc_inj : (xs ys : List ℕ) (b c : ℕ) → xs ++ b ∷ [] ≡ ys ++ c ∷ [] → (xs ≡ ys) × (b ≡ c)
snoc_inj [] [] b c e = (refl, cc)
snoc_inj [] (y ∷ ys) b c e = absurd (let h = ap length e in omega (arith, h, length-append ys (c ∷ [])))
snoc_inj (x ∷ xs) [] b c e = absurd (let h = ap length e in omega (arith, h, length-append xs (b ∷ [])))
snoc_inj (x ∷ xs) (y ∷ ys) b c e = search (rules, arith, snoc_inj xs ys b c)

-- ---- line feeds

pub line_feeds-append : (a b : List ℕ) → line_feeds (a ++ b) ≡ line_feeds a + line_feeds b
line_feeds-append a b = sum_by-append _ a b

pub line_feeds-end : (e : LineEnd) → line_feeds (print_end e) ≡ 1
line_feeds-end crlf = refl
line_feeds-end lf = refl

pub line_feeds-field : (f : Field) → 1 ≤ line_feeds (print_field f)
line_feeds-field f = omega (arith, line_feeds-append (f.name ++ 58 ∷ f.raw) (print_end f.end), line_feeds-end f.end)

pub line_feeds-fields : (fields : List Field) → length fields ≤ line_feeds (flat_map print_field fields)
line_feeds-fields [] = omega arith
line_feeds-fields (f ∷ fields) =
    omega (
      arith,
      flat_map-cons print_field f fields,
      line_feeds-append (print_field f) (flat_map print_field fields),
      line_feeds-field f,
      line_feeds-fields fields,
    )

-- ---- what the laws of a grammar give

-- each head of the grammar ends in a line feed
abbrev pub EndsInLineFeed : Words → Type 0
EndsInLineFeed w = (h : w.Head) → (front : List ℕ) × (w.print h ≡ front ++ line_feed ∷ [])

-- each head of the grammar has a line feed for each field, and two more
abbrev pub HasLines : Words → Type 0
HasLines w = (h : w.Head) → length (w.fields h) + 2 ≤ line_feeds (w.print h)

-- if the prefix has no head, a head of one byte more is all of it
pub only_whole : (w : Words) (front : List ℕ) (b : ℕ) (h : w.Head) (rest : List ℕ) → HasNone w front
    → Reads w (front ++ b ∷ []) h rest → rest ≡ []
only_whole w front b h rest none x =
    elim (snoc_cases rest) [
      | inl e ↦ e
      | inr s ↦ absurd (none h s.0 (
        x.0,
        (snoc_inj front (w.print h ++ s.0) b s.1
            (x.1 ∙ ap (λ t. w.print h ++ t) s.2 ∙ sym (append_assoc (w.print h) s.0 (s.1 ∷ [])))).0,
      ))
    ]

-- and that byte is a line feed
pub whole_ends : (w : Words) → EndsInLineFeed w → (front : List ℕ) (b : ℕ) (h : w.Head) (rest : List ℕ)
    → HasNone w front → Reads w (front ++ b ∷ []) h rest → b ≡ line_feed
whole_ends w law front b h rest none x =
    let e = only_whole w front b h rest none x in
    let ends = law h in
    (snoc_inj front ends.0 b line_feed
    (x.1 ∙ ap (λ t. w.print h ++ t) e ∙ append-nil (w.print h) ∙ ends.1)).1

pub none_more : (w : Words) → EndsInLineFeed w → (front : List ℕ) (b : ℕ) → HasNone w front → b ≢ line_feed
    → HasNone w (front ++ b ∷ [])
none_more w law front b none other h rest x = other (whole_ends w law front b h rest none x)

pub none_at_start : (w : Words) → EndsInLineFeed w → HasNone w []
none_at_start w law h rest x =
    let ends = law h in
    let l = ap length x.1 in
    let e = ap length ends.1 in
    omega (arith, l, e, length-append (w.print h) rest, length-append ends.0 (line_feed ∷ []))

-- ---- an error of the parser

-- whatever bytes follow, a head at the front has more than room fields
abbrev pub Overflows : Words → ℕ → List ℕ → Type 0
Overflows w room buf =
    (more : List ℕ) (h : w.Head) (rest : List ℕ) → Reads w (buf ++ more) h rest
    → room < length (w.fields h)

-- a prefix of buf and then an empty line are a head that has more than room fields
abbrev pub Exceeds : Words → ℕ → List ℕ → Type 0
Exceeds w room buf =
    (front : List ℕ) × (rest : List ℕ) × (buf ≡ front ++ rest)
    × (h : w.Head) × Reads w (front ++ print_end lf) h [] × (room < length (w.fields h))

pub reads_append : (w : Words) (text : List ℕ) (h : w.Head) (rest more : List ℕ)
    → Reads w text h rest → Reads w (text ++ more) h (rest ++ more)
reads_append w text h rest more x = (x.0, ap (λ t. t ++ more) x.1 ∙ append_assoc (w.print h) rest more)

pub overflows_now : (w : Words) (room : ℕ) (text : List ℕ) → Overflows w room text
    → (h : w.Head) (rest : List ℕ) → Reads w text h rest → room < length (w.fields h)
overflows_now w room text over h rest x = over [] h (rest ++ []) (reads_append w text h rest [] x)

pub exceeds_line_feeds : (w : Words) → HasLines w → (room : ℕ) (text : List ℕ) → Exceeds w room text
    → room + 1 < line_feeds text
exceeds_line_feeds w law room text e = search (rules, arith, append-nil, line_feeds-append)

pub refused_by_fields : (w : Words) → HasLines w → (text : List ℕ) → Overflows w max_fields text
    → Exceeds w max_fields text → MayBeRefused w text
refused_by_fields w law text over exceeds =
    inr (exceeds_line_feeds w law max_fields text exceeds, overflows_now w max_fields text over)

-- an error of the parser refuses the prefix
pub refused_by_error : (w : Words) → HasLines w → (text : List ℕ) (e : Error)
    → (e ≢ TooManyHeaders → NeverHas w text) → Overflows w max_fields text
    → (e ≡ TooManyHeaders → Exceeds w max_fields text) → MayBeRefused w text
refused_by_error w law text HeaderName never over exceeds = inl (never (λ e. cc))
refused_by_error w law text HeaderValue never over exceeds = inl (never (λ e. cc))
refused_by_error w law text NewLine never over exceeds = inl (never (λ e. cc))
refused_by_error w law text Status never over exceeds = inl (never (λ e. cc))
refused_by_error w law text Token never over exceeds = inl (never (λ e. cc))
refused_by_error w law text TooManyHeaders never over exceeds = refused_by_fields w law text over (exceeds refl)
refused_by_error w law text Version never over exceeds = inl (never (λ e. cc))

-- ---- at an index of a text

pub take-next : (text : List ℕ) (at : ℕ) → at < length text → take (at + 1) text ≡ take at text ++ get_or text at 0 ∷ []
take-next text at lt = ap (λ n. take n text) (add-one at) ∙ take-suc text at 0 lt

-- one more byte that is no line feed
pub none_at_next : (w : Words) → EndsInLineFeed w → (text : List ℕ) (at : ℕ) → at < length text
    → HasNone w (take at text) → get_or text at 0 ≢ line_feed → HasNone w (take (at + 1) text)
none_at_next w law text at lt none other = search (rules, arith, take-next, none_more)

-- a prefix that may be refused, with no head before its line feed
pub refused_at : (w : Words) (text : List ℕ) (at : ℕ) → at < length text → at < 16384 → HasNone w (take at text)
    → get_or text at 0 ≡ line_feed → MayBeRefused w (take (at + 1) text) → IsRefused w text
refused_at w text at lt short none same may =
    let next : take (at + 1) text ≡ take at text ++ line_feed ∷ [] =
    take-next text at lt ∙ ap (λ b. take at text ++ b ∷ []) same in
    record {
      before = take at text;
      rest = drop (at + 1) text;
      cut = sym (take-append-drop (at + 1) text) ∙ ap (λ t. t ++ drop (at + 1) text) next;
      short = omega (arith, length-take at text);
      none_before = none;
      refused = subst (MayBeRefused w) next may;
    }

-- a head that the parser finds there is all of the prefix
pub head_at : {P : Type 0} (s : Spans P) → AreLawful s → (text : List ℕ) (at : ℕ) (p : P) → at < length text
    → at < 16384 → HasNone s.words (take at text) → s.IsHeadOf (take (at + 1) text) p → IsHeadAtFront s text p
head_at s laws text at p lt short none found =
    let front : List ℕ = take (at + 1) text in
    let long : length front ≡ at + 1 = omega (arith, length-take (at + 1) text) in
    let fits : s.len p ≤ length front = laws.fits front p found in
    let read = laws.reads front p found in
    let next = take-next text at lt in
    let whole : drop (s.len p) front ≡ [] =
    only_whole s.words (take at text) (get_or text at 0) read.0 (drop (s.len p) front) none
    (subst (λ t. Reads s.words t read.0 (drop (s.len p) front)) next read.1) in
    let none_left = ap length whole in
    let same : s.len p ≡ at + 1 = omega (arith, none_left, length-drop (s.len p) front, long, fits) in
    record {
      short = omega (arith, same, short);
      in_range = omega (arith, same, lt);
      head = subst (λ n. s.IsHeadOf (take n text) p) (sym same) found;
    }

pub judged_at : {P : Type 0} (s : Spans P) → AreLawful s → (text : List ℕ) (at : ℕ) (v : Verdict P) → at < length text
    → at < 16384 → HasNone s.words (take at text) → get_or text at 0 ≡ line_feed → Judges s (take (at + 1) text) v
    → JudgesAt s text at v
judged_at s laws text at (Complete p) lt short none same says = head_at s laws text at p lt short none says
judged_at s laws text at Refused lt short none same says = refused_at s.words text at lt short none same says
judged_at s laws text at Open lt short none same says = says

-- the whole limit has no head
pub too_long : (w : Words) (text : List ℕ) → 16384 ≤ length text → HasNone w (take 16384 text) → IsTooLong w text
too_long w text long none = record {
  front = take 16384 text;
  rest = drop 16384 text;
  cut = sym (take-append-drop 16384 text);
  full = omega (arith, long, length-take 16384 text);
  none = none;
}

-- one more line
pub line_feeds-next : (text : List ℕ) (at : ℕ) → at < length text → get_or text at 0 ≡ line_feed
    → line_feeds (take (at + 1) text) ≡ line_feeds (take at text) + 1
line_feeds-next text at lt same = search (rules, arith, take-next, line_feeds-append)

-- more lines than a head has, and no head
pub given_up : (w : Words) (text : List ℕ) (at lines : ℕ) → at < length text → at < 16384
    → lines ≡ line_feeds (take at text) → HasNone w (take at text) → get_or text at 0 ≡ line_feed → 64 < lines
    → HasNone w (take (at + 1) text) → IsRefused w text
given_up w text at lines lt short counted none same many none_at = search (rules, arith, line_feeds-next, refused_at)
