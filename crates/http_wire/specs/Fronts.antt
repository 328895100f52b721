-- Where the head of a message ends in a text, and when there is none (RFC 9112, section 2.1).
use Rattle.std.specs.Prelude.{◌≡◌, ℕ, ◌+◌, ◌<◌, ◌≤◌, ◌⊎◌, List, [], ◌∷◌, ◌++◌, length, ◌==◌}
use Rattle.std.specs.List.{count_by}
use Rattle.httparse.specs.Ascii.{line_feed}
use Rattle.httparse.specs.Grammar.{Field, RequestHead, IsRequestHead, print_request, ResponseHead, IsResponseHead}
use Rattle.httparse.specs.Grammar.{print_response}

-- the most bytes of a head, with its empty line
abbrev pub max_head : ℕ
max_head = 16384

-- the most fields of a head
abbrev pub max_fields : ℕ
max_fields = 64

-- how many line feeds there are
abbrev pub line_feeds : List ℕ → ℕ
line_feeds bytes = count_by (λ b. b == line_feed) bytes

-- a grammar of heads: its trees, which of them are valid, their bytes and their fields
pub record Words : Type 1 where
  pub Head : Type 0
  pub IsHead : Head → Type 0
  pub print : Head → List ℕ
  pub fields : Head → List Field

abbrev pub requests : Words
requests = record { Head = RequestHead; IsHead = IsRequestHead; print = print_request; fields = λ h. h.fields }

abbrev pub responses : Words
responses = record { Head = ResponseHead; IsHead = IsResponseHead; print = print_response; fields = λ h. h.fields }

-- the text is that head and then rest
abbrev pub Reads : (w : Words) → List ℕ → w.Head → List ℕ → Type 0
Reads w text head rest = w.IsHead head × (text ≡ w.print head ++ rest)

-- no prefix of the text is a head
abbrev pub HasNone : Words → List ℕ → Type 0
HasNone w text = (head : w.Head) (rest : List ℕ) → ¬ (Reads w text head rest)

-- no bytes can follow that make a prefix a head
abbrev pub NeverHas : Words → List ℕ → Type 0
NeverHas w text = (more : List ℕ) → HasNone w (text ++ more)

-- the text is a head of the grammar that keeps the limits, and then rest
pub record ReadsHead (w : Words) (text : List ℕ) (head : w.Head) (rest : List ℕ) : Type 0 where
  pub reads : Reads w text head rest
  pub short : length (w.print head) ≤ max_head
  pub few : length (w.fields head) ≤ max_fields

-- each head that begins the text has more fields
abbrev pub HasOnlyLongHeads : Words → List ℕ → Type 0
HasOnlyLongHeads w text =
    (head : w.Head) (rest : List ℕ) → Reads w text head rest → max_fields < length (w.fields head)

-- A prefix that ends in a line feed may be refused if it has no head however it goes on, and if
-- it has over 65 line feeds and no head of at most 64 fields.
abbrev pub MayBeRefused : Words → List ℕ → Type 0
MayBeRefused w front =
    NeverHas w front ⊎ ((max_fields + 1 < line_feeds front) × HasOnlyLongHeads w front)

-- A prefix of the text that ends in a line feed may be refused, and nothing before it is a head.
pub record IsRefused (w : Words) (text : List ℕ) : Type 0 where
  pub before : List ℕ
  pub rest : List ℕ
  pub cut : text ≡ (before ++ line_feed ∷ []) ++ rest
  pub short : length before < max_head
  pub none_before : HasNone w before
  pub refused : MayBeRefused w (before ++ line_feed ∷ [])

-- the first 16,384 bytes have no head
pub record IsTooLong (w : Words) (text : List ℕ) : Type 0 where
  pub front : List ℕ
  pub rest : List ℕ
  pub cut : text ≡ front ++ rest
  pub full : length front ≡ max_head
  pub none : HasNone w front

-- the text has fewer than 16,384 bytes, and no head
pub record IsUnfinished (w : Words) (text : List ℕ) : Type 0 where
  pub short : length text < max_head
  pub none : HasNone w text

-- the text ends inside a head: it has a byte, and no head yet
abbrev pub IsCutHead : Words → List ℕ → Type 0
IsCutHead w text = (0 < length text) × IsUnfinished w text
