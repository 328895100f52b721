-- What the functions find that read a head, of any grammar.
use Rattle.std.specs.Prelude.{◌≡◌, ℕ, ◌+◌, ◌≤◌, ◌⊎◌, List, [], ◌∷◌, ◌++◌, length, map, take, drop, Result, Ok, Err}
use Rattle.httparse.specs.Ascii.{line_feed}
use Rattle.httparse.specs.Spans.{header_bytes}
use Rattle.httparse.specs.declared.spans.HeaderSpan.{HeaderSpan}
use Rattle.http_wire.specs.States.{InputState}
use Rattle.http_wire.specs.Reading.{HasEnded}
use Rattle.http_wire.specs.Fields.{Fields}
use Rattle.http_wire.specs.Fronts.{max_head, Words, Reads, HasNone, IsRefused, IsTooLong, IsCutHead, MayBeRefused}
use Rattle.http_wire.specs.declared.head.Verdict.{Verdict}
use Rattle.http_wire.specs.declared.head.Verdict.TheVariants.{Complete, Refused, Open}
use Rattle.http_wire.specs.declared.head.HeadRead.{HeadRead}
use Rattle.http_wire.specs.declared.head.HeadRead.TheVariants as Found
use Rattle.http_wire.specs.declared.fault.InputFault.{InputFault}
use Rattle.http_wire.specs.declared.fault.InputFault.TheVariants as Fault

-- what a parser of the grammar answers: which heads that begin a text it covers, how many bytes they have, and where
-- their fields are
pub record Spans (P : Type 0) : Type 1 where
  pub words : Words
  pub IsHeadOf : List ℕ → P → Type 0
  pub len : P → ℕ
  pub headers : P → List HeaderSpan

-- each head ends in a line feed, and what is covered is a head of the text
pub record AreLawful {P : Type 0} (s : Spans P) : Type 0 where
  pub ends : (h : s.words.Head) → (front : List ℕ) × (s.words.print h ≡ front ++ line_feed ∷ [])
  pub fits : (text : List ℕ) (p : P) → s.IsHeadOf text p → s.len p ≤ length text
  pub reads : (text : List ℕ) (p : P) → s.IsHeadOf text p
      → (h : s.words.Head) × Reads s.words text h (drop (s.len p) text)

-- the fields that the spans of a head cover
abbrev pub fields_of : {P : Type 0} → Spans P → List ℕ → P → Fields
fields_of s head p = map (header_bytes head) (s.headers p)

-- what the verdict says of a prefix
abbrev pub Judges : {P : Type 0} → Spans P → List ℕ → Verdict P → Type 0
Judges s front (Complete p) = s.IsHeadOf front p
Judges s front Refused = MayBeRefused s.words front
Judges s front Open = HasNone s.words front

-- the head is the first bytes of the text
pub record IsHeadAtFront {P : Type 0} (s : Spans P) (text : List ℕ) (p : P) : Type 0 where
  pub short : s.len p ≤ max_head
  pub in_range : s.len p ≤ length text
  pub head : s.IsHeadOf (take (s.len p) text) p

-- what the verdict on the prefix that ends at an index says of the text
abbrev pub JudgesAt : {P : Type 0} → Spans P → List ℕ → ℕ → Verdict P → Type 0
JudgesAt s text at (Complete p) = IsHeadAtFront s text p
JudgesAt s text at Refused = IsRefused s.words text
JudgesAt s text at Open = HasNone s.words (take (at + 1) text)

-- what a read of a head found in what the input holds
abbrev pub FindsHead : {P : Type 0} → Spans P → InputState → Result (HeadRead P) InputFault → Type 0
FindsHead s new (Ok Found.Over) = (new.held ≡ []) × HasEnded new.source
FindsHead s new (Ok Found.Refused) = IsRefused s.words new.held
FindsHead s new (Ok Found.TooLong) = IsTooLong s.words new.held
FindsHead s new (Ok (Found.Head p)) = IsHeadAtFront s new.held p
FindsHead s new (Err Fault.Truncated) = IsCutHead s.words new.held × HasEnded new.source
FindsHead s new (Err Fault.Read) = (new.held ≡ []) ⊎ IsCutHead s.words new.held
