-- A size line in the buffer.
use Rattle.std.proofs.Common.{◌≡◌, ◌≢◌, ℕ, ◌+◌, ◌^◌, ◌<◌, ◌≤◌, true, List, [], ◌∷◌, ◌++◌, All, length, take, drop}
use Rattle.std.proofs.Common.{get_or, arith, ◌∙◌, sym, ap, subst, append_assoc, add-one, rules}
use Rattle.std.specs.Prelude.{◌⊎◌}
use Rattle.std.proofs.Math.Seq.{take-suc}
use Rattle.std.proofs.Math.Nat.{pow-le-pow_right}
use Rattle.std.proofs.lemmas.List.{take_all, take-append-drop, take-append-le}
use Rattle.std.proofs.lemmas.Bool.Decides.{nat_tests}
use Rattle.std.proofs.lemmas.List.Elements.{All-head, All-tail}
use Rattle.std.proofs.lemmas.Int.Digits.{digits_value-lt}
use Rattle.std.specs.Str.Parse.{digits_value, AllDigits}
use Rattle.std.specs.Char.{is_ascii_hexdigit, digit_value}
use Rattle.http_wire.specs.States.{SourceState, InputState, input_state}
use Rattle.http_wire.specs.Reading.{Gave}
use Rattle.http_wire.specs.Inner.SizeLines.{StandsAt, IsLine, IsBounded, NeverLine}
use Rattle.http_wire.specs.Inner.ChunkReading.{TakesLine, BreaksLine, CutsLine, NeverEnd, BreaksEnd, CutsEnd}
use Rattle.http_wire.specs.declared.chunked.LineState.{LineState}
use Rattle.http_wire.specs.declared.chunked.LineState.TheVariants.{Digits, Ended}
use Rattle.http_wire.proofs.Bodies.LineLemmas.{IsHex}
use Rattle.http_wire.proofs.GaveLemmas.{gave_as}

hex_small : (b : ℕ) → is_ascii_hexdigit b ≡ true → digit_value b < 16
hex_small b h = grind (arith, nat_tests)

all_digits : (ds : List ℕ) → All IsHex ds → AllDigits 16 ds
all_digits [] h = tt
all_digits (x ∷ ds) h = (hex_small x (All-head IsHex x ds h), all_digits ds (All-tail IsHex x ds h))

pub value_small : (ds : List ℕ) → All IsHex ds → length ds ≤ 8 → digits_value 16 ds < 2 ^ 32
value_small ds h few = search (rules, arith, digits_value-lt, all_digits, pow-le-pow_right)

pub bounded : (front : List ℕ) (state : LineState) → StandsAt front state → IsBounded state
bounded front (Digits count value) h = omega (arith, value_small front h.hex h.few)
bounded front (Ended value) h = omega (arith, value_small h.digits h.size.hex h.size.few)

-- a read behind the bytes leaves them
pub front_kept : (a : InputState) (b : SourceState) (text : List ℕ) (at : ℕ) → Gave a b text → at ≤ length a.held
    → take at text ≡ take at a.held
front_kept a b text at gave le = ap (take at) gave.joined ∙ take-append-le at a.held gave.given le

pub front_stands : (a : InputState) (b : SourceState) (text : List ℕ) (at : ℕ) (state : LineState) → Gave a b text
    → at ≤ length a.held → StandsAt (take at a.held) state → StandsAt (take at text) state
front_stands a b text at state gave le = subst (λ t. StandsAt t state) (sym (front_kept a b text at gave le))

-- one more byte
pub front_next : (text : List ℕ) (at byte : ℕ) → (at < length text) × (byte ≡ get_or text at 0)
    → take (at + 1) text ≡ take at text ++ byte ∷ []
front_next text at byte there = search (rules, arith, add-one, take-suc)

pub cut_round : (text : List ℕ) (at b : ℕ) → take (at + 1) text ≡ take at text ++ b ∷ []
    → take at text ++ b ∷ drop (at + 1) text ≡ text
cut_round text at b next =
    cc (append_assoc (take at text) (b ∷ []) (drop (at + 1) text), take-append-drop (at + 1) text)

pub line_taken : (a : InputState) (b : SourceState) (text front : List ℕ) (at byte value : ℕ) → Gave a b text
    → take (at + 1) text ≡ front ++ byte ∷ [] → IsLine (front ++ byte ∷ []) value
    → TakesLine a (input_state (drop (at + 1) text) b) value
line_taken a b text front at byte value gave next is = search (rules, arith, gave_as, take-append-drop)

pub line_broken : (a : InputState) (b : SourceState) (text : List ℕ) (at byte : ℕ) (state : LineState) → Gave a b text
    → take (at + 1) text ≡ take at text ++ byte ∷ [] → StandsAt (take at text) state
    → NeverLine (take at text ++ byte ∷ []) → BreaksLine a b
line_broken a b text at byte state gave next stands never = record {
  before = take at text;
  byte = byte;
  rest = drop (at + 1) text;
  gave = gave_as (cut_round text at byte next) gave;
  state = state;
  stands = stands;
  never = never;
}

pub line_cut : (a : InputState) (b : SourceState) (text : List ℕ) (at : ℕ) (state : LineState) → Gave a b text
    → length text ≡ at → StandsAt (take at text) state → CutsLine a b
line_cut a b text at state gave len stands = search (rules, arith, take_all)

-- ---- the line end

pub never_second : (b : ℕ) → b ≢ 10 → NeverEnd ((13 ∷ []) ++ b ∷ [])
never_second b other more rest e = other (cc)

pub end_broken : (a : InputState) (b : SourceState) (text front : List ℕ) (at byte : ℕ) → Gave a b text
    → take (at + 1) text ≡ front ++ byte ∷ [] → (front ≡ []) ⊎ (front ≡ 13 ∷ []) → NeverEnd (front ++ byte ∷ [])
    → BreaksEnd a b
end_broken a b text front at byte gave next which never = record {
  before = front;
  byte = byte;
  rest = drop (at + 1) text;
  gave =
      gave_as (sym (append_assoc front (byte ∷ []) (drop (at + 1) text)) ∙ ap (λ t. t ++ drop (at + 1) text) (sym next)
      ∙ take-append-drop (at + 1) text) gave;
  front = which;
  never = never;
}

pub end_cut : (a : InputState) (b : SourceState) (text front : List ℕ) (at : ℕ) → Gave a b text → length text ≡ at
    → take at text ≡ front → (front ≡ []) ⊎ (front ≡ 13 ∷ []) → CutsEnd a b
end_cut a b text front at gave len start which = search (rules, arith, gave_as, take_all)
