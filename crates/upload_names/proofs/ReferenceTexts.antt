-- The bytes of the texts of references.
use Rattle.std.proofs.Common.{◌≡◌, ℕ, zero, suc, ◌<◌, ◌||◌, ◌&&◌, ◌==◌, Bool, true, false, List, All, length}
use Rattle.std.proofs.Common.{refl, arith, IsTrue, if◌then◌else◌, rules}
use Rattle.std.specs.Prelude.{nat_le}
use Rattle.std.proofs.lemmas.Bool.Decides.{nat_tests}
use Rattle.std.proofs.lemmas.List.Elements.{All-append, All-cons, All-nil}
use Rattle.uuid.specs.Text.{by_index, lower, hex_digit, nibble}
use Rattle.uuid.proofs.TextLemmas.{by_index_length}
use Rattle.upload_names.specs.Reference.{reference_text}

-- a digit of 0 to 9 and a to f, or a hyphen
abbrev pub is_reference_byte : ℕ → Bool
is_reference_byte c = (nat_le 48 c && nat_le c 57) || (nat_le 97 c && nat_le c 102) || (c == 45)

abbrev AreReferenceBytes : List ℕ → Type 0
AreReferenceBytes text = All (λ c. IsTrue (is_reference_byte c)) text

digit_byte : (d : ℕ) → d < 16 → is_reference_byte (hex_digit lower d) ≡ true
digit_byte d h = grind (arith, nat_tests)

nibble_small : (xs : List ℕ) (k : ℕ) → nibble xs k < 16
nibble_small xs k = grind (arith, nat_tests)

hyphen_or : (t : Bool) (x : ℕ) → is_reference_byte x ≡ true → is_reference_byte (if t then 45 else x) ≡ true
hyphen_or true x h = refl
hyphen_or false x h = h

each_byte : (n : ℕ) (f : ℕ → ℕ) → ((k : ℕ) → is_reference_byte (f k) ≡ true) → AreReferenceBytes (by_index n f)
unfolding by_index
each_byte zero f h = All-nil (λ c. IsTrue (is_reference_byte c))
each_byte (suc n) f h = search (rules, arith, All-cons, All-nil, All-append, each_byte n f h)

-- a reference's text is made of digits and hyphens
pub reference_text-bytes : (at : List ℕ) → All (λ c. IsTrue (is_reference_byte c)) (reference_text at)
unfolding reference_text
reference_text-bytes at = search (rules, arith, each_byte, hyphen_or, digit_byte, nibble_small)

-- and has 36 bytes
pub length-reference_text : (at : List ℕ) → length (reference_text at) ≡ 36
unfolding reference_text
length-reference_text at = simp by_index_length
