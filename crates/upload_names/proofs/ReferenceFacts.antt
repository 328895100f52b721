-- References and their numbers.
use Rattle.std.proofs.Common.{◌≡◌, ℕ, ◌<◌, ◌^◌, List, [], ◌∷◌, length, get_or, Some, sym, arith}
use Rattle.std.specs.Int.{from_be_bytes, w32}
use Rattle.std.proofs.lemmas.List.{get_or-take}
use Rattle.std.specs.Prelude.{All}
use Rattle.std.proofs.Common.{inl, refl}
use Rattle.std.proofs.lemmas.Nat.{from_be_bytes-to_be_bytes_4}
use Rattle.uuid.specs.Text.{lower}
use Rattle.uuid.proofs.RoundTrips.{parses_hyphenated}
use Rattle.upload_names.specs.Reference.{reference, number_of, reference_of, reference_text}

-- a reference has the number that it was made of
pub number_of-reference : (n : ℕ) (secret : List ℕ) → n < 2 ^ 32 → number_of (reference n secret) ≡ n
unfolding number_of reference
number_of-reference n secret h = from_be_bytes-to_be_bytes_4 n h

-- a reference is read back from its text
pub reference_of-text : (at : List ℕ) → length at ≡ 16 → All (λ b. b < 256) at
    → reference_of (reference_text at) ≡ Some at
unfolding reference_of reference_text
reference_of-text at long small = sym (parses_hyphenated lower at (inl refl) long small)

-- the number that four bytes write
pub number_of-bytes : (bytes : List ℕ) (n : ℕ)
    → n ≡ from_be_bytes w32 (get_or bytes 0 0 ∷ get_or bytes 1 0 ∷ get_or bytes 2 0 ∷ get_or bytes 3 0 ∷ [])
    → n ≡ number_of bytes
unfolding number_of
number_of-bytes bytes n h =
    cc (
      get_or-take 4 bytes 0 0 (omega arith),
      get_or-take 4 bytes 1 0 (omega arith),
      get_or-take 4 bytes 2 0 (omega arith),
      get_or-take 4 bytes 3 0 (omega arith),
    )
