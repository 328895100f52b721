-- Fields that are read back: what was written is read again, whatever stands after it.
use Rattle.std.proofs.Common.{◌≡◌, ℕ, ◌^◌, ◌<◌, List, ◌++◌, length, Option, Some, Ok, refl, ap, ◌∙◌, rules, arith}
use Rattle.std.proofs.Common.{append_assoc}
use Rattle.std.specs.Int.{Width, w32, w64, byte_len, from_be_bytes, to_be_bytes}
use Rattle.std.proofs.lemmas.Bool.{le-ltb}
use Rattle.std.proofs.lemmas.List.{take_at, drop_at, length-append}
use Rattle.std.proofs.lemmas.Nat.{from_be_bytes-to_be_bytes_4, from_be_bytes-to_be_bytes_8}
use Rattle.upload_claims.specs.declared.fault.RecordFault.{RecordFault}
use Rattle.upload_claims.specs.Fields.{Read, both, made, tested, bytes_at, number_at, text_at, measured, IsMeasured}

-- each lawful value is read from its text
pub record IsReadBack {A : Type 0} (read : List ℕ → Read A) (text : A → List ℕ) (Lawful : A → Type 0) : Type 0 where
  pub again : (x : A) (rest : List ℕ) → Lawful x → read (text x ++ rest) ≡ Ok (x, rest)

-- ---- from fields to fields

pub both_again : {A B : Type 0} (r : List ℕ → Read A) (s : List ℕ → Read B) (t : A → List ℕ) (u : B → List ℕ)
    (V : A → Type 0) (W : B → Type 0) → IsReadBack r t V → IsReadBack s u W
    → IsReadBack (both r s) (λ p. t p.0 ++ u p.1) (λ p. V p.0 × W p.1)
both_again r s t u V W f g = record {
  again = λ p rest lawful.
      ap (both r s) (append_assoc (t p.0) (u p.1) rest)
      ∙ rw (f.again p.0 (u p.1 ++ rest) lawful.0, g.again p.1 rest lawful.1) refl;
}

pub made_again : {A B : Type 0} (make : A → B) (r : List ℕ → Read A) (t : A → List ℕ) (V : A → Type 0)
    → IsReadBack r t V → (x : A) (rest : List ℕ) → V x → made make r (t x ++ rest) ≡ Ok (make x, rest)
made_again make r t V f x rest lawful = rw (f.again x rest lawful) refl

-- a value that is spelled passes the test as itself
pub tested_again : {A B : Type 0} (test : A → Option B) (fault : RecordFault) (r : List ℕ → Read A) (t : A → List ℕ)
    (V : A → Type 0) (spell : B → A) (W : B → Type 0) → IsReadBack r t V
    → ((y : B) → W y → (test (spell y) ≡ Some y) × V (spell y))
    → IsReadBack (tested test fault r) (λ y. t (spell y)) W
tested_again test fault r t V spell W f spelled = record {
  again = λ y rest lawful. rw (f.again (spell y) rest (spelled y lawful).1, (spelled y lawful).0) refl;
}

-- ---- numbers and texts

pub bytes_again : (n : ℕ) → IsReadBack (bytes_at n) (λ x. x) (λ x. length x ≡ n)
unfolding bytes_at
bytes_again n = search (rules, arith, le-ltb, length-append, take_at, drop_at)

pub length-wide4 : (n : ℕ) → length (to_be_bytes w32 n) ≡ 4
length-wide4 n = refl

number_again : (w : Width) (limit : ℕ) → ((n : ℕ) → length (to_be_bytes w n) ≡ byte_len w)
    → ((n : ℕ) → n < limit → from_be_bytes w (to_be_bytes w n) ≡ n)
    → IsReadBack (number_at w) (to_be_bytes w) (λ n. n < limit)
unfolding number_at
number_again w limit len back = record {
  again = λ n rest lt. rw ((bytes_again (byte_len w)).again (to_be_bytes w n) rest (len n), back n lt) refl;
}

pub number32 : IsReadBack (number_at w32) (to_be_bytes w32) (λ n. n < 2 ^ 32)
number32 = number_again w32 (2 ^ 32) (λ n. refl) from_be_bytes-to_be_bytes_4

pub number64 : IsReadBack (number_at w64) (to_be_bytes w64) (λ n. n < 2 ^ 64)
number64 = number_again w64 (2 ^ 64) (λ n. refl) from_be_bytes-to_be_bytes_8

pub text_again : IsReadBack text_at measured IsMeasured
unfolding text_at
text_again = record {
  again = λ x rest len.
      ap text_at (append_assoc (to_be_bytes w32 (length x)) x rest)
      ∙ rw (number32.again (length x) (x ++ rest) len, (bytes_again (length x)).again x rest refl) refl;
}
