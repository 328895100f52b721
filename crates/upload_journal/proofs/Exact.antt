-- Fields that are read exactly: what is read is what was written, and what was written is read again.
use Rattle.std.proofs.Common.{◌≡◌, ℕ, ◌+◌, ◌^◌, ◌<◌, Bool, true, false, cond, List, ◌++◌, rules}
use Rattle.std.proofs.Common.{length, get_or, take, drop, Option, Some, None, Result, Ok, Err, refl, sym, ap, subst}
use Rattle.std.proofs.Common.{◌∙◌, append_assoc, arith}
use Rattle.std.specs.Int.{Width, w32, w64, byte_len, from_be_bytes, to_be_bytes}
use Rattle.std.proofs.lemmas.Bool.{cases_lt, ltb-false, le-ltb}
use Rattle.std.proofs.lemmas.List.{take_at, drop_at, take-append-drop, length-append, length-take, get_or-drop}
use Rattle.std.proofs.lemmas.List.{get_or-take, get_or_past}
use Rattle.std.proofs.lemmas.Nat.{be_bytes_4, be_bytes_8, from_be_bytes-to_be_bytes_4, from_be_bytes-to_be_bytes_8}
use Rattle.upload_journal.specs.declared.fault.EntryFault.{EntryFault}
use Rattle.upload_journal.specs.Fields.{◌>>=◌, Read, both, made, or_fault, tested, bytes_at, number_at, text_at}
use Rattle.upload_journal.specs.Fields.{measured, IsMeasured}

abbrev pub IsBytes : List ℕ → Type 0
IsBytes bytes = (i : ℕ) → get_or bytes i 0 < 256

IsBytes-drop : (n : ℕ) (bytes : List ℕ) → IsBytes bytes → IsBytes (drop n bytes)
IsBytes-drop n bytes h i = rw get_or-drop (h (n + i))

pub IsBytes-take : (n : ℕ) (bytes : List ℕ) → IsBytes bytes → IsBytes (take n bytes)
IsBytes-take n bytes h i = search (rules, arith, cases_lt, get_or-take, get_or_past, length-take)

-- the value of a step that did not fail
pub bind_ok : {A B : Type 0} (r : Result A EntryFault) (f : A → Result B EntryFault) (y : B) → (r >>= f) ≡ Ok y
    → (x : A) × (r ≡ Ok x) × (f x ≡ Ok y)
bind_ok (Ok x) f y e = (x, refl, e)
bind_ok (Err fault) f y e = absurd cc

-- a test that did not fail
pub guard_ok : {A : Type 0} (b : Bool) (fault : EntryFault) (x : Result A EntryFault) (y : A)
    → cond b (Err fault) x ≡ Ok y → (b ≡ false) × (x ≡ Ok y)
guard_ok true fault x y e = absurd cc
guard_ok false fault x y e = (refl, e)

-- one that passed a value on
pub ended : {A : Type 0} (b : Bool) (fault : EntryFault) (x y : A) → cond b (Ok x) (Err fault) ≡ Ok y → (b ≡ true) × (x ≡ y)
ended true fault x y e = (refl, cc)
ended false fault x y e = absurd cc

abbrev done : {A : Type 0} → A → Result A EntryFault
done x = Ok x

pub ok_is : {A : Type 0} (x y : A) → done x ≡ done y → x ≡ y
ok_is x y e = cc

-- a field: how it is read, its text, and what has a text
pub record IsExact {A : Type 0} (read : List ℕ → Read A) (text : A → List ℕ) (Lawful : A → Type 0) : Type 0 where
  pub takes : (bytes : List ℕ) (x : A) (rest : List ℕ) → IsBytes bytes → read bytes ≡ Ok (x, rest)
      → (bytes ≡ text x ++ rest) × Lawful x × IsBytes rest
  pub again : (x : A) (rest : List ℕ) → Lawful x → read (text x ++ rest) ≡ Ok (x, rest)

-- ---- from fields to fields

pub both_exact : {A B : Type 0} (r : List ℕ → Read A) (s : List ℕ → Read B) (t : A → List ℕ) (u : B → List ℕ)
    (V : A → Type 0) (W : B → Type 0) → IsExact r t V → IsExact s u W
    → IsExact (both r s) (λ p. t p.0 ++ u p.1) (λ p. V p.0 × W p.1)
both_exact {A = A} {B = B} r s t u V W f g = record {
  takes = λ bytes p rest fits e.
      let a = bind_ok (r bytes) (λ x. s x.1 >>= λ y. Ok ((x.0, y.0), y.1)) (p, rest) e in
      let b = bind_ok (s a.0.1) (λ y. Ok ((a.0.0, y.0), y.1)) (p, rest) a.2 in
      let first = f.takes bytes a.0.0 a.0.1 fits a.1 in
      let second = g.takes a.0.1 b.0.0 b.0.1 first.2 b.1 in
      let whole : bytes ≡ (t a.0.0 ++ u b.0.0) ++ b.0.1 =
      first.0 ∙ ap (λ (x : List ℕ). t a.0.0 ++ x) second.0 ∙ sym (append_assoc (t a.0.0) (u b.0.0) b.0.1) in
      subst (λ (q : (A × B) × List ℕ). (bytes ≡ (t q.0.0 ++ u q.0.1) ++ q.1) × (V q.0.0 × W q.0.1) × IsBytes q.1)
      (ok_is ((a.0.0, b.0.0), b.0.1) (p, rest) b.2) (whole, (first.1, second.1), second.2);
  again = λ p rest lawful.
      ap (both r s) (append_assoc (t p.0) (u p.1) rest)
      ∙ rw (f.again p.0 (u p.1 ++ rest) lawful.0, g.again p.1 rest lawful.1) refl;
}

pub record Makes {A B : Type 0} (make : A → B) (t : A → List ℕ) (V : A → Type 0) (bytes : List ℕ) (y : B)
    (rest : List ℕ) : Type 0 where
  pub from : A
  pub is : y ≡ make from
  pub parts : bytes ≡ t from ++ rest
  pub lawful : V from
  pub fits : IsBytes rest

pub made_takes : {A B : Type 0} (make : A → B) (r : List ℕ → Read A) (t : A → List ℕ) (V : A → Type 0) → IsExact r t V
    → (bytes : List ℕ) (y : B) (rest : List ℕ) → IsBytes bytes → made make r bytes ≡ Ok (y, rest)
    → Makes make t V bytes y rest
made_takes {B = B} make r t V f bytes y rest fits e =
    let a = bind_ok (r bytes) (λ x. Ok (make x.0, x.1)) (y, rest) e in
    let first = f.takes bytes a.0.0 a.0.1 fits a.1 in
    let is = ok_is (make a.0.0, a.0.1) (y, rest) a.2 in
    let end : a.0.1 ≡ rest = ap (λ (p : B × List ℕ). p.1) is in
    record {
      from = a.0.0;
      is = ap (λ (p : B × List ℕ). p.0) (sym is);
      parts = first.0 ∙ ap (λ (x : List ℕ). t a.0.0 ++ x) end;
      lawful = first.1;
      fits = subst IsBytes end first.2;
    }

pub made_again : {A B : Type 0} (make : A → B) (r : List ℕ → Read A) (t : A → List ℕ) (V : A → Type 0) → IsExact r t V
    → (x : A) (rest : List ℕ) → V x → made make r (t x ++ rest) ≡ Ok (make x, rest)
made_again make r t V f x rest lawful = rw (f.again x rest lawful) refl

some_of : {B : Type 0} (fault : EntryFault) (o : Option B) (y : B) (rest after : List ℕ)
    → or_fault fault after o ≡ Ok (y, rest) → (o ≡ Some y) × (after ≡ rest)
some_of {B = B} fault (Some x) y rest after e = search (rules, arith, ok_is)
some_of fault None y rest after e = absurd cc

-- what passes a test: each lawful value has one text that passes as it
pub record Passes {A B : Type 0} (test : A → Option B) (spell : B → A) (V : A → Type 0) (W : B → Type 0) : Type 0 where
  pub passed : (x : A) (y : B) → V x → test x ≡ Some y → (x ≡ spell y) × W y
  pub spelled : (y : B) → W y → (test (spell y) ≡ Some y) × V (spell y)

pub tested_exact : {A B : Type 0} (test : A → Option B) (fault : EntryFault) (r : List ℕ → Read A) (t : A → List ℕ)
    (V : A → Type 0) (spell : B → A) (W : B → Type 0) → IsExact r t V → Passes test spell V W
    → IsExact (tested test fault r) (λ y. t (spell y)) W
tested_exact {B = B} test fault r t V spell W f p = record {
  takes = λ bytes y rest fits e.
      let a = bind_ok (r bytes) (λ x. or_fault fault x.1 (test x.0)) (y, rest) e in
      let b = some_of fault (test a.0.0) y rest a.0.1 a.2 in
      let first = f.takes bytes a.0.0 a.0.1 fits a.1 in
      let is = p.passed a.0.0 y first.1 b.0 in
      let parts : bytes ≡ t (spell y) ++ a.0.1 = first.0 ∙ ap (λ x. t x ++ a.0.1) is.0 in
      (parts ∙ ap (λ (x : List ℕ). t (spell y) ++ x) b.1, is.1, subst IsBytes b.1 first.2);
  again = λ y rest lawful.
      rw (f.again (spell y) rest (p.spelled y lawful).1, (p.spelled y lawful).0) refl;
}

-- ---- numbers and texts

pub bytes_exact : (n : ℕ) → IsExact (bytes_at n) (λ x. x) (λ x. length x ≡ n)
unfolding bytes_at
bytes_exact n =
    search (
      rules,
      arith,
      guard_ok,
      ltb-false,
      ok_is,
      take-append-drop,
      length-take,
      IsBytes-drop,
      le-ltb,
      length-append,
      take_at,
      drop_at,
    )

-- as bytes_exact, with what is known of the bytes that were taken
taken_fits : (n : ℕ) (bytes x rest : List ℕ) → IsBytes bytes → bytes_at n bytes ≡ Ok (x, rest) → IsBytes x
unfolding bytes_at
taken_fits n bytes x rest fits e = search (rules, arith, guard_ok, ok_is, IsBytes-take)

pub record IsWide (w : Width) (limit : ℕ) : Type 0 where
  pub len : (n : ℕ) → length (to_be_bytes w n) ≡ byte_len w
  pub back : (bytes : List ℕ) → length bytes ≡ byte_len w → IsBytes bytes
      → to_be_bytes w (from_be_bytes w bytes) ≡ bytes
  pub again : (n : ℕ) → n < limit → from_be_bytes w (to_be_bytes w n) ≡ n
  pub below : (bytes : List ℕ) → IsBytes bytes → from_be_bytes w bytes < limit

wide32 : IsWide w32 (2 ^ 32)
wide32 = search (rules, arith, be_bytes_4, from_be_bytes-to_be_bytes_4)

wide64 : IsWide w64 (2 ^ 64)
wide64 = search (rules, arith, be_bytes_8, from_be_bytes-to_be_bytes_8)

wide_exact : (w : Width) (limit : ℕ) → IsWide w limit → IsExact (number_at w) (to_be_bytes w) (λ n. n < limit)
unfolding number_at
wide_exact w limit wide = record {
  takes = λ bytes n rest fits e.
      let a = bind_ok (bytes_at (byte_len w) bytes) (λ x. Ok (from_be_bytes w x.0, x.1)) (n, rest) e in
      let first = (bytes_exact (byte_len w)).takes bytes a.0.0 a.0.1 fits a.1 in
      let fits' = taken_fits (byte_len w) bytes a.0.0 a.0.1 fits a.1 in
      let back = wide.back a.0.0 first.1 fits' in
      subst (λ (p : ℕ × List ℕ). (bytes ≡ to_be_bytes w p.0 ++ p.1) × (p.0 < limit) × IsBytes p.1)
      (ok_is (from_be_bytes w a.0.0, a.0.1) (n, rest) a.2)
      (first.0 ∙ ap (λ (x : List ℕ). x ++ a.0.1) (sym back), wide.below a.0.0 fits', first.2);
  again = λ n rest lt.
      rw ((bytes_exact (byte_len w)).again (to_be_bytes w n) rest (wide.len n), wide.again n lt) refl;
}

pub number32 : IsExact (number_at w32) (to_be_bytes w32) (λ n. n < 2 ^ 32)
number32 = wide_exact w32 (2 ^ 32) wide32

pub number64 : IsExact (number_at w64) (to_be_bytes w64) (λ n. n < 2 ^ 64)
number64 = wide_exact w64 (2 ^ 64) wide64

pub text_exact : IsExact text_at measured IsMeasured
unfolding text_at
text_exact = record {
  takes = λ bytes x rest fits e.
      let a = bind_ok (number_at w32 bytes) (λ n. bytes_at n.0 n.1) (x, rest) e in
      let first = number32.takes bytes a.0.0 a.0.1 fits a.1 in
      let second = (bytes_exact a.0.0).takes a.0.1 x rest first.2 a.2 in
      let whole : bytes ≡ (to_be_bytes w32 a.0.0 ++ x) ++ rest =
      first.0 ∙ ap (λ (y : List ℕ). to_be_bytes w32 a.0.0 ++ y) second.0
      ∙ sym (append_assoc (to_be_bytes w32 a.0.0) x rest) in (
        whole ∙ ap (λ (n : ℕ). (to_be_bytes w32 n ++ x) ++ rest) (sym second.1),
        omega (arith, second.1, first.1),
        second.2,
      );
  again = λ x rest len.
      ap text_at (append_assoc (to_be_bytes w32 (length x)) x rest)
      ∙ rw (number32.again (length x) (x ++ rest) len, (bytes_exact (length x)).again x rest refl) refl;
}
