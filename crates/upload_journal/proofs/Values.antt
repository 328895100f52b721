-- The fields of an entry are read exactly.
use Rattle.std.proofs.Common.{◌≡◌, ◌≢◌, ℕ, zero, suc, ◌^◌, ◌<◌, ◌≤◌, Bool, true, false, cond, eqb, List, [], ◌∷◌}
use Rattle.std.proofs.Common.{◌++◌, length, Option, Some, None, Ok, Err, refl, sym, ap, subst, ◌∙◌, append_assoc}
use Rattle.std.proofs.Common.{arith, rules, inl, inr, ◌⊎◌, length-append, lit≤}
use Rattle.std.specs.Prelude.{IsTrue, IfSome, nat_eq}
use Rattle.std.specs.Int.{w32, w64, to_be_bytes}
use Rattle.std.specs.List.{flat_map, AllByRecursion}
use Rattle.std.specs.Cmp.Lexicographic.{pointwise}
use Rattle.std.proofs.lemmas.Bool.{eqb-true, eqb-false, ne_eqb, leb-true, le-leb}
use Rattle.std.proofs.lemmas.List.Concat.{flat_map-cons}
use Rattle.hex.specs.Hex.{encode_lower, lower_digits}
use Rattle.hex.proofs.HexLemmas.{length-encode_with}
use Rattle.upload_names.specs.declared.digest.Algorithm.{Algorithm}
use Rattle.upload_names.specs.declared.digest.Algorithm.TheVariants.{Sha256, Sha512}
use Rattle.upload_names.specs.NamePass.{is_name}
use Rattle.upload_names.specs.Digest.{Digest, IsDigest, digest_text, digest_of, prefix_of, hash_size}
use Rattle.upload_names.specs.Reference.{reference_text}
use Rattle.upload_names.specs.ByteRange.{Span, IsSpan}
use Rattle.upload_names.proofs.NameFacts.{IsName-from}
use Rattle.upload_names.proofs.DigestFacts.{digest_of-spells, digest_of-text}
use Rattle.upload_names.proofs.ReferenceTexts.{length-reference_text}
use Rattle.upload_journal.specs.declared.fault.EntryFault.TheVariants.{BadName, BadDigest, BadReference, BadRange}
use Rattle.upload_journal.specs.declared.fault.EntryFault.TheVariants.{BadBody, BadAnswer}
use Rattle.upload_journal.specs.declared.body.BodyFile.{BodyFile}
use Rattle.upload_journal.specs.declared.body.KeptBody.{KeptBody}
use Rattle.upload_journal.specs.declared.body.KeptBody.TheVariants.{Here, InFiles}
use Rattle.upload_journal.specs.declared.entries.KeptAnswer.{KeptAnswer}
use Rattle.upload_journal.specs.declared.entries.KeptAnswer.TheVariants.{Begun, Taken, Stored}
use Rattle.upload_journal.specs.Fields.{◌>>=◌, Read, both, made, byte_at, number_at, text_at}
use Rattle.upload_journal.specs.Fields.{measured, IsMeasured, name_of, name_at, digest_at, if_written, reference_in}
use Rattle.upload_journal.specs.Fields.{IsReference, reference_at, range_text, span_in, span_at, range_at, most_here}
use Rattle.upload_journal.specs.Fields.{file_text, files_text, body_text, IsFile, IsKeptBody, file_at, files_of}
use Rattle.upload_journal.specs.Fields.{files_at, short_in, here_at, body_at, told_text, IsTold, told_at}
use Rattle.upload_journal.proofs.Exact.{IsBytes, bind_ok, guard_ok, ok_is, IsExact, both_exact, made_takes}
use Rattle.upload_journal.proofs.Exact.{made_again, Passes, tested_exact, number32, number64, text_exact}

-- ---- names

if_some : {A : Type 0} (b : Bool) (x y : A) → (cond b (Some x) None) ≡ Some y → (b ≡ true) × (x ≡ y)
if_some true x y e = (refl, cc)
if_some false x y e = absurd cc

names_pass : Passes name_of (λ name. name) IsMeasured (λ name. IsTrue (is_name name))
names_pass = record {
  passed = λ x y short e.
      let p = if_some (is_name x) x y e in
      (p.1, subst (λ t. IsTrue (is_name t)) p.1 p.0);
  spelled = λ y lawful.
      let n = IsName-from y lawful in
      let short = n.short in
      (rw lawful refl, omega (arith, short));
}

pub name_exact : IsExact name_at measured (λ name. IsTrue (is_name name))
unfolding name_at
name_exact = tested_exact name_of BadName text_at measured IsMeasured (λ name. name) _ text_exact names_pass

-- ---- digests

short_prefix : (algorithm : Algorithm) → length (prefix_of algorithm) ≡ 7
short_prefix Sha256 = refl
short_prefix Sha512 = refl

short_hash : (algorithm : Algorithm) → hash_size algorithm ≤ 64
short_hash Sha256 = lit≤ tt
short_hash Sha512 = lit≤ tt

short_digest : (digest : Digest) → IsDigest digest → IsMeasured (digest_text digest)
unfolding digest_text
short_digest digest d =
    omega (
      arith,
      length-append (prefix_of digest.algorithm) (encode_lower digest.bytes),
      short_prefix digest.algorithm,
      short_hash digest.algorithm,
      length-encode_with lower_digits digest.bytes,
    )

digests_pass : Passes digest_of digest_text IsMeasured IsDigest
digests_pass = record {
  passed = λ x y short e. let is = digest_of-spells x y e in (is.1, is.0);
  spelled = λ y lawful. (digest_of-text y lawful, short_digest y lawful);
}

pub digest_exact : IsExact digest_at (λ digest. measured (digest_text digest)) IsDigest
unfolding digest_at
digest_exact =
    tested_exact digest_of BadDigest text_at measured IsMeasured digest_text IsDigest text_exact digests_pass

-- ---- references

same_refl : (x : List ℕ) → pointwise nat_eq x x ≡ true
same_refl x = search (rules, arith)

written_is : (text : List ℕ) (o : Option (List ℕ)) (at : List ℕ) → if_written text o ≡ Some at
    → (o ≡ Some at) × (reference_text at ≡ text)
written_is text None at e = absurd cc
written_is text (Some own) at e = search (rules, arith, if_some)

references_pass : Passes reference_in reference_text IsMeasured IsReference
references_pass = search (rules, arith, written_is, same_refl, length-reference_text)

pub reference_exact : IsExact reference_at (λ at. measured (reference_text at)) IsReference
unfolding reference_at
reference_exact =
    tested_exact reference_in BadReference text_at measured IsMeasured reference_text IsReference text_exact
    references_pass

-- ---- choices by a mark

-- which way a test went
pub chosen : {A : Type 0} (b : Bool) (x y z : A) → cond b x y ≡ z → ((b ≡ true) × (x ≡ z)) ⊎ ((b ≡ false) × (y ≡ z))
chosen true x y z e = inl (refl, e)
chosen false x y z e = inr (refl, e)

-- the mark before what was read
pub byte_ok : (bytes : List ℕ) (mark : ℕ) (rest : List ℕ) → byte_at bytes ≡ Ok (mark, rest) → bytes ≡ mark ∷ rest
byte_ok [] mark rest e = absurd cc
byte_ok (b ∷ bytes) mark rest e = search (rules, arith, ok_is)

pub behind : (bytes : List ℕ) (mark : ℕ) (rest : List ℕ) → bytes ≡ mark ∷ rest → IsBytes bytes → IsBytes rest
behind bytes mark rest e fits i = subst (λ (b : List ℕ). IsBytes b) e fits (suc i)

-- what was taken from bytes
abbrev pub Took : {A : Type 0} → (A → List ℕ) → (A → Type 0) → List ℕ → A → List ℕ → Type 0
Took text Lawful bytes x rest = (bytes ≡ text x ++ rest) × Lawful x × IsBytes rest

-- a value that a marked field was made into
pub marked : {A B : Type 0} (make : A → B) (r : List ℕ → Read A) (t : A → List ℕ) (V : A → Type 0) (text : B → List ℕ)
    (Lawful : B → Type 0) (mark : ℕ) → IsExact r t V → ((x : A) → text (make x) ≡ mark ∷ t x)
    → ((x : A) → V x → Lawful (make x)) → (bytes rest after : List ℕ) (y : B) → IsBytes bytes → bytes ≡ mark ∷ rest
    → made make r rest ≡ Ok (y, after) → Took text Lawful bytes y after
marked make r t V text Lawful mark f spelled lawful bytes rest after y fits is e =
    let m = made_takes make r t V f rest y after (behind bytes mark rest is fits) e in
    let parts : bytes ≡ text (make m.from) ++ after =
    is ∙ ap (λ (x : List ℕ). mark ∷ x) m.parts ∙ ap (λ (x : List ℕ). x ++ after) (sym (spelled m.from)) in
    subst (λ y. Took text Lawful bytes y after) (sym m.is) (parts, lawful m.from m.lawful, m.fits)

-- ---- ranges

spans_pass : Passes span_in (λ (s : Span). (s.first, s.last)) (λ p. (p.0 < 2 ^ 64) × (p.1 < 2 ^ 64)) IsSpan
spans_pass = search (rules, arith, if_some, le-leb)

pub span_exact : IsExact span_at (λ (s : Span). to_be_bytes w64 s.first ++ to_be_bytes w64 s.last) IsSpan
unfolding span_at
span_exact =
    tested_exact span_in BadRange (both (number_at w64) (number_at w64)) _ _ (λ (s : Span). (s.first, s.last)) IsSpan
    (both_exact (number_at w64) (number_at w64) _ _ _ _ number64 number64) spans_pass

abbrev pub IsRange : Option Span → Type 0
IsRange range = IfSome range IsSpan

range_takes : (bytes : List ℕ) (range : Option Span) (after : List ℕ) → IsBytes bytes
    → range_at bytes ≡ Ok (range, after) → Took range_text IsRange bytes range after
unfolding range_at
range_takes bytes range after fits e =
    let given = λ (mark : ℕ × List ℕ). cond (eqb mark.0 1) (made Some span_at mark.1) (Err BadRange) in
    let choice = λ (mark : ℕ × List ℕ). cond (eqb mark.0 0) (Ok (None, mark.1)) (given mark) in
    let a = bind_ok (byte_at bytes) choice (range, after) e in
    let front = byte_ok bytes a.0.0 a.0.1 a.1 in
    elim (chosen (eqb a.0.0 0) (Ok (None, a.0.1)) (given a.0) (Ok (range, after)) a.2) [
      | inl p ↦
          let zero-is : a.0.0 ≡ 0 = eqb-true _ _ p.0 in
          subst (λ (q : Option Span × List ℕ). Took range_text IsRange bytes q.0 q.1)
          (ok_is (None, a.0.1) (range, after) p.1)
          (front ∙ ap (λ (m : ℕ). m ∷ a.0.1) zero-is, tt, behind bytes a.0.0 a.0.1 front fits)
      | inr p ↦ elim (chosen (eqb a.0.0 1) (made Some span_at a.0.1) (Err BadRange) (Ok (range, after)) p.1) [
        | inl q ↦
            let one-is : a.0.0 ≡ 1 = eqb-true _ _ q.0 in
            marked Some span_at _ IsSpan range_text IsRange 1 span_exact (λ s. refl) (λ s h. h) bytes a.0.1 after range
            fits (front ∙ ap (λ (m : ℕ). m ∷ a.0.1) one-is) q.1
        | inr q ↦ absurd cc
      ]
    ]

range_again : (range : Option Span) (rest : List ℕ) → IsRange range
    → range_at (range_text range ++ rest) ≡ Ok (range, rest)
unfolding range_at
range_again None rest lawful = refl
range_again (Some span) rest lawful = made_again Some span_at _ IsSpan span_exact span rest lawful

pub range_exact : IsExact range_at range_text IsRange
range_exact = record { takes = range_takes; again = range_again }

-- ---- bodies

pub file_exact : IsExact file_at file_text IsFile
unfolding file_at
file_exact = record {
  takes = λ bytes file rest fits e.
      let m = made_takes (λ p. record { number = p.0; len = p.1 }) (both (number_at w64) (number_at w64)) _ _
      (both_exact (number_at w64) (number_at w64) _ _ _ _ number64 number64) bytes file rest fits e in
      subst (λ (f : BodyFile). Took file_text IsFile bytes f rest) (sym m.is) (m.parts, m.lawful, m.fits);
  again = λ file rest lawful.
      made_again (λ p. record { number = p.0; len = p.1 }) (both (number_at w64) (number_at w64)) _ _
      (both_exact (number_at w64) (number_at w64) _ _ _ _ number64 number64) (file.number, file.len) rest lawful;
}

abbrev pub AreFiles : ℕ → List BodyFile → Type 0
AreFiles n files = (length files ≡ n) × AllByRecursion IsFile files

files_take : (n : ℕ) (bytes : List ℕ) (files : List BodyFile) (rest : List ℕ) → IsBytes bytes
    → files_of n bytes ≡ Ok (files, rest) → Took (flat_map file_text) (AreFiles n) bytes files rest
unfolding files_of
files_take zero bytes files rest fits e = search (rules, arith, ok_is)
files_take (suc n) bytes files rest fits e =
    let a = bind_ok (file_at bytes) (λ first. files_of n first.1 >>= λ others. Ok (first.0 ∷ others.0, others.1))
    (files, rest) e in
    let b = bind_ok (files_of n a.0.1) (λ others. Ok (a.0.0 ∷ others.0, others.1)) (files, rest) a.2 in
    let first = file_exact.takes bytes a.0.0 a.0.1 fits a.1 in
    let second = files_take n a.0.1 b.0.0 b.0.1 first.2 b.1 in
    let whole : bytes ≡ (file_text a.0.0 ++ flat_map file_text b.0.0) ++ b.0.1 =
    first.0 ∙ ap (λ (x : List ℕ). file_text a.0.0 ++ x) second.0
    ∙ sym (append_assoc (file_text a.0.0) (flat_map file_text b.0.0) b.0.1) in
    subst (λ (q : List BodyFile × List ℕ). Took (flat_map file_text) (AreFiles (suc n)) bytes q.0 q.1)
    (ok_is (a.0.0 ∷ b.0.0, b.0.1) (files, rest) b.2) (
      whole ∙ ap (λ (x : List ℕ). x ++ b.0.1) (sym (flat_map-cons file_text a.0.0 b.0.0)),
      (ap suc second.1.0, (first.1, second.1.1)),
      second.2,
    )

files_again : (files : List BodyFile) (rest : List ℕ) → AllByRecursion IsFile files
    → files_of (length files) (flat_map file_text files ++ rest) ≡ Ok (files, rest)
unfolding files_of
files_again [] rest lawful = refl
files_again (file ∷ files) rest lawful =
    let regrouped : flat_map file_text (file ∷ files) ++ rest ≡ file_text file ++ (flat_map file_text files ++ rest) =
    ap (λ (x : List ℕ). x ++ rest) (flat_map-cons file_text file files)
    ∙ append_assoc (file_text file) (flat_map file_text files) rest in
    ap (files_of (suc (length files))) regrouped
    ∙ rw (file_exact.again file (flat_map file_text files ++ rest) lawful.0, files_again files rest lawful.1) refl

abbrev pub AreSomeFiles : List BodyFile → Type 0
AreSomeFiles files = IsKeptBody (InFiles files)

pub files_exact : IsExact files_at files_text AreSomeFiles
unfolding files_at
files_exact = record {
  takes = λ bytes files rest fits e.
      let a = bind_ok (number_at w32 bytes) (λ n. cond (eqb n.0 0) (Err BadBody) (files_of n.0 n.1)) (files, rest) e in
      let first = number32.takes bytes a.0.0 a.0.1 fits a.1 in
      let g = guard_ok (eqb a.0.0 0) BadBody (files_of a.0.0 a.0.1) (files, rest) a.2 in
      let second = files_take a.0.0 a.0.1 files rest first.2 g.1 in
      let some : a.0.0 ≢ 0 = eqb-false _ _ g.0 in
      let whole : bytes ≡ (to_be_bytes w32 a.0.0 ++ flat_map file_text files) ++ rest =
      first.0 ∙ ap (λ (x : List ℕ). to_be_bytes w32 a.0.0 ++ x) second.0
      ∙ sym (append_assoc (to_be_bytes w32 a.0.0) (flat_map file_text files) rest) in
      let len : length files ≡ a.0.0 = second.1.0 in
      let count : a.0.0 < 2 ^ 32 = first.1 in (
        whole ∙ ap (λ (n : ℕ). (to_be_bytes w32 n ++ flat_map file_text files) ++ rest) (sym len),
        (omega (arith, len, some), omega (arith, len, count), second.1.1),
        second.2,
      );
  again = λ files rest lawful.
      let some : eqb (length files) 0 ≡ false = ne_eqb _ _ (λ e. let h : 0 < length files = lawful.0 in omega arith) in
      ap files_at (append_assoc (to_be_bytes w32 (length files)) (flat_map file_text files) rest)
      ∙ rw (
        number32.again (length files) (flat_map file_text files ++ rest) lawful.1,
        some,
        files_again files rest lawful.2,
      ) refl;
}

abbrev IsShort : List ℕ → Type 0
IsShort text = length text ≤ most_here

shorts_pass : Passes short_in (λ (t : List ℕ). t) IsMeasured IsShort
shorts_pass = search (rules, arith, if_some, leb-true, le-leb)

here_exact : IsExact here_at measured IsShort
unfolding here_at
here_exact =
    tested_exact short_in BadBody text_at measured IsMeasured (λ (t : List ℕ). t) IsShort text_exact shorts_pass

body_takes : (bytes : List ℕ) (body : KeptBody) (after : List ℕ) → IsBytes bytes
    → body_at bytes ≡ Ok (body, after) → Took body_text IsKeptBody bytes body after
unfolding body_at
body_takes bytes body after fits e =
    let filed = λ (mark : ℕ × List ℕ). cond (eqb mark.0 1) (made InFiles files_at mark.1) (Err BadBody) in
    let choice = λ (mark : ℕ × List ℕ). cond (eqb mark.0 0) (made Here here_at mark.1) (filed mark) in
    let a = bind_ok (byte_at bytes) choice (body, after) e in
    let front = byte_ok bytes a.0.0 a.0.1 a.1 in
    elim (chosen (eqb a.0.0 0) (made Here here_at a.0.1) (filed a.0) (Ok (body, after)) a.2) [
      | inl p ↦
          let is : a.0.0 ≡ 0 = eqb-true _ _ p.0 in
          marked Here here_at _ IsShort body_text IsKeptBody 0 here_exact (λ t. refl) (λ t h. h) bytes a.0.1 after body
          fits (front ∙ ap (λ (m : ℕ). m ∷ a.0.1) is) p.1
      | inr p ↦ elim (chosen (eqb a.0.0 1) (made InFiles files_at a.0.1) (Err BadBody) (Ok (body, after)) p.1) [
        | inl q ↦
            let is : a.0.0 ≡ 1 = eqb-true _ _ q.0 in
            marked InFiles files_at _ AreSomeFiles body_text IsKeptBody 1 files_exact (λ t. refl) (λ t h. h) bytes
            a.0.1 after body fits (front ∙ ap (λ (m : ℕ). m ∷ a.0.1) is) q.1
        | inr q ↦ absurd cc
      ]
    ]

body_again : (body : KeptBody) (rest : List ℕ) → IsKeptBody body → body_at (body_text body ++ rest) ≡ Ok (body, rest)
unfolding body_at
body_again (Here body) rest lawful = made_again Here here_at _ IsShort here_exact body rest lawful
body_again (InFiles files) rest lawful = made_again InFiles files_at _ AreSomeFiles files_exact files rest lawful

pub body_exact : IsExact body_at body_text IsKeptBody
body_exact = record { takes = body_takes; again = body_again }

-- ---- answers

told_takes : (bytes : List ℕ) (told : KeptAnswer) (after : List ℕ) → IsBytes bytes
    → told_at bytes ≡ Ok (told, after) → Took told_text IsTold bytes told after
unfolding told_at
told_takes bytes told after fits e =
    let third = λ (mark : ℕ × List ℕ). cond (eqb mark.0 3) (made Stored digest_at mark.1) (Err BadAnswer) in
    let second = λ (mark : ℕ × List ℕ). cond (eqb mark.0 2) (made Taken (number_at w64) mark.1) (third mark) in
    let first = λ (mark : ℕ × List ℕ). cond (eqb mark.0 1) (made Begun reference_at mark.1) (second mark) in
    let a = bind_ok (byte_at bytes) first (told, after) e in
    let front = byte_ok bytes a.0.0 a.0.1 a.1 in
    elim (chosen (eqb a.0.0 1) (made Begun reference_at a.0.1) (second a.0) (Ok (told, after)) a.2) [
      | inl p ↦
          let is : a.0.0 ≡ 1 = eqb-true _ _ p.0 in
          marked Begun reference_at _ IsReference told_text IsTold 1 reference_exact (λ t. refl) (λ t h. h) bytes a.0.1
          after told fits (front ∙ ap (λ (m : ℕ). m ∷ a.0.1) is) p.1
      | inr p ↦ elim (chosen (eqb a.0.0 2) (made Taken (number_at w64) a.0.1) (third a.0) (Ok (told, after)) p.1) [
        | inl q ↦
            let is : a.0.0 ≡ 2 = eqb-true _ _ q.0 in
            marked Taken (number_at w64) _ (λ n. n < 2 ^ 64) told_text IsTold 2 number64 (λ t. refl) (λ t h. h) bytes
            a.0.1 after told fits (front ∙ ap (λ (m : ℕ). m ∷ a.0.1) is) q.1
        | inr q ↦ elim (chosen (eqb a.0.0 3) (made Stored digest_at a.0.1) (Err BadAnswer) (Ok (told, after)) q.1) [
          | inl r ↦
              let is : a.0.0 ≡ 3 = eqb-true _ _ r.0 in
              marked Stored digest_at _ IsDigest told_text IsTold 3 digest_exact (λ t. refl) (λ t h. h) bytes a.0.1
              after told fits (front ∙ ap (λ (m : ℕ). m ∷ a.0.1) is) r.1
          | inr r ↦ absurd cc
        ]
      ]
    ]

told_again : (told : KeptAnswer) (rest : List ℕ) → IsTold told → told_at (told_text told ++ rest) ≡ Ok (told, rest)
unfolding told_at
told_again told rest = search (rules, arith, made_again, reference_exact, number64, digest_exact)

pub told_exact : IsExact told_at told_text IsTold
told_exact = record { takes = told_takes; again = told_again }
