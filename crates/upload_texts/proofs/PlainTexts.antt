-- The bytes of written targets: those of names, digests and references may stand in a path, in a query and in a
-- request line.
use Rattle.std.proofs.Common.{◌≡◌, ◌≢◌, ℕ, ◌/◌, ◌%◌, ◌<◌, ◌||◌, ◌==◌, cond, Bool, true, false, codes, List, [], ◌∷◌}
use Rattle.std.proofs.Common.{◌++◌, All, length, get_or, refl, arith, ◌∙◌, sym, ap, IsTrue, inl, inr}
use Rattle.std.specs.Prelude.{Option, Some, None, nat_le}
use Rattle.std.proofs.lemmas.Bool.{and_parts, cases_Bool}
use Rattle.std.proofs.lemmas.Bool.Decides.{nat_tests}
use Rattle.std.proofs.lemmas.List.Elements.{All-append, All-weaker, All-cons, All-nil, All-get_or, All-head, All-tail}
use Rattle.std.proofs.lemmas.List.Sums.{AllPass-from_list_all}
use Rattle.std.specs.Int.{is_in_range}
use Rattle.std.specs.List.{list_all}
use Rattle.httparse.specs.Grammar.{AllPass, is_uri_byte}
use Rattle.http_uri.specs.ByteClasses.{is_path_byte, is_query_byte}
use Rattle.hex.specs.Hex.{encode_with, encode_lower, lower_digits}
use Rattle.upload_names.specs.declared.name.Place.{Place}
use Rattle.upload_names.specs.declared.name.Place.TheVariants.{WordStart, InWord, BehindUnderscore, BehindHyphen}
use Rattle.upload_names.specs.NameBytes.{is_word_byte, longest_name}
use Rattle.upload_names.specs.NamePass.{is_name, is_in_grammar, passes, place_behind, place_behind_joint}
use Rattle.upload_names.specs.declared.digest.Algorithm.{Algorithm}
use Rattle.upload_names.specs.declared.digest.Algorithm.TheVariants.{Sha256, Sha512}
use Rattle.upload_names.specs.Digest.{Digest, IsDigest, digest_text, prefix_of}
use Rattle.upload_names.specs.Reference.{reference_text}
use Rattle.upload_names.proofs.ReferenceTexts.{is_reference_byte, reference_text-bytes}
use Rattle.upload_texts.specs.Paths.{blob_path, upload_path}

-- ---- texts whose bytes pass a test

pub AllPass-each : (test : ℕ → Bool) (P : ℕ → Type 0) (text : List ℕ) → ((b : ℕ) → test b ≡ true → P b)
    → AllPass test text → All P text
AllPass-each test P text h = All-weaker (λ b. IsTrue (test b)) P h text

pub AllPass-weaker : (test other : ℕ → Bool) (text : List ℕ) → ((b : ℕ) → test b ≡ true → other b ≡ true)
    → AllPass test text → AllPass other text
AllPass-weaker test other text h = AllPass-each test (λ b. IsTrue (other b)) text h

pub AllPass-append : (test : ℕ → Bool) (a b : List ℕ) → AllPass test a → AllPass test b → AllPass test (a ++ b)
AllPass-append test a b = All-append (λ c. IsTrue (test c)) a b

pub AllPass-cons : (test : ℕ → Bool) (b : ℕ) (text : List ℕ) → test b ≡ true → AllPass test text
    → AllPass test (b ∷ text)
AllPass-cons test b text h t = All-cons (λ c. IsTrue (test c)) b text h t

pub AllPass-nil : (test : ℕ → Bool) → AllPass test []
AllPass-nil test = All-nil (λ c. IsTrue (test c))

-- ---- the bytes of a target

-- of a path: a letter in lower case, a digit, or one of `-./:_`
abbrev pub is_plain_byte : ℕ → Bool
is_plain_byte b = is_in_range 97 122 b || is_in_range 45 58 b || (b == 95)

-- of a query: also `=` and `&`
abbrev pub is_parameter_byte : ℕ → Bool
is_parameter_byte b = is_plain_byte b || (b == 61) || (b == 38)

-- of both, and the `?` between them
abbrev pub is_target_byte : ℕ → Bool
is_target_byte b = is_parameter_byte b || (b == 63)

abbrev pub IsPlain : List ℕ → Type 0
IsPlain text = AllPass is_plain_byte text

abbrev pub IsParameters : List ℕ → Type 0
IsParameters text = AllPass is_parameter_byte text

abbrev pub IsTarget : List ℕ → Type 0
IsTarget text = AllPass is_target_byte text

-- no byte of the text is c
abbrev pub Lacks : ℕ → List ℕ → Type 0
Lacks c text = All (λ b. b ≢ c) text

plain_is_parameter : (b : ℕ) → is_plain_byte b ≡ true → is_parameter_byte b ≡ true
plain_is_parameter b h = grind (arith, nat_tests)

parameter_is_target : (b : ℕ) → is_parameter_byte b ≡ true → is_target_byte b ≡ true
parameter_is_target b h = grind (arith, nat_tests)

plain_in_path : (b : ℕ) → is_plain_byte b ≡ true → is_path_byte b ≡ true
plain_in_path b h = grind (arith, nat_tests)

parameter_in_query : (b : ℕ) → is_parameter_byte b ≡ true → is_query_byte b ≡ true
parameter_in_query b h = grind (arith, nat_tests)

target_in_line : (b : ℕ) → is_target_byte b ≡ true → is_uri_byte b ≡ true
target_in_line b h = grind (arith, nat_tests)

target_ascii : (b : ℕ) → is_target_byte b ≡ true → b < 128
target_ascii b h = grind (arith, nat_tests)

pub IsParameters-plain : (text : List ℕ) → IsPlain text → IsParameters text
IsParameters-plain text h = AllPass-weaker is_plain_byte is_parameter_byte text plain_is_parameter h

pub IsTarget-parameters : (text : List ℕ) → IsParameters text → IsTarget text
IsTarget-parameters text h = AllPass-weaker is_parameter_byte is_target_byte text parameter_is_target h

pub IsTarget-plain : (text : List ℕ) → IsPlain text → IsTarget text
IsTarget-plain text h = IsTarget-parameters text (IsParameters-plain text h)

pub path_bytes : (text : List ℕ) → IsPlain text → AllPass is_path_byte text
path_bytes text h = AllPass-weaker is_plain_byte is_path_byte text plain_in_path h

pub query_bytes : (text : List ℕ) → IsParameters text → AllPass is_query_byte text
query_bytes text h = AllPass-weaker is_parameter_byte is_query_byte text parameter_in_query h

pub line_bytes : (text : List ℕ) → IsTarget text → AllPass is_uri_byte text
line_bytes text h = AllPass-weaker is_target_byte is_uri_byte text target_in_line h

pub ascii_bytes : (text : List ℕ) → IsTarget text → All (λ b. b < 128) text
ascii_bytes text h = AllPass-each is_target_byte (λ b. b < 128) text target_ascii h

-- a text lacks what its test refuses
pub lacks : (test : ℕ → Bool) (c : ℕ) (text : List ℕ) → test c ≡ false → AllPass test text → Lacks c text
lacks test c text refused h = AllPass-each test (λ b. b ≢ c) text (λ b passed same. differs b passed same) h
  where
    differs : (b : ℕ) → test b ≡ true → b ≡ c → ⊥
    differs b passed same = let both : false ≡ true = sym refused ∙ ap test (sym same) ∙ passed in cc both

-- ---- names

joint_plain : (place : Place) (c : ℕ) → is_plain_byte c ≡ false → place_behind_joint place c ≡ None
joint_plain WordStart c h = refl
joint_plain InWord c h = grind (arith, nat_tests)
joint_plain BehindUnderscore c h = grind (arith, nat_tests)
joint_plain BehindHyphen c h = grind (arith, nat_tests)

not_word : (c : ℕ) → is_plain_byte c ≡ false → is_word_byte c ≡ false
not_word c h = grind (arith, nat_tests)

no_place : (place : Place) (c : ℕ) → is_plain_byte c ≡ false → place_behind place c ≡ None
no_place place c h = ap (λ b. cond b (Some InWord) (place_behind_joint place c)) (not_word c h) ∙ joint_plain place c h

passes_plain : (text : List ℕ) (place : Place) → passes (Some place) text ≡ true → IsPlain text
passes_plain [] place h = AllPass-nil is_plain_byte
passes_plain (c ∷ text) place h =
    elim (cases_Bool (is_plain_byte c)) [
      | inl plain ↦ AllPass-cons is_plain_byte c text plain (behind_some (place_behind place c) (passes_plain text) h)
      | inr other ↦ let none : false ≡ true = sym (ap (λ o. passes o text) (no_place place c other)) ∙ h in cc none
    ]
  where
    behind_some : (o : Option Place) → ((next : Place) → passes (Some next) text ≡ true → IsPlain text)
        → passes o text ≡ true → IsPlain text
    behind_some None ih e = cc e
    behind_some (Some next) ih e = ih next e

pub name_plain : (name : List ℕ) → is_name name ≡ true → IsPlain name
unfolding is_name is_in_grammar
name_plain name h = passes_plain name WordStart (and_parts (is_in_grammar name) (nat_le (length name) longest_name) h).0

-- ---- digests and references

-- a letter in lower case, a digit, or one of `-:`
abbrev pub is_tail_byte : ℕ → Bool
is_tail_byte b = is_in_range 97 122 b || is_in_range 48 58 b || (b == 45)

-- what may stand behind the last slash of a path
abbrev pub IsTail : List ℕ → Type 0
IsTail text = AllPass is_tail_byte text

tail_is_plain : (b : ℕ) → is_tail_byte b ≡ true → is_plain_byte b ≡ true
tail_is_plain b h = grind (arith, nat_tests)

pub IsPlain-tail : (text : List ℕ) → IsTail text → IsPlain text
IsPlain-tail text h = AllPass-weaker is_tail_byte is_plain_byte text tail_is_plain h

lower_digit : (i : ℕ) → i < 16 → is_tail_byte (get_or lower_digits i 0) ≡ true
lower_digit i h =
    All-get_or (λ c. IsTrue (is_tail_byte c)) lower_digits i 0 h (AllPass-from_list_all is_tail_byte lower_digits refl)

hex_tail : (bytes : List ℕ) → All (λ b. b < 256) bytes → IsTail (encode_lower bytes)
unfolding encode_with
hex_tail [] h = AllPass-nil is_tail_byte
hex_tail (b ∷ bytes) h =
    let small : b < 256 = All-head (λ b. b < 256) b bytes h in
    let low = get_or lower_digits (b % 16) 0 in
    let rest =
    AllPass-cons is_tail_byte low (encode_lower bytes) (lower_digit (b % 16) (omega arith))
    (hex_tail bytes (All-tail (λ b. b < 256) b bytes h)) in
    AllPass-cons is_tail_byte (get_or lower_digits (b / 16) 0) (low ∷ encode_lower bytes)
    (lower_digit (b / 16) (omega arith)) rest

prefix_tail : (algorithm : Algorithm) → IsTail (prefix_of algorithm)
prefix_tail Sha256 = AllPass-from_list_all is_tail_byte (codes "sha256:") refl
prefix_tail Sha512 = AllPass-from_list_all is_tail_byte (codes "sha512:") refl

pub digest_tail : (digest : Digest) → IsDigest digest → IsTail (digest_text digest)
unfolding digest_text
digest_tail digest h =
    AllPass-append is_tail_byte (prefix_of digest.algorithm) (encode_lower digest.bytes) (prefix_tail digest.algorithm)
    (hex_tail digest.bytes h.bytes)

pub digest_plain : (digest : Digest) → IsDigest digest → IsPlain (digest_text digest)
digest_plain digest h = IsPlain-tail (digest_text digest) (digest_tail digest h)

reference_is_tail : (b : ℕ) → is_reference_byte b ≡ true → is_tail_byte b ≡ true
reference_is_tail b h = grind (arith, nat_tests)

pub reference_tail : (at : List ℕ) → IsTail (reference_text at)
reference_tail at =
    AllPass-weaker is_reference_byte is_tail_byte (reference_text at) reference_is_tail (reference_text-bytes at)

-- ---- paths

-- /v2/<name><kind><tail>
path_plain : (name kind tail : List ℕ) → is_name name ≡ true → list_all is_plain_byte kind ≡ true → IsPlain tail
    → IsPlain (codes "/v2/" ++ (name ++ (kind ++ tail)))
path_plain name kind tail n k t =
    AllPass-append is_plain_byte (codes "/v2/") (name ++ (kind ++ tail))
    (AllPass-from_list_all is_plain_byte (codes "/v2/") refl)
    (AllPass-append is_plain_byte name (kind ++ tail) (name_plain name n)
    (AllPass-append is_plain_byte kind tail (AllPass-from_list_all is_plain_byte kind k) t))

pub blob_plain : (name : List ℕ) (digest : Digest) → is_name name ≡ true → IsDigest digest
    → IsPlain (blob_path name (digest_text digest))
blob_plain name digest n d = path_plain name (codes "/blobs/") (digest_text digest) n refl (digest_plain digest d)

pub uploads_plain : (name : List ℕ) → is_name name ≡ true → IsPlain (upload_path name [])
uploads_plain name n = path_plain name (codes "/blobs/uploads/") [] n refl (AllPass-nil is_plain_byte)

pub upload_plain : (name at : List ℕ) → is_name name ≡ true → IsPlain (upload_path name (reference_text at))
upload_plain name at n =
    path_plain name (codes "/blobs/uploads/") (reference_text at) n refl
    (IsPlain-tail (reference_text at) (reference_tail at))
