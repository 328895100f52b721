-- A written query gives its parameters back.
use Rattle.std.proofs.lemmas.Grind.{common_steps}
use Rattle.std.proofs.Common.{ap, ◌≡◌, ◌≢◌, ℕ, true, codes, List, [], ◌∷◌, ◌++◌, refl, arith, Some}
use Rattle.std.proofs.Common.{None, length-append, rules}
use Rattle.std.proofs.lemmas.List.Elements.{All-append, All-cons}
use Rattle.std.proofs.lemmas.List.Sums.{AllPass-from_list_all}
use Rattle.std.proofs.lemmas.Str.{IsUtf8-from_ascii, utf8_lossy-IsUtf8}
use Rattle.std.proofs.lemmas.Str.Ascii.{IsAscii-from_all}
use Rattle.std.specs.List.{list_all}
use Rattle.form_urlencoded.specs.Form.{raw_pairs, split_once, split_pair}
use Rattle.form_urlencoded.proofs.FormLemmas.{raw_pairs-nil, raw_pairs_first, split_once_before_at, split_once_after_at}
use Rattle.form_urlencoded.proofs.FormLemmas.{split_once_before_none, split_once_after_none, decode_plain}
use Rattle.http_wire.specs.Query.{parameter, first_value, decoded}
use Rattle.upload_texts.proofs.PlainTexts.{IsPlain, IsParameters, Lacks, is_plain_byte, is_parameter_byte, lacks}
use Rattle.upload_texts.proofs.PlainTexts.{AllPass-each, AllPass-append, IsParameters-plain, IsTarget-plain}
use Rattle.upload_texts.proofs.PlainTexts.{ascii_bytes}

-- a plain text decodes to itself
read_plain : (text : List ℕ) → IsPlain text → decoded text ≡ text
read_plain text h =
    grind (
      arith,
      common_steps,
      decode_plain,
      AllPass-each,
      is_plain_byte,
      utf8_lossy-IsUtf8,
      IsUtf8-from_ascii,
      IsAscii-from_all,
      ascii_bytes,
      IsTarget-plain,
    )

-- ---- <name>=<value>

pair_lacks_and : (name value : List ℕ) → IsPlain name → IsPlain value → Lacks 38 (name ++ 61 ∷ value)
pair_lacks_and name value n v =
    All-append (λ b. b ≢ 38) name (61 ∷ value) (lacks is_plain_byte 38 name refl n)
    (All-cons (λ b. b ≢ 38) 61 value (λ e. absurd (omega arith)) (lacks is_plain_byte 38 value refl v))

pair_split : (name value : List ℕ) → IsPlain name → split_pair (name ++ 61 ∷ value) ≡ (name, value)
pair_split name value n = search (rules, arith, lacks, is_plain_byte, split_once_before_at, split_once_after_at)

-- the pair in front of what is left
first_pair : (name value text rest : List ℕ) → IsPlain name → (split_once 38 text).0 ≡ name ++ 61 ∷ value
    → (split_once 38 text).1 ≡ rest → raw_pairs text ≡ (name, value) ∷ raw_pairs rest
first_pair name value text rest n before after = search (rules, arith, length-append, raw_pairs_first, pair_split)

one_pair : (name value : List ℕ) → IsPlain name → IsPlain value → raw_pairs (name ++ 61 ∷ value) ≡ (name, value) ∷ []
one_pair name value n v =
    grind (arith, Lacks, pair_lacks_and, first_pair, split_once_before_none, split_once_after_none, raw_pairs-nil)

-- <name>=<value>&<more>
more_pairs : (name value more : List ℕ) → IsPlain name → IsPlain value
    → raw_pairs ((name ++ 61 ∷ value) ++ 38 ∷ more) ≡ (name, value) ∷ raw_pairs more
more_pairs name value more n v =
    search (rules, arith, Lacks, pair_lacks_and, first_pair, split_once_before_at, split_once_after_at)

-- ---- the queries that are written

literal : (text : List ℕ) → list_all is_plain_byte text ≡ true → IsPlain text
literal text h = AllPass-from_list_all is_plain_byte text h

pub digest_parameters : (value : List ℕ) → IsPlain value → IsParameters (codes "digest=" ++ value)
digest_parameters value h =
    search (rules, arith, AllPass-append, is_parameter_byte, AllPass-from_list_all, IsParameters-plain)

-- digest=<digest>
pub digest_parameter : (value : List ℕ) → IsPlain value
    → (parameter (codes "mount") (codes "digest=" ++ value) ≡ None)
    × (parameter (codes "digest") (codes "digest=" ++ value) ≡ Some value)
digest_parameter value v =
    grind (
      arith,
      IsPlain (codes "digest"),
      literal (codes "digest") refl,
      one_pair (codes "digest") value,
      read_plain (codes "digest"),
      read_plain value v,
    )

pub mount_parameters : (digest source : List ℕ) → IsPlain digest → IsPlain source
    → IsParameters (codes "mount=" ++ (digest ++ (codes "&from=" ++ source)))
mount_parameters digest source d s =
    search (rules, arith, AllPass-append, is_parameter_byte, AllPass-from_list_all, IsParameters-plain)

-- mount=<digest>&from=<source>
pub mount_parameter : (digest source : List ℕ) → IsPlain digest → IsPlain source
    → (parameter (codes "mount") (codes "mount=" ++ (digest ++ (codes "&from=" ++ source))) ≡ Some digest)
    × (parameter (codes "from") (codes "mount=" ++ (digest ++ (codes "&from=" ++ source))) ≡ Some source)
mount_parameter digest source d s =
    grind (
      arith,
      IsPlain (codes "mount"),
      literal (codes "mount") refl,
      IsPlain (codes "from"),
      literal (codes "from") refl,
      more_pairs (codes "mount") digest (codes "from=" ++ source),
      one_pair (codes "from") source,
      read_plain (codes "mount"),
      read_plain digest d,
      read_plain (codes "from"),
      read_plain source s,
    )

-- no query has no parameters
pub no_parameter : (name : List ℕ) → parameter name [] ≡ None
no_parameter name = ap (first_value name) raw_pairs-nil
