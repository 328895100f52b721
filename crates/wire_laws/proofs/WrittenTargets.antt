-- A written target is read as the URI of its path and its query.
use Rattle.std.proofs.Common.{◌≡◌, ◌≢◌, ℕ, ◌<◌, ◌≤◌, ◌==◌, false, List, [], ◌∷◌, ◌++◌, length, get_or, refl, arith, ◌∙◌}
use Rattle.std.proofs.Common.{sym, subst, IfSome, Option, Some, None, inl, inr, append-nil, take_all, lt-ltb}
use Rattle.std.proofs.Common.{le-ltb, length-append, rules}
use Rattle.std.proofs.Math.Seq.{take-append_seam, get_or-append_seam, drop-append-add}
use Rattle.std.proofs.lemmas.Bool.Decides.{nat_tests}
use Rattle.std.proofs.lemmas.List.{get_or_append_left}
use Rattle.std.proofs.lemmas.Str.Ascii.{IsAscii-from_all}
use Rattle.std.proofs.lemmas.List.Elements.{All-get_or}
use Rattle.std.proofs.lemmas.Str.{IsUtf8-from_ascii}
use Rattle.std.specs.Prelude.{IsSome}
use Rattle.std.specs.Option.{ForSome, ForNone}
use Rattle.http_uri.specs.declared.uri.Uri.{Uri}
use Rattle.http_uri.specs.ByteClasses.{is_path_byte, is_query_byte, index_of, split_once_front, split_once_back}
use Rattle.http_uri.specs.Grammar.{AllPass, IsPathAndQuery}
use Rattle.http_uri.specs.Uri.{Spells, uri_path, uri_query}
use Rattle.http_uri.proofs.RunLemmas.{index_of_is}
use Rattle.upload_client.specs.AskText.{query_text}
use Rattle.upload_wire.specs.Target.{HasNoSlash}
use Rattle.upload_texts.proofs.PlainTexts.{IsPlain, IsParameters, IsTail, IsTarget, Lacks, is_plain_byte, is_tail_byte}
use Rattle.upload_texts.proofs.PlainTexts.{is_target_byte, lacks, AllPass-append, AllPass-cons, IsTarget-plain}
use Rattle.upload_texts.proofs.PlainTexts.{IsTarget-parameters, path_bytes, query_bytes, ascii_bytes}

-- ---- texts cut at a byte

index_at : (c : ℕ) (a b : List ℕ) → Lacks c a → index_of c (a ++ c ∷ b) ≡ length a
index_at c a b h =
    grind (
      arith,
      index_of_is c (a ++ c ∷ b) (length a) (omega (arith, length-append a (c ∷ b))),
      length-append a (c ∷ b),
      get_or_append_left a (c ∷ b) 0,
      get_or-append_seam a c b 0,
    )

index_none : (c : ℕ) (a : List ℕ) → Lacks c a → index_of c a ≡ length a
index_none c a h = search (rules, arith, index_of_is, All-get_or)

pub front_at : (c : ℕ) (a b : List ℕ) → Lacks c a → split_once_front c (a ++ c ∷ b) ≡ a
front_at c a b h = rw (index_at c a b h) (take-append_seam a (c ∷ b))

pub back_at : (c : ℕ) (a b : List ℕ) → Lacks c a → split_once_back c (a ++ c ∷ b) ≡ Some b
back_at c a b h = search (rules, arith, length-append, index_at, lt-ltb, drop-append-add)

pub front_none : (c : ℕ) (a : List ℕ) → Lacks c a → split_once_front c a ≡ a
front_none c a h = rw (index_none c a h) (take_all (length a) a (omega arith))

pub back_none : (c : ℕ) (a : List ℕ) → Lacks c a → split_once_back c a ≡ None
back_none c a h = rw (index_none c a h, le-ltb (length a) (length a) (omega arith)) refl

-- ---- targets

abbrev no_text : Option (List ℕ)
no_text = None

no_scheme : ForSome no_text (λ _. IsSome no_text)
no_scheme = λ x e. cc e

no_authority : (kept : List ℕ) → ForNone no_text (ForSome no_text (λ _. kept ≡ []))
no_authority kept = λ n x e. cc e

-- a path and a query that begin with a slash, spelled as they are
abbrev uri_with : List ℕ → Uri
uri_with kept = record {
  scheme = None;
  authority = None;
  path_and_query = kept;
  absolute = no_scheme;
  authority_alone = no_authority kept;
}

pub target_bytes : (path : List ℕ) (query : Option (List ℕ)) → IsPlain path → IfSome query IsParameters
    → IsTarget (path ++ query_text query)
target_bytes path None p q = rw append-nil (IsTarget-plain path p)
target_bytes path (Some query) p q =
    search (rules, arith, AllPass-append, is_target_byte, IsTarget-plain, AllPass-cons, IsTarget-parameters)

-- a path and a query are read from the text that joins them
pub record IsSpelled (path : List ℕ) (query : Option (List ℕ)) : Type 0 where
  pub uri : Uri
  pub spells : Spells (path ++ query_text query) uri
  pub path_is : uri_path uri ≡ path
  pub query_is : uri_query uri ≡ query

spells_kept : (text : List ℕ) → get_or text 0 0 ≡ 47 → IsTarget text
    → AllPass is_path_byte (split_once_front 63 text) → IfSome (split_once_back 63 text) (AllPass is_query_byte)
    → length text ≤ 65534 → Spells text (uri_with text)
spells_kept text slash bytes path query short =
    let kept : IsPathAndQuery text = record {
      start = inr (inr (inl slash));
      path = path;
      query = query;
      utf8 = IsUtf8-from_ascii text (IsAscii-from_all text (ascii_bytes text bytes));
      short = short;
    } in
    let same : split_once_front 35 text ≡ text = front_none 35 text (lacks is_target_byte 35 text refl bytes) in (
      short,
      (
        (inr slash, record { start = inr (rw slash refl); short = short; kept = subst IsPathAndQuery (sym same) kept }),
        sym same,
      ),
    )

not_zero : (n : ℕ) → 0 < n → (n == 0) ≡ false
not_zero n h = grind (arith, nat_tests)

path_read : (k path : List ℕ) → 0 < length k → 0 < length path → split_once_front 63 k ≡ path
    → uri_path (uri_with k) ≡ path
path_read k path h g e = cc (not_zero (length k) h, not_zero (length path) g)

pub nonempty : (path : List ℕ) → get_or path 0 0 ≡ 47 → 0 < length path
nonempty [] h = absurd (omega arith)
nonempty (x ∷ path) h = omega arith

no_mark : (path : List ℕ) → IsPlain path → Lacks 63 path
no_mark path h = lacks is_plain_byte 63 path refl h

spelled_path : (path : List ℕ) → IsPlain path → get_or path 0 0 ≡ 47 → length path ≤ 65534 → IsSpelled path None
spelled_path path h slash short =
    let cut = no_mark path h in
    let whole = IsTarget-plain path h in
    let some = nonempty path slash in
    let query : IfSome (split_once_back 63 path) (AllPass is_query_byte) = rw (back_none 63 path cut) tt in
    record {
      uri = uri_with path;
      spells =
          rw append-nil (spells_kept path slash whole (rw (front_none 63 path cut) (path_bytes path h)) query short);
      path_is = path_read path path some some (front_none 63 path cut);
      query_is = back_none 63 path cut;
    }

spelled_both : (path query : List ℕ) → IsPlain path → get_or path 0 0 ≡ 47 → IsParameters query
    → length (path ++ 63 ∷ query) ≤ 65534 → IsSpelled path (Some query)
spelled_both path query h slash q short =
    let text = path ++ 63 ∷ query in
    let cut = no_mark path h in
    let some = nonempty path slash in
    let first : get_or text 0 0 ≡ 47 = get_or_append_left path (63 ∷ query) 0 0 some ∙ slash in
    let front : AllPass is_path_byte (split_once_front 63 text) = rw (front_at 63 path query cut) (path_bytes path h) in
    let back : IfSome (split_once_back 63 text) (AllPass is_query_byte) =
    rw (back_at 63 path query cut) (query_bytes query q) in
    record {
      uri = uri_with text;
      spells = spells_kept text first (target_bytes path (Some query) h q) front back short;
      path_is = path_read text path (omega (arith, length-append path (63 ∷ query))) some (front_at 63 path query cut);
      query_is = back_at 63 path query cut;
    }

pub spelled : (path : List ℕ) (query : Option (List ℕ)) → IsPlain path → get_or path 0 0 ≡ 47
    → IfSome query IsParameters → length (path ++ query_text query) ≤ 65534 → IsSpelled path query
spelled path None p slash q short = spelled_path path p slash (subst (λ t. length t ≤ 65534) (append-nil path) short)
spelled path (Some query) p slash q short = spelled_both path query p slash q short

-- ---- the tail of a path

-- a text that may stand behind the last slash has none
pub HasNoSlash-tail : (text : List ℕ) → IsTail text → HasNoSlash text
HasNoSlash-tail text h k inside = All-get_or (λ b. b ≢ 47) text k 0 inside (lacks is_tail_byte 47 text refl h)
