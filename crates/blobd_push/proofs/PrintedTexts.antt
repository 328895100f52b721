-- What is printed as text is UTF-8: digests, and codes that are visible ASCII.
use Rattle.std.proofs.Common.{◌≡◌, ℕ, ◌<◌, List, true, cond, sym, ap, arith, rules}
use Rattle.std.specs.Prelude.{Result, Ok, Err, Some, codes, MatchResult}
use Rattle.std.specs.Result.{result_unwrap_or}
use Rattle.std.specs.Char.{is_ascii_graphic}
use Rattle.std.specs.List.{list_all}
use Rattle.std.specs.Str.{IsUtf8}
use Rattle.std.proofs.lemmas.Bool.Decides.{nat_tests}
use Rattle.std.proofs.lemmas.List.Elements.{All-weaker}
use Rattle.std.proofs.lemmas.List.Sums.{AllPass-from_list_all}
use Rattle.std.proofs.lemmas.Str.{IsUtf8-from_ascii}
use Rattle.std.proofs.lemmas.Str.Ascii.{IsAscii-from_all}
use Rattle.upload_names.specs.Digest.{Digest, IsDigest, digest_text}
use Rattle.upload_texts.proofs.PlainTexts.{IsTarget-plain, ascii_bytes, digest_plain}
use Rattle.blobd_push.specs.Pushed.{is_word, shown_code}

-- the text of a digest
pub digest_utf8 : (digest : Digest) → IsDigest digest → IsUtf8 (digest_text digest)
digest_utf8 digest h =
    search (rules, arith, IsUtf8-from_ascii, IsAscii-from_all, ascii_bytes, IsTarget-plain, digest_plain)

graphic_ascii : (b : ℕ) → is_ascii_graphic b ≡ true → b < 128
graphic_ascii b h = grind (arith, nat_tests)

-- a visible text
pub visible_utf8 : (text : List ℕ) → list_all is_ascii_graphic text ≡ true → IsUtf8 text
visible_utf8 text h =
    search (rules, arith, IsUtf8-from_ascii, IsAscii-from_all, All-weaker, graphic_ascii, AllPass-from_list_all)

-- bytes that are UTF-8 are read as a text of the same bytes
pub read_text : {T E : Type 0} (r : Result T E) (now : T → List ℕ) (other : T) (bytes : List ℕ) (P : E → Type 0)
    → IsUtf8 bytes → MatchResult r (λ s. (now s ≡ bytes) × IsUtf8 bytes) (λ e. ¬ (IsUtf8 bytes) × P e)
    → now (result_unwrap_or r other) ≡ bytes
read_text (Ok s) now other bytes P utf8 h = h.0
read_text (Err e) now other bytes P utf8 h = absurd (h.0 utf8)

-- a word is visible
pub word_visible : (text : List ℕ) → is_word text ≡ true → list_all is_ascii_graphic text ≡ true
word_visible text h = grind arith

-- a code that is a word is printed as it is
pub shown_word : (code : List ℕ) → is_word code ≡ true → code ≡ shown_code (Some code)
shown_word code h = sym (ap (λ b. cond b code (codes "-")) h)
