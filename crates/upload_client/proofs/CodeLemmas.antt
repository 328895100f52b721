-- The code of a body.
use Rattle.std.proofs.Common.{◌≡◌, ℕ, List, refl, arith, rules}
use Rattle.std.specs.Prelude.{IsUtf8, Some, None}
use Rattle.std.proofs.lemmas.Str.{IsUtf8-from_is_utf8, is_utf8-from_IsUtf8}
use Rattle.std.proofs.lemmas.Bool.{cases_Bool}
use Rattle.serde_json.specs.Data.{Data}
use Rattle.serde_json.specs.Read.{read}
use Rattle.upload_client.specs.AnswerText.{code_in, code_of}

pub code_none : (body : List ℕ) → (IsUtf8 body → read body ≡ None) → None ≡ code_of body
code_none body none = search (rules, arith, cases_Bool, IsUtf8-from_is_utf8)

pub code_some : (body : List ℕ) (d : Data) → IsUtf8 body → read body ≡ Some d → code_of body ≡ code_in d
code_some body d text value = rw (is_utf8-from_IsUtf8 body text, value) refl
