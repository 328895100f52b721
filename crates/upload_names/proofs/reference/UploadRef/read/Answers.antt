use Rattle.std.proofs.Common.{◌≡◌, List, ℕ, Option, Some, None, refl, sym, true, false}
use Rattle.std.proofs.lemmas.Bool.{true≢false}
use Rattle.upload_names.specs.Reference.{reference_of}
use Rattle.upload_names.proofs.reference.UploadRef.read.Goals as goal

none_is : (o : Option (List ℕ)) → ((at : List ℕ) → o ≡ Some at → false ≡ true) → None ≡ o
none_is None h = refl
none_is (Some at) h = absurd (true≢false (sym (h at refl)))

pub returns-in-Ok : goal.returns-in-Ok
unfolding reference_of
returns-in-Ok c = c.in-Ok.ensures.bytes

pub returns-in-Err : goal.returns-in-Err
unfolding reference_of
returns-in-Err c = none_is _ (λ at e. c.in-Err.ensures.ok.1 (at, e))
