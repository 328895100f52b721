-- Folds one after another.
use Rattle.std.proofs.Common.{◌≡◌, List, [], ◌∷◌, ◌++◌, refl}
use Rattle.upload_claims.specs.declared.change.Change.{Change}
use Rattle.upload_claims.specs.Claims.{Claims}
use Rattle.upload_claims.specs.Fold.{apply, fold}

pub fold-append : (c : Claims) (xs ys : List Change) → fold c (xs ++ ys) ≡ fold (fold c xs) ys
fold-append c [] ys = refl
fold-append c (x ∷ xs) ys = fold-append (apply c x) xs ys
