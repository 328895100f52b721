-- Which pairs of a repository and a blob a new journal leaves out.
use Rattle.std.specs.Prelude.{◌≡◌, ℕ, false, List, [], ◌∷◌, Option, Some, None}
use Rattle.std.specs.Borrow.{Bor}
use Rattle.std.specs.List.{All}
use Rattle.std.specs.BTreeSet.{contains}
use Rattle.upload_names.specs.Digest.{Digest}
use Rattle.upload_service.specs.Machine.{State, pair_cmp}
use Rattle.upload_service.specs.Forgotten.{forgotten}
use Rattle.upload_compact.specs.declared.leaving.Leaving.{Leaving}

-- nothing was said to refer to this repository's blob
abbrev pub IsNotReferenced : Leaving → List ℕ × Digest → Type 0
IsNotReferenced it pair = contains pair_cmp it.referenced pair ≡ false

-- these pairs may be left out: none of them if nothing is said, and else none that is referred to
abbrev pub MayGo : Option (Bor Leaving) → List (List ℕ × Digest) → Type 0
MayGo None gone = gone ≡ []
MayGo (Some leaving) gone = All (IsNotReferenced leaving.now) gone

-- a service that has forgotten these pairs, one after another
abbrev pub forgotten_all : List (List ℕ × Digest) → State → State
forgotten_all [] s = s
forgotten_all (pair ∷ pairs) s = forgotten_all pairs (forgotten s pair.0 pair.1)
