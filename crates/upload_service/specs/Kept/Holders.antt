-- What the repositories of a blob are kept in.
use Rattle.std.specs.Prelude.{◌≡◌, ◌&&◌, ℕ, Bool, List, [], ◌∷◌, Some, box_value, map as list_map}
use Rattle.std.specs.List.{list_any, list_all}
use Rattle.std.specs.Arc.{arc_value}
use Rattle.std.specs.Map.{lookup}
use Rattle.std.specs.declared.sync.Arc.{Arc}
use Rattle.upload_service.specs.declared.holders.Held.{Held}
use Rattle.upload_service.specs.declared.holders.Held.TheVariants as kinds
use Rattle.upload_service.specs.Machine.{same}

-- the names of the repositories
abbrev pub names_in : Held → List (List ℕ)
names_in (kinds.One only) = arc_value only ∷ []
names_in (kinds.Several names) = list_map arc_value (box_value names).keys

-- a name is among these, and no other is
abbrev pub is_alone : List ℕ → List (List ℕ) → Bool
is_alone name names = list_any (same name) names && list_all (same name) names

-- under each name is that name
abbrev pub AreShared : {Z : Type 0} → List (List ℕ × Arc (List ℕ) Z) → Type 0
AreShared {Z} entries =
    (name : List ℕ) (shared : Arc (List ℕ) Z) → lookup (same name) entries ≡ Some shared → arc_value shared ≡ name
