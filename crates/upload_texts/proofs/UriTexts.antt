-- A text spells one URI: its path and its query are one.
use Rattle.std.proofs.Common.{◌≡◌, ℕ, List, [], length, ap, not, ◌||◌, ◌==◌, is_some}
use Rattle.std.specs.Prelude.{Option, if◌then◌else◌}
use Rattle.http_uri.specs.declared.uri.Uri.{Uri}
use Rattle.http_uri.specs.Grammar.{path_of, query_of}
use Rattle.http_uri.specs.Uri.{Spells, uri_path, uri_query}
use Rattle.http_uri.proofs.Theorems.{Spells_unique}

abbrev path_by : Option (List ℕ) → List ℕ → List ℕ
path_by scheme kept = if not (length kept == 0) || is_some scheme then path_of kept else []

-- the URIs that a text spells have one path
pub path_unique : (text : List ℕ) (u v : Uri) → Spells text u → Spells text v → uri_path u ≡ uri_path v
path_unique text u v x y = let same = Spells_unique text u v x y in λ i. path_by (same.0 i) (same.2 i)

-- and one query
pub query_unique : (text : List ℕ) (u v : Uri) → Spells text u → Spells text v → uri_query u ≡ uri_query v
query_unique text u v x y = ap query_of (Spells_unique text u v x y).2
