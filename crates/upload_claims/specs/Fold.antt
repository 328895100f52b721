-- What a change makes of the claims. It needs nothing of the disk and no lawful claims: what doesn't fit is lost.
use Rattle.std.specs.Prelude.{ℕ, ◌==◌, nat_lt, max, List, [], ◌∷◌, ◌++◌, Option, Some, None, is_some, if◌then◌else◌}
use Rattle.std.specs.Option.{option_map}
use Rattle.std.specs.declared.cmp.Ordering.{Ordering}
use Rattle.std.specs.FinMap as map
use Rattle.std.specs.FinMap.{FinMap}
use Rattle.std.specs.FinSet as set
use Rattle.upload_service.specs.Machine.{Table}
use Rattle.upload_claims.specs.declared.change.Stretch.{Stretch}
use Rattle.upload_claims.specs.declared.change.Change.{Change}
use Rattle.upload_claims.specs.declared.change.Change.TheVariants as changes
use Rattle.upload_claims.specs.Claims.{Upload, Claims, end_of}

-- the bodies with one more, if that begins where they end
abbrev pub joined : List Stretch → ℕ → Stretch → Option (List Stretch)
joined bodies from stretch = if end_of bodies == from then Some (bodies ++ stretch ∷ []) else None

-- an upload that takes a body
abbrev pub taken : Option Upload → ℕ → ℕ → Stretch → Option Upload
taken None now from stretch = None
taken (Some upload) now from stretch =
    option_map (λ bodies. record { name = upload.name; bodies = bodies; seen = now }) (joined upload.bodies from stretch)

-- an upload that is seen at this moment
abbrev pub seen_at : Option Upload → ℕ → Option Upload
seen_at None now = None
seen_at (Some upload) now = Some (record upload { seen = now })

-- the bodies of an upload that is closed, if it has so many bytes
abbrev pub closed : Option Upload → ℕ → Option (List Stretch)
closed None end = None
closed (Some upload) end = if end_of upload.bodies == end then Some upload.bodies else None

-- the bodies of a blob with one more
abbrev pub grown : Option (List Stretch) → ℕ → Stretch → Option (List Stretch)
grown None from stretch = None
grown (Some bodies) from stretch = joined bodies from stretch

-- the table with what is claimed under a key now, and without the key if nothing is
abbrev pub with_claim : {K X : Type 0} {R : K → K → Ordering} → FinMap R X → K → Option X → FinMap R X
with_claim m k None = map.remove m k
with_claim m k (Some x) = map.insert m k x

-- the table with what is claimed under a key now, and as it was if nothing is
abbrev pub with_any : {K X : Type 0} {R : K → K → Ordering} → FinMap R X → K → Option X → FinMap R X
with_any m k None = m
with_any m k (Some x) = map.insert m k x

-- an upload, unless it was last seen before this moment
abbrev pub unless_before : ℕ → Option Upload → Option Upload
unless_before moment None = None
unless_before moment (Some upload) = if nat_lt upload.seen moment then None else Some upload

abbrev pub seen_from : ℕ → Table Upload → Table Upload
seen_from moment uploads = map.retain_keys uploads (λ at. is_some (unless_before moment (map.get uploads at)))

-- the claims after a change
abbrev pub apply : Claims → Change → Claims
apply c (changes.NumbersUpTo number) = record c { issued = max c.issued number }
apply c (changes.MomentsUpTo moment) = record c { told = max c.told moment }
apply c (changes.LapsedBefore moment) = record c { uploads = seen_from moment c.uploads }
apply c (changes.Began at name now) =
    record c { uploads = map.insert c.uploads at (record { name = name; bodies = []; seen = now }) }
apply c (changes.Took at now from stretch) =
    record c { uploads = with_claim c.uploads at (taken (map.get c.uploads at) now from stretch) }
apply c (changes.Seen at now) = record c { uploads = with_any c.uploads at (seen_at (map.get c.uploads at) now) }
apply c (changes.Closed at digest end) = record c {
  uploads = map.remove c.uploads at;
  blobs = with_any c.blobs digest (closed (map.get c.uploads at) end);
}
apply c (changes.Stored digest stretch) = record c { blobs = map.insert c.blobs digest (stretch ∷ []) }
apply c (changes.Laid digest) = record c { blobs = map.insert c.blobs digest [] }
apply c (changes.Joined digest from stretch) =
    record c { blobs = with_claim c.blobs digest (grown (map.get c.blobs digest) from stretch) }
apply c (changes.Has name digest) = record c { pairs = set.insert c.pairs (name, digest) }

-- the claims after changes, one after another
abbrev pub fold : Claims → List Change → Claims
fold c [] = c
fold c (x ∷ xs) = fold (apply c x) xs
