-- What changes that are put after others restore.
use Rattle.std.specs.Prelude.{◌≡◌, List}
use Rattle.std.specs.FinMap as map
use Rattle.std.specs.FinMap.{FinMap}
use Rattle.std.specs.FinSet as set
use Rattle.std.specs.FinSet.{FinSet}
use Rattle.upload_names.specs.Digest.{digest_cmp}
use Rattle.upload_service.specs.Machine.{Table, pair_cmp}
use Rattle.upload_claims.specs.declared.change.Stretch.{Stretch}
use Rattle.upload_claims.specs.declared.change.Change.{Change}
use Rattle.upload_claims.specs.Claims.{Upload, Claims}
use Rattle.upload_claims.specs.Fold.{fold}

-- after claims without uploads, they restore these
abbrev pub SavesUploads : List Change → List Change → Table Upload → Type 0
SavesUploads old new m =
    (c : Claims) → (fold c old).uploads ≡ map.empty → fold c new ≡ record (fold c old) { uploads = m }

-- after claims without blobs, they restore these
abbrev pub SavesBlobs : List Change → List Change → FinMap digest_cmp (List Stretch) → Type 0
SavesBlobs old new m =
    (c : Claims) → (fold c old).blobs ≡ map.empty → fold c new ≡ record (fold c old) { blobs = m }

-- after claims without pairs, they restore these
abbrev pub SavesPairs : List Change → List Change → FinSet pair_cmp → Type 0
SavesPairs old new s =
    (c : Claims) → (fold c old).pairs ≡ set.empty → fold c new ≡ record (fold c old) { pairs = s }
