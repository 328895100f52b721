-- The paths of uploads and of blobs (OCI Distribution Specification 1.1, section "Endpoints").
use Rattle.std.specs.Prelude.{ℕ, List, ◌++◌, codes}

-- /v2/<name>/blobs/<digest>
abbrev pub blob_path : List ℕ → List ℕ → List ℕ
blob_path name digest = codes "/v2/" ++ (name ++ (codes "/blobs/" ++ digest))

-- /v2/<name>/blobs/uploads/<reference>
abbrev pub upload_path : List ℕ → List ℕ → List ℕ
upload_path name reference = codes "/v2/" ++ (name ++ (codes "/blobs/uploads/" ++ reference))
