-- The reference in a path, part by part.
use Rattle.std.proofs.Common.{◌≡◌, ℕ, List, [], ◌++◌, codes, ap, ◌∙◌, append_assoc, arith, rules}
use Rattle.std.specs.Prelude.{Option, option_and_then}
use Rattle.std.proofs.lemmas.List.{append-nil}
use Rattle.upload_names.specs.Reference.{reference_of, reference_text}
use Rattle.upload_names.proofs.ReferenceFacts.{reference_of-text}
use Rattle.upload_client.specs.Heard.{after_front, place_in, PlacesAreReadBack}
use Rattle.upload_texts.specs.Paths.{upload_path}
use Rattle.upload_client.proofs.PlaceFronts.{after_front-append, after_front-front}

pub read_steps : (path name : List ℕ) (named kind reference : Option (List ℕ)) → named ≡ after_front (codes "/v2/") path
    → kind ≡ option_and_then (after_front name) named
    → reference ≡ option_and_then (after_front (codes "/blobs/uploads/")) kind
    → option_and_then reference_of reference ≡ place_in path name
unfolding place_in
read_steps path name named kind reference e f g = search (rules, arith, append-nil, after_front-append)

-- a written place is read as its reference
pub places_read_back : PlacesAreReadBack
unfolding place_in
places_read_back name at long small =
    let uploads = codes "/blobs/uploads/" in
    let text = reference_text at in
    let cut : upload_path name text ≡ upload_path name [] ++ text = simp append_assoc in
    ap (λ t. option_and_then reference_of (after_front (upload_path name []) t)) cut
    ∙ ap (option_and_then reference_of) (after_front-front (upload_path name []) text)
    ∙ reference_of-text at long small
