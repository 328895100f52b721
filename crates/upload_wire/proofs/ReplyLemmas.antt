-- The lines of a head, from the pieces that are put behind what was gathered before.
use Rattle.std.proofs.Common.{◌≡◌, ℕ, List, [], ◌++◌, ◌∷◌, append_assoc, ◌-◌, arith, rules}
use Rattle.std.proofs.lemmas.Bool.{ne_eqb}
use Rattle.std.proofs.lemmas.Grind.{flat_map-append}
use Rattle.std.specs.Prelude.{Bool, true, false, ◌==◌, if◌then◌else◌, codes, decimal, flat_map}
use Rattle.std.proofs.lemmas.List.{append-nil}
use Rattle.httparse.specs.Ascii.{crlf_bytes}
use Rattle.upload_texts.specs.Paths.{blob_path, upload_path}
use Rattle.http_wire.specs.declared.status.Status.{Status}
use Rattle.http_wire.specs.HeadText.{HeadField, closing_fields, length_field, print_field, print_head, status_line}
use Rattle.upload_wire.specs.ReplyText.{body_fields, range_fields}

pub upload_text : (before : List ℕ) {name text at reference : List ℕ} → name ≡ text → at ≡ reference
    → ((((before ++ codes "Location: /v2/") ++ name) ++ codes "/blobs/uploads/") ++ at) ++ crlf_bytes
    ≡ before ++ print_field (codes "Location", upload_path text reference)
upload_text before name at = search (rules, arith, append_assoc)

pub blob_text : (before : List ℕ) {name text sum digest : List ℕ} → name ≡ text → sum ≡ digest
    → ((((before ++ codes "Location: /v2/") ++ name) ++ codes "/blobs/") ++ sum) ++ crlf_bytes
    ≡ before ++ print_field (codes "Location", blob_path text digest)
blob_text before name sum = search (rules, arith, append_assoc)

range_when : (before : List ℕ) (none : Bool) (last : ℕ) → none ≡ false
    → ((before ++ codes "Range: 0-") ++ decimal last) ++ crlf_bytes
    ≡ before ++ flat_map print_field (if none then [] else (codes "Range", codes "0-" ++ decimal last) ∷ [])
range_when before true last some = absurd (cc)
range_when before false last some = simp append_assoc

pub range_text : (before : List ℕ) (next : ℕ) → (next ≡ 0 → ⊥)
    → ((before ++ codes "Range: 0-") ++ decimal (next - 1)) ++ crlf_bytes
    ≡ before ++ flat_map print_field (range_fields next)
range_text before next some = range_when before (next == 0) (next - 1) (ne_eqb next 0 some)

pub error_text : (before : List ℕ) {size length_of_body : ℕ} → size ≡ length_of_body
    → (before ++ print_field (codes "Content-Type", codes "application/json")) ++ print_field (length_field size)
    ≡ before ++ flat_map print_field (body_fields (codes "application/json") length_of_body)
error_text before size = search (rules, arith, append_assoc, append-nil)

pub found_text : (before : List ℕ) {sum digest : List ℕ} (size : ℕ) → sum ≡ digest
    → ((before ++ print_field (codes "Docker-Content-Digest", sum))
    ++ print_field (codes "Content-Type", codes "application/octet-stream"))
    ++ print_field (length_field size)
    ≡ before ++ flat_map print_field
    ((codes "Docker-Content-Digest", digest) ∷ body_fields (codes "application/octet-stream") size)
found_text before size sum = search (rules, arith, append_assoc, append-nil)

-- some fields, and then one
pub fields_and : (before : List ℕ) (fields : List HeadField) (field : HeadField)
    → (before ++ flat_map print_field fields) ++ print_field field
    ≡ before ++ flat_map print_field (fields ++ field ∷ [])
fields_and before fields field = simp (append_assoc, flat_map-append, append-nil)

pub fields_both : (before : List ℕ) (fields others : List HeadField)
    → (before ++ flat_map print_field fields) ++ flat_map print_field others
    ≡ before ++ flat_map print_field (fields ++ others)
fields_both before fields others = simp (append_assoc, flat_map-append)
