-- The replies (OCI Distribution Specification 1.1, sections "Push" and "Error Codes").
use Rattle.std.specs.Prelude.{ℕ, ◌-◌, Bool, ◌==◌, List, [], ◌∷◌, ◌++◌, length, codes, decimal, unwrap_or, if◌then◌else◌}
use Rattle.upload_names.specs.Digest.{Digest, digest_text}
use Rattle.upload_names.specs.Reference.{reference_text}
use Rattle.upload_service.specs.declared.answer.Answer.{Answer}
use Rattle.upload_service.specs.declared.answer.Answer.TheVariants as answers
use Rattle.upload_service.specs.declared.answer.Form.{Form}
use Rattle.upload_service.specs.declared.answer.Form.TheVariants as forms
use Rattle.upload_service.specs.declared.answer.Refusal.{Refusal}
use Rattle.upload_service.specs.declared.answer.Refusal.TheVariants as refusals
use Rattle.upload_wire.specs.declared.request.Style.{Style}
use Rattle.http_wire.specs.HeadText.{HeadField, print_head, length_field}
use Rattle.upload_texts.specs.Paths.{blob_path, upload_path}
use Rattle.upload_texts.specs.Errors.{error_body, refusal_code, refusal_status}
use Rattle.http_wire.specs.declared.status.Status.{Status}
use Rattle.http_wire.specs.declared.status.Status.TheVariants as statuses
use Rattle.upload_texts.specs.declared.error.ErrorCode.{ErrorCode}
use Rattle.upload_texts.specs.declared.error.ErrorCode.TheVariants as errors

-- the methods of a form
abbrev pub methods : Form → List ℕ
methods forms.Base = codes "GET, HEAD"
methods forms.Blob = codes "GET, HEAD"
methods forms.Uploads = codes "POST"
methods forms.Upload = codes "GET, HEAD, PATCH, PUT"

-- Allow, if the method is not of the form
abbrev pub allow_fields : Refusal → List HeadField
allow_fields (refusals.Method form) = (codes "Allow", methods form) ∷ []
allow_fields other = []

-- the path of an upload, and of a blob
abbrev pub upload_location : List ℕ → List ℕ → List ℕ
upload_location name at = upload_path name (reference_text at)

abbrev pub blob_location : List ℕ → Digest → List ℕ
blob_location name digest = blob_path name (digest_text digest)

-- Range: 0-<last>, if there are bytes
abbrev pub range_fields : ℕ → List HeadField
range_fields next = if next == 0 then [] else (codes "Range", codes "0-" ++ decimal (next - 1)) ∷ []

-- where an upload is, and how far it has come
abbrev pub upload_fields : List ℕ → List ℕ → ℕ → List HeadField
upload_fields name at next = (codes "Location", upload_location name at) ∷ range_fields next

-- the kind and the length of a body
abbrev pub body_fields : List ℕ → ℕ → List HeadField
body_fields kind size = (codes "Content-Type", kind) ∷ length_field size ∷ []

abbrev pub error_fields : ErrorCode → List HeadField
error_fields code = body_fields (codes "application/json") (length (error_body code))

-- a reply, but for the field that closes the connection
pub record Reply : Type 0 where
  pub status : Status
  pub fields : List HeadField
  pub body : List ℕ

abbrev pub without_body : Status → List HeadField → Reply
without_body status fields = record { status = status; fields = fields; body = [] }

abbrev pub with_error : Status → List HeadField → ErrorCode → Reply
with_error status fields code = record { status = status; fields = fields ++ error_fields code; body = error_body code }

-- the reply to each answer
abbrev pub reply_of : Answer → Reply
reply_of answers.Base = without_body statuses.Ok (length_field 0 ∷ [])
reply_of (answers.Blob digest size bytes) = record {
  status = statuses.Ok;
  fields = (codes "Docker-Content-Digest", digest_text digest) ∷ body_fields (codes "application/octet-stream") size;
  body = unwrap_or bytes [];
}
reply_of (answers.Begun name at) =
    without_body statuses.Accepted ((codes "Location", upload_location name at) ∷ length_field 0 ∷ [])
reply_of (answers.Stored name digest) =
    without_body statuses.Created ((codes "Location", blob_location name digest) ∷ length_field 0 ∷ [])
reply_of (answers.Taken name at next) =
    without_body statuses.Accepted (upload_fields name at next ++ length_field 0 ∷ [])
reply_of (answers.Standing name at next) = without_body statuses.NoContent (upload_fields name at next)
reply_of (answers.Misplaced name at next) =
    with_error statuses.RangeNotSatisfiable (upload_fields name at next) errors.BlobUploadInvalid
reply_of (answers.Refused refusal) = with_error (refusal_status refusal) (allow_fields refusal) (refusal_code refusal)
reply_of answers.NoMemory = without_body statuses.ServiceUnavailable (length_field 0 ∷ [])

-- the bytes of the reply up to its body
abbrev pub reply_head : Answer → Bool → List ℕ
reply_head answer keep = print_head (reply_of answer).status (reply_of answer).fields keep

-- the bytes of the body: a HEAD gets none
abbrev pub reply_body : Answer → Bool → List ℕ
reply_body answer head = if head then [] else (reply_of answer).body

-- the bytes of the reply
abbrev pub reply : Answer → Style → List ℕ
reply answer style = reply_head answer style.keep ++ reply_body answer style.head
