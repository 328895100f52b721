-- The errors that replies name, and the status and the error of a refusal (OCI Distribution Specification 1.1, section
-- "Error Codes").
use Rattle.std.specs.Prelude.{ℕ, List, ◌++◌, codes}
use Rattle.upload_service.specs.declared.answer.Refusal.{Refusal}
use Rattle.upload_service.specs.declared.answer.Refusal.TheVariants as refusals
use Rattle.http_wire.specs.declared.status.Status.{Status}
use Rattle.http_wire.specs.declared.status.Status.TheVariants as statuses
use Rattle.upload_texts.specs.declared.error.ErrorCode.{ErrorCode}
use Rattle.upload_texts.specs.declared.error.ErrorCode.TheVariants as errors

-- a code of the OCI Distribution Specification
abbrev pub code_text : ErrorCode → List ℕ
code_text errors.BlobUnknown = codes "BLOB_UNKNOWN"
code_text errors.BlobUploadInvalid = codes "BLOB_UPLOAD_INVALID"
code_text errors.BlobUploadUnknown = codes "BLOB_UPLOAD_UNKNOWN"
code_text errors.DigestInvalid = codes "DIGEST_INVALID"
code_text errors.NameInvalid = codes "NAME_INVALID"
code_text errors.SizeInvalid = codes "SIZE_INVALID"
code_text errors.Unsupported = codes "UNSUPPORTED"
code_text errors.TooManyRequests = codes "TOOMANYREQUESTS"

abbrev pub message : ErrorCode → List ℕ
message errors.BlobUnknown = codes "blob unknown to registry"
message errors.BlobUploadInvalid = codes "blob upload invalid"
message errors.BlobUploadUnknown = codes "blob upload unknown to registry"
message errors.DigestInvalid = codes "provided digest did not match uploaded content"
message errors.NameInvalid = codes "invalid repository name"
message errors.SizeInvalid = codes "provided length did not match content length"
message errors.Unsupported = codes "the operation is unsupported"
message errors.TooManyRequests = codes "too many requests"

-- {"errors":[{"code":"<code>","message":"<message>"}]}
abbrev pub error_body : ErrorCode → List ℕ
error_body code =
    codes "{\"errors\":[{\"code\":\""
    ++ (code_text code ++ (codes "\",\"message\":\"" ++ (message code ++ codes "\"}]}")))

abbrev pub refusal_status : Refusal → Status
refusal_status refusals.NoForm = statuses.NotFound
refusal_status refusals.BadName = statuses.NotFound
refusal_status (refusals.Method form) = statuses.MethodNotAllowed
refusal_status refusals.NoUpload = statuses.NotFound
refusal_status refusals.BadRange = statuses.BadRequest
refusal_status refusals.WrongLength = statuses.BadRequest
refusal_status refusals.TooLarge = statuses.ContentTooLarge
refusal_status refusals.NoDigest = statuses.BadRequest
refusal_status refusals.Mismatch = statuses.BadRequest
refusal_status refusals.HasBody = statuses.BadRequest
refusal_status refusals.TooMany = statuses.TooManyRequests
refusal_status refusals.NoBlob = statuses.NotFound
refusal_status refusals.BadDigest = statuses.BadRequest

abbrev pub refusal_code : Refusal → ErrorCode
refusal_code refusals.NoForm = errors.Unsupported
refusal_code refusals.BadName = errors.NameInvalid
refusal_code (refusals.Method form) = errors.Unsupported
refusal_code refusals.NoUpload = errors.BlobUploadUnknown
refusal_code refusals.BadRange = errors.BlobUploadInvalid
refusal_code refusals.WrongLength = errors.SizeInvalid
refusal_code refusals.TooLarge = errors.SizeInvalid
refusal_code refusals.NoDigest = errors.DigestInvalid
refusal_code refusals.Mismatch = errors.DigestInvalid
refusal_code refusals.HasBody = errors.SizeInvalid
refusal_code refusals.TooMany = errors.TooManyRequests
refusal_code refusals.NoBlob = errors.BlobUnknown
refusal_code refusals.BadDigest = errors.DigestInvalid
