-- What a client hears in the reply to an answer: its status (RFC 9110, section 15), the path of its Location, the last
-- position of its Range, and the first code of its body (OCI Distribution Specification 1.1, sections "Push" and
-- "Error Codes").
use Rattle.std.specs.Prelude.{◌≡◌, ℕ, ◌-◌, ◌<◌, ◌==◌, List, [], length, drop, nat_eq, All, Option, Some, None}
use Rattle.std.specs.Prelude.{option_and_then, if◌then◌else◌}
use Rattle.std.specs.List.{starts_with}
use Rattle.upload_names.specs.Digest.{digest_text}
use Rattle.upload_names.specs.Reference.{reference_text, reference_of}
use Rattle.upload_service.specs.declared.answer.Answer.{Answer}
use Rattle.upload_service.specs.declared.answer.Answer.TheVariants.{Base, Blob, Begun, Stored, Taken, Standing}
use Rattle.upload_service.specs.declared.answer.Answer.TheVariants.{Misplaced, Refused, NoMemory}
use Rattle.upload_service.specs.declared.answer.Refusal.{Refusal}
use Rattle.http_wire.specs.HeadText.{status_number}
use Rattle.upload_texts.specs.Paths.{blob_path, upload_path}
use Rattle.upload_texts.specs.Errors.{refusal_status, refusal_code, code_text}
use Rattle.upload_texts.specs.declared.error.ErrorCode.TheVariants.{BlobUploadInvalid}
use Rattle.upload_client.specs.declared.heard.Heard.{Heard}

-- the last position below the next offset, if there is one
abbrev pub last_below : ℕ → Option ℕ
last_below next = if next == 0 then None else Some (next - 1)

-- the status alone
abbrev pub bare : ℕ → Heard
bare status = record { status = status; place = None; upto = None; code = None }

-- a status, the path of an upload, and how far it is
abbrev pub of_upload : ℕ → List ℕ → List ℕ → ℕ → Heard
of_upload status name at next = record {
  status = status;
  place = Some (upload_path name (reference_text at));
  upto = last_below next;
  code = None;
}

-- an error's status and its code
abbrev pub of_refusal : Refusal → Heard
of_refusal refusal = record {
  status = status_number (refusal_status refusal);
  place = None;
  upto = None;
  code = Some (code_text (refusal_code refusal));
}

-- what is heard in the reply to an answer
abbrev pub reply_heard : Answer → Heard
reply_heard Base = bare 200
reply_heard (Blob digest size bytes) = bare 200
reply_heard (Begun name at) = of_upload 202 name at 0
reply_heard (Stored name digest) =
    record { status = 201; place = Some (blob_path name (digest_text digest)); upto = None; code = None }
reply_heard (Taken name at next) = of_upload 202 name at next
reply_heard (Standing name at next) = of_upload 204 name at next
reply_heard (Misplaced name at next) = record (of_upload 416 name at next) { code = Some (code_text BlobUploadInvalid) }
reply_heard (Refused refusal) = of_refusal refusal
reply_heard NoMemory = bare 503

-- what stands behind this prefix of a text
abbrev pub after_front : List ℕ → List ℕ → Option (List ℕ)
after_front front text = if starts_with nat_eq text front then Some (drop (length front) text) else None

-- The reference in the path of an upload of the repository: the path is /v2/<name>/blobs/uploads/<reference> with a
-- readable reference. No reference has a slash in any of its text forms.
unfoldable pub place_in : List ℕ → List ℕ → Option (List ℕ)
place_in path name = option_and_then reference_of (after_front (upload_path name []) path)

-- what is written as the place of an upload is read as its reference
abbrev pub PlacesAreReadBack : Type 0
PlacesAreReadBack =
    (name at : List ℕ) → length at ≡ 16 → All (λ b. b < 256) at
    → place_in (upload_path name (reference_text at)) name ≡ Some at
