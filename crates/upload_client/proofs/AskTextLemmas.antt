-- The texts of requests, from the pieces that are written.
use Rattle.std.proofs.Common.{◌≡◌, ℕ, List, [], ◌++◌, append_assoc, refl}
use Rattle.std.specs.Prelude.{Option, Some, codes, decimal, flat_map}
use Rattle.std.proofs.lemmas.List.{append-nil}
use Rattle.std.proofs.lemmas.Grind.{flat_map-append}
use Rattle.upload_names.specs.Digest.{Digest}
use Rattle.upload_names.specs.ByteRange.{Span}
use Rattle.upload_names.specs.Reference.{reference_text}
use Rattle.upload_service.specs.declared.ask.Ask.{Ask}
use Rattle.upload_service.specs.declared.ask.Ask.TheVariants.{Single, Mount, Chunk, Close}
use Rattle.upload_service.specs.declared.ask.Extent.{Extent}
use Rattle.upload_service.specs.declared.ask.Extent.TheVariants.{Given}
use Rattle.upload_client.specs.AskText.{bare_message, message_of, request_line, query_text, digest_or_nothing}
use Rattle.upload_client.specs.AskText.{digest_query, section_text, content_range_fields, ask_body_fields, ask_text}
use Rattle.upload_client.specs.AskText.{host_text}
use Rattle.upload_texts.specs.Paths.{upload_path}
use Rattle.http_wire.specs.HeadText.{print_field}

pub single_line : (name : List ℕ) (digest : Option Digest) (body : List ℕ)
    → codes "POST"
    ++ (codes " /v2/" ++ (name ++ (codes "/blobs/uploads/" ++ (codes "?digest=" ++ digest_or_nothing digest))))
    ≡ request_line (message_of (Single name digest body))
single_line name digest body = simp append_assoc

pub mount_put : (before name : List ℕ) (digest : Digest) (source : List ℕ)
    → (before ++ (codes "POST" ++ (codes " /v2/" ++ (name ++ (codes "/blobs/uploads/" ++ codes "?mount=")))))
    ++ (digest_or_nothing (Some digest) ++ (codes "&from=" ++ source))
    ≡ before ++ request_line (message_of (Mount name digest source))
mount_put before name digest source = simp append_assoc

pub upload_line : (method name at text : List ℕ) → text ≡ reference_text at
    → method ++ (codes " /v2/" ++ (name ++ (codes "/blobs/uploads/" ++ text)))
    ≡ request_line (bare_message method (upload_path name (reference_text at)))
upload_line method name at text e = rw e (simp (append_assoc, append-nil))

pub close_line : (before name at : List ℕ) (range : Extent) (digest : Option Digest) (body : List ℕ)
    → (before ++ request_line (bare_message (codes "PUT") (upload_path name (reference_text at))))
    ++ query_text (digest_query digest)
    ≡ before ++ request_line (message_of (Close name at range digest body))
close_line before name at range digest body = simp (append_assoc, append-nil)

pub range_text_is : (before : List ℕ) (range : Span) (first last : ℕ) → first ≡ range.first → last ≡ range.last
    → ((((before ++ codes "Content-Range: ") ++ decimal first) ++ codes "-") ++ decimal last) ++ codes "\r\n"
    ≡ before ++ flat_map print_field (content_range_fields (Given range))
range_text_is before range first last e f = rw (e, f) (simp append_assoc)

pub upload_section : (before : List ℕ) (range : Extent) (body : List ℕ)
    → (before ++ flat_map print_field (content_range_fields range)) ++ section_text (ask_body_fields body)
    ≡ before ++ section_text (content_range_fields range ++ ask_body_fields body)
upload_section before range body = simp (append_assoc, flat_map-append)

pub whole_text : (ask : Ask) (host body : List ℕ) → body ≡ (message_of ask).body
    → (([] ++ request_line (message_of ask)) ++ host_text host) ++ section_text (message_of ask).fields ++ body
    ≡ ask_text ask host
whole_text ask host body e = rw e (simp append_assoc)

pub whole_chunk : (name at : List ℕ) (range : Extent) (body host : List ℕ)
    → (([] ++ request_line (bare_message (codes "PATCH") (upload_path name (reference_text at)))) ++ host_text host)
    ++ section_text (content_range_fields range ++ ask_body_fields body) ++ body
    ≡ ask_text (Chunk name at range body) host
whole_chunk name at range body host = whole_text (Chunk name at range body) host body refl
