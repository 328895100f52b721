-- What a request asks (OCI Distribution Specification 1.1, section Endpoints): the forms of a path, and the
-- ask of each form, method, query and Content-Range.
use Rattle.std.specs.Prelude.{◌≡◌, ◌≢◌, ℕ, ◌<◌, ◌⊎◌, Bool, true, false, ◌==◌, List, [], ◌∷◌, length, codes}
use Rattle.std.specs.Prelude.{bytes_eq, slice_index, Option, Some, None, option_and_then, unwrap_or, if◌then◌else◌}
use Rattle.httparse.specs.Grammar.{RequestHead}
use Rattle.http_uri.specs.declared.uri.Uri.{Uri}
use Rattle.http_uri.specs.Uri.{Spells, SpellsNone, uri_path, uri_query}
use Rattle.upload_names.specs.NamePass.{is_name}
use Rattle.upload_names.specs.Digest.{Digest, digest_of}
use Rattle.upload_names.specs.ByteRange.{Span, range_of}
use Rattle.upload_names.specs.Reference.{reference_of}
use Rattle.upload_service.specs.declared.ask.Ask.{Ask}
use Rattle.upload_service.specs.declared.ask.Ask.TheVariants.{Base, Has, Opening, Single, Mount, Chunk, Status, Close}
use Rattle.upload_service.specs.declared.ask.Ask.TheVariants.{Refused}
use Rattle.upload_service.specs.declared.ask.Extent.{Extent}
use Rattle.upload_service.specs.declared.ask.Extent.TheVariants.{Absent, Bad, Given}
use Rattle.upload_service.specs.declared.answer.Refusal.{Refusal}
use Rattle.upload_service.specs.declared.answer.Refusal.TheVariants as refusals
use Rattle.upload_service.specs.declared.answer.Form.TheVariants as Form
use Rattle.http_wire.specs.Fields.{head_fields, values_of}
use Rattle.http_wire.specs.Query.{parameter}
use Rattle.upload_texts.specs.Paths.{blob_path, upload_path}
use Rattle.upload_wire.specs.declared.asks.Method.{Method}
use Rattle.upload_wire.specs.declared.asks.Method.TheVariants.{Get, Head, Post, Patch, Put, Other}
use Rattle.upload_wire.specs.declared.asks.HeadAsk.{HeadAsk}
use Rattle.upload_wire.specs.declared.asks.HeadAsk.TheVariants.{Ready, IfBodiless}
use Rattle.upload_wire.specs.declared.asks.HeadAsk.TheVariants as heads
use Rattle.upload_wire.specs.declared.asks.PathForm.{PathForm}
use Rattle.upload_wire.specs.declared.asks.PathForm.TheVariants as Path

-- ---- paths

-- no byte is a slash
abbrev pub HasNoSlash : List ℕ → Type 0
HasNoSlash text = (k : ℕ) → k < length text → slice_index text k ≢ 47

-- which of the known forms the path has; it isn't decoded
abbrev pub IsFormOf : List ℕ → PathForm → Type 0
IsFormOf path Path.Base = path ≡ codes "/v2/"
IsFormOf path (Path.Blob name digest) = (path ≡ blob_path name.now digest.now) × HasNoSlash digest.now
IsFormOf path (Path.Uploads name) = path ≡ upload_path name.now []
IsFormOf path (Path.Upload name reference) =
    (path ≡ upload_path name.now reference.now) × HasNoSlash reference.now × (0 < length reference.now)
IsFormOf path Path.NoForm =
    (path ≢ codes "/v2/")
    × ((name tail : List ℕ) → HasNoSlash tail → path ≢ blob_path name tail)
    × ((name tail : List ℕ) → HasNoSlash tail → path ≢ upload_path name tail)

-- ---- asks: what a head asks is a `HeadAsk`, and `with_body` makes it an ask

-- the method that a text is, exactly
abbrev pub method_of : List ℕ → Method
method_of text =
    if bytes_eq text (codes "GET") then Get
    else (if bytes_eq text (codes "HEAD") then Head
    else (if bytes_eq text (codes "POST") then Post
    else (if bytes_eq text (codes "PATCH") then Patch
    else (if bytes_eq text (codes "PUT") then Put else Other))))

-- the name that a text is
abbrev pub named : List ℕ → Option (List ℕ)
named text = if is_name text then Some text else None

-- a refusal, whatever the body
abbrev pub refused_by_head : Refusal → HeadAsk
refused_by_head refusal = Ready (Refused refusal)

-- GET and HEAD of the base path
abbrev pub base_ask : Method → HeadAsk
base_ask Get = Ready Base
base_ask Head = Ready Base
base_ask method = refused_by_head (refusals.Method Form.Base)

-- GET and HEAD of a blob
abbrev pub has_ask : List ℕ → Bool → Option Digest → HeadAsk
has_ask name head None = refused_by_head refusals.BadDigest
has_ask name head (Some digest) = Ready (Has name digest head)

abbrev pub blob_ask : Option (List ℕ) → List ℕ → Method → HeadAsk
blob_ask None tail method = refused_by_head refusals.BadName
blob_ask (Some name) tail Get = has_ask name false (digest_of tail)
blob_ask (Some name) tail Head = has_ask name true (digest_of tail)
blob_ask (Some name) tail method = refused_by_head (refusals.Method Form.Blob)

-- a mount needs its digest and its source, and is an opening without them
abbrev pub mount_ask : List ℕ → Option Digest → Option (List ℕ) → HeadAsk
mount_ask name None source = IfBodiless (Opening name)
mount_ask name (Some digest) None = IfBodiless (Opening name)
mount_ask name (Some digest) (Some source) = IfBodiless (Mount name digest source)

-- POST without `mount`: with `digest`, and without
abbrev pub single_ask : List ℕ → Option (List ℕ) → HeadAsk
single_ask name None = IfBodiless (Opening name)
single_ask name (Some digest) = heads.Single name (digest_of digest)

-- POST with `mount`, and without
abbrev pub post_ask : List ℕ → List ℕ → Option (List ℕ) → HeadAsk
post_ask name query None = single_ask name (parameter (codes "digest") query)
post_ask name query (Some mount) =
    mount_ask name (digest_of mount) (option_and_then named (parameter (codes "from") query))

abbrev pub uploads_ask : Option (List ℕ) → Method → List ℕ → HeadAsk
uploads_ask None method query = refused_by_head refusals.BadName
uploads_ask (Some name) Post query = post_ask name query (parameter (codes "mount") query)
uploads_ask (Some name) method query = refused_by_head (refusals.Method Form.Uploads)

-- GET, HEAD, PATCH and PUT of an upload
abbrev pub upload_ask : Option (List ℕ) → Option (List ℕ) → Method → List ℕ → Extent → HeadAsk
upload_ask None at method query range = refused_by_head refusals.BadName
upload_ask (Some name) at Post query range = refused_by_head (refusals.Method Form.Upload)
upload_ask (Some name) at Other query range = refused_by_head (refusals.Method Form.Upload)
upload_ask (Some name) None method query range = refused_by_head refusals.NoUpload
upload_ask (Some name) (Some at) Get query range = Ready (Status name at)
upload_ask (Some name) (Some at) Head query range = Ready (Status name at)
upload_ask (Some name) (Some at) Patch query range = heads.Chunk name at range
upload_ask (Some name) (Some at) Put query range =
    heads.Close name at range (option_and_then digest_of (parameter (codes "digest") query))

-- what each form asks, by the method, the query and the range
abbrev pub ask_of_form : PathForm → Method → List ℕ → Extent → HeadAsk
ask_of_form Path.Base method query range = base_ask method
ask_of_form (Path.Blob name tail) method query range = blob_ask (named name.now) tail.now method
ask_of_form (Path.Uploads name) method query range = uploads_ask (named name.now) method query
ask_of_form (Path.Upload name tail) method query range =
    upload_ask (named name.now) (reference_of tail.now) method query range
ask_of_form Path.NoForm method query range = refused_by_head refusals.NoForm

-- The ask with its body: an opening and a mount have none, and an ask that carries none drops it.
abbrev pub with_body : HeadAsk → List ℕ → Ask
with_body (Ready ask) body = ask
with_body (IfBodiless ask) body = if length body == 0 then ask else Refused refusals.HasBody
with_body (heads.Single name digest) body = Single name digest body
with_body (heads.Chunk name at range) body = Chunk name at range body
with_body (heads.Close name at range digest) body = Close name at range digest body

-- ---- heads

abbrev pub given_range : Option Span → Extent
given_range None = Bad
given_range (Some range) = Given range

-- the range of a request, by the values of its Content-Range fields: two are as bad as an unreadable one
abbrev pub extent_of : List (List ℕ) → Extent
extent_of [] = Absent
extent_of (value ∷ []) = given_range (range_of value)
extent_of (value ∷ other ∷ values) = Bad

-- the range that a head gives
abbrev pub head_range : RequestHead → Extent
head_range head = extent_of (values_of (codes "content-range") (head_fields head.fields))

-- what is asked at a path
abbrev pub AsksAt : List ℕ → Method → List ℕ → Extent → HeadAsk → Type 0
AsksAt path method query range asked =
    (form : PathForm) × IsFormOf path form × (asked ≡ ask_of_form form method query range)

-- What a head asks, by the method, the target and the range. A target that spells no URI has no form.
abbrev pub HeadAsks : List ℕ → List ℕ → Extent → HeadAsk → Type 0
HeadAsks method target range asked =
    (SpellsNone target × (asked ≡ refused_by_head refusals.NoForm))
    ⊎ ((uri : Uri) × Spells target uri
    × AsksAt (uri_path uri) (method_of method) (unwrap_or (uri_query uri) []) range asked)

-- what a head and a body ask
abbrev pub AsksWhole : RequestHead → List ℕ → Ask → Type 0
AsksWhole head body ask =
    (asked : HeadAsk) × HeadAsks head.method head.target (head_range head) asked × (ask ≡ with_body asked body)
