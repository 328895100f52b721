-- What the functions find that read a request.
use Rattle.std.specs.Prelude.{◌≡◌, ℕ, List, codes, bytes_eq, Result, Ok, Err}
use Rattle.httparse.specs.Spans.{span_bytes}
use Rattle.upload_service.specs.declared.ask.Ask.{Ask}
use Rattle.http_wire.specs.States.{InputState}
use Rattle.http_wire.specs.Reading.{HasEnded}
use Rattle.http_wire.specs.Fields.{values_of, keeps_connection}
use Rattle.http_wire.specs.Body.{framing_of}
use Rattle.upload_wire.specs.Target.{HeadAsks, extent_of, with_body}
use Rattle.http_wire.specs.Inner.HeadReading.{fields_of}
use Rattle.http_wire.specs.Inner.HeadSpans.{request_spans}
use Rattle.http_wire.specs.Inner.BodyReading.{MovedNone}
use Rattle.http_wire.specs.Inner.BodyFinding.{TakesBody, RefusesBodyText, CutsBody}
use Rattle.http_wire.specs.declared.requests.parsed.ParsedRequest.{ParsedRequest}
use Rattle.http_wire.specs.declared.fault.Bad.{Bad}
use Rattle.http_wire.specs.declared.fault.WireFault.{WireFault}
use Rattle.http_wire.specs.declared.fault.WireFault.TheVariants as Fault
use Rattle.upload_wire.specs.declared.request.Style.{Style}
use Rattle.upload_wire.specs.declared.request.Next.{Next}
use Rattle.upload_wire.specs.declared.request.Next.TheVariants.{Request, Over}
use Rattle.upload_wire.specs.declared.request.Next.TheVariants as nexts
use Rattle.upload_wire.specs.declared.request.Described.{Described}

-- ---- the head

-- what the spans of a head ask, how they want the reply, and how they frame the body
pub record DescribesAll (max_body : ℕ) (head : List ℕ) (p : ParsedRequest) (d : Described) : Type 0 where
  pub asks : HeadAsks (span_bytes head p.spans.method) (span_bytes head p.spans.path)
      (extent_of (values_of (codes "content-range") (fields_of request_spans head p))) d.ask
  pub is_head : d.style.head ≡ bytes_eq (span_bytes head p.spans.method) (codes "HEAD")
  pub keeps : d.style.keep ≡ keeps_connection p.spans.version (fields_of request_spans head p)
  pub framed : framing_of max_body p.spans.version (fields_of request_spans head p) ≡ Ok d.framing

-- what is made of a head: that, or what is bad in how it frames its body, unless memory was refused
abbrev pub Describes : ℕ → List ℕ → ParsedRequest → Result (Result Described Bad) WireFault → Type 0
Describes max_body head p (Ok (Ok d)) = DescribesAll max_body head p d
Describes max_body head p (Ok (Err why)) =
    framing_of max_body p.spans.version (fields_of request_spans head p) ≡ Err why
Describes max_body head p (Err fault) = fault ≡ Fault.NoMemory

-- ---- the body behind it

-- a whole body was taken, and this is the request
pub record TakesRequest (d : Described) (old new : InputState) (ask : Ask) (style : Style) : Type 0 where
  pub body : List ℕ
  pub taken : TakesBody d.framing old new body
  pub asked : ask ≡ with_body d.ask body
  pub styled : style ≡ d.style

abbrev pub FindsRequest : Described → InputState → InputState → Result Next WireFault → Type 0
FindsRequest d old new (Ok (Request ask style)) = TakesRequest d old new ask style
FindsRequest d old new (Ok Over) = ⊥
FindsRequest d old new (Ok (nexts.Bad why)) = RefusesBodyText d.framing old new.source why
FindsRequest d old new (Err Fault.Truncated) = CutsBody d.framing old new.source × HasEnded new.source
FindsRequest d old new (Err Fault.Read) = CutsBody d.framing old new.source
FindsRequest d old new (Err Fault.NoMemory) = MovedNone old new.source
FindsRequest d old new (Err Fault.Ended) = ⊥
