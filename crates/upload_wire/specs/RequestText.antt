-- A request as a text: its head, its body, and what it asks (RFC 9112, sections 2 and 6).
use Rattle.std.specs.Prelude.{◌≡◌, ℕ, ◌⊎◌, List, [], ◌++◌, codes, bytes_eq, Result, Ok, Err, ⊤}
use Rattle.httparse.specs.Grammar.{RequestHead}
use Rattle.upload_service.specs.declared.ask.Ask.{Ask}
use Rattle.http_wire.specs.States.{InputState}
use Rattle.http_wire.specs.Reading.{Gives, HasEnded}
use Rattle.http_wire.specs.Fronts.{IsCutHead, IsRefused, IsTooLong, ReadsHead, requests}
use Rattle.http_wire.specs.Fields.{head_fields, keeps_connection}
use Rattle.http_wire.specs.Body.{head_framing, IsBodyText, IsBadBody, IsCutBody}
use Rattle.upload_wire.specs.Target.{AsksWhole}
use Rattle.http_wire.specs.declared.body.Framing.{Framing}
use Rattle.http_wire.specs.declared.fault.Bad.{Bad}
use Rattle.http_wire.specs.declared.fault.Bad.TheVariants as bads
use Rattle.http_wire.specs.declared.fault.WireFault.{WireFault}
use Rattle.http_wire.specs.declared.fault.WireFault.TheVariants as Fault
use Rattle.upload_wire.specs.declared.request.Style.{Style}
use Rattle.upload_wire.specs.declared.request.Next.{Next}
use Rattle.upload_wire.specs.declared.request.Next.TheVariants.{Request, Over}
use Rattle.upload_wire.specs.declared.request.Next.TheVariants as nexts

-- how a request wants its reply
abbrev pub style_of : RequestHead → Style
style_of head = record {
  head = bytes_eq head.method (codes "HEAD");
  keep = keeps_connection head.minor (head_fields head.fields);
}

-- the text is a head and the body that its fields announce, and it asks this
pub record IsRequest (max_body : ℕ) (text : List ℕ) (ask : Ask) (style : Style) : Type 0 where
  pub head : RequestHead
  pub rest : List ℕ
  pub reads : ReadsHead requests text head rest
  pub framing : Framing
  pub framed : head_framing max_body head ≡ Ok framing
  pub body : List ℕ
  pub written : IsBodyText framing rest body
  pub asks : AsksWhole head body ask
  pub styled : style ≡ style_of head

-- the text begins with a head that announces no body that may be read
pub record RefusesFraming (max_body : ℕ) (text : List ℕ) (why : Bad) : Type 0 where
  pub head : RequestHead
  pub rest : List ℕ
  pub reads : ReadsHead requests text head rest
  pub refused : head_framing max_body head ≡ Err why

-- the text begins with a head, and what follows is refused as its body
pub record RefusesBody (max_body : ℕ) (text : List ℕ) (why : Bad) : Type 0 where
  pub head : RequestHead
  pub rest : List ℕ
  pub reads : ReadsHead requests text head rest
  pub framing : Framing
  pub framed : head_framing max_body head ≡ Ok framing
  pub refused : IsBadBody framing rest why

-- the input that begins with the text is no request, and this is bad in it
abbrev pub IsBad : ℕ → List ℕ → Bad → Type 0
IsBad max_body text why =
    ((why ≡ bads.Head) × IsRefused requests text) ⊎ (((why ≡ bads.LongHead) × IsTooLong requests text)
    ⊎ (RefusesFraming max_body text why ⊎ RefusesBody max_body text why))

-- the text has a head, and ends inside its body
pub record HasCutBody (max_body : ℕ) (text : List ℕ) : Type 0 where
  pub head : RequestHead
  pub rest : List ℕ
  pub reads : ReadsHead requests text head rest
  pub framing : Framing
  pub framed : head_framing max_body head ≡ Ok framing
  pub short : IsCutBody framing rest

-- the input that is no more than the text ends inside a request
abbrev pub IsTruncated : ℕ → List ℕ → Type 0
IsTruncated max_body text = IsCutHead requests text ⊎ HasCutBody max_body text

-- the text holds no request: it is empty, or ends inside one
abbrev pub HoldsNoRequest : ℕ → List ℕ → Type 0
HoldsNoRequest max_body text = (text ≡ []) ⊎ IsTruncated max_body text

-- the text is a request, and then rest
pub record ReadsOne (max_body : ℕ) (text rest : List ℕ) (ask : Ask) (style : Style) : Type 0 where
  pub message : List ℕ
  pub cut : text ≡ message ++ rest
  pub request : IsRequest max_body message ask style

-- what the reader found in the text, if its input is left as new
abbrev pub FindsNext : ℕ → List ℕ → InputState → Result Next WireFault → Type 0
FindsNext max_body text new (Ok (Request ask style)) = ReadsOne max_body text new.held ask style
FindsNext max_body text new (Ok Over) = (text ≡ []) × (new.held ≡ []) × HasEnded new.source
FindsNext max_body text new (Ok (nexts.Bad why)) = IsBad max_body text why
FindsNext max_body text new (Err Fault.Truncated) = IsTruncated max_body text × HasEnded new.source
FindsNext max_body text new (Err Fault.Read) = HoldsNoRequest max_body text
FindsNext max_body text new (Err Fault.NoMemory) = ⊤
FindsNext max_body text new (Err Fault.Ended) = ⊥

-- some bytes were read, and this was found in what was held and read
pub record ReadsNext (max_body : ℕ) (old new : InputState) (r : Result Next WireFault) : Type 0 where
  pub given : List ℕ
  pub gives : Gives old.source new.source given
  pub found : FindsNext max_body (old.held ++ given) new r
