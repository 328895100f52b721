-- From the spans of a head, and the body behind it, to the request.
use Rattle.std.proofs.Common.{◌≡◌, ℕ, List, [], ◌++◌, take, drop, refl, sym, ap, ◌∙◌, subst, arith}
use Rattle.std.proofs.Common.{append_assoc, length-take, inl, inr, rules}
use Rattle.std.specs.Prelude.{Result, Ok, Err, bytes_eq, codes}
use Rattle.std.proofs.lemmas.List.{take-append-drop, append-nil, drop_all}
use Rattle.httparse.specs.Grammar.{RequestHead, print_request}
use Rattle.httparse.specs.Spans.{span_bytes}
use Rattle.upload_service.specs.declared.ask.Extent.{Extent}
use Rattle.http_wire.specs.Fronts.{ReadsHead, requests}
use Rattle.http_wire.specs.Fields.{head_fields, values_of, keeps_connection}
use Rattle.http_wire.specs.Body.{framing_of, head_framing}
use Rattle.upload_wire.specs.Target.{HeadAsks, AsksWhole, extent_of, head_range, with_body}
use Rattle.http_wire.specs.Inner.HeadSpans.{request_spans}
use Rattle.http_wire.specs.States.{SourceState, InputState, input_state}
use Rattle.http_wire.specs.Reading.{Gave}
use Rattle.http_wire.specs.Inner.BodyFinding.{CutsBody, FindsBody}
use Rattle.upload_wire.specs.Inner.RequestReading.{DescribesAll, FindsRequest}
use Rattle.upload_wire.specs.Told.{HasLine}
use Rattle.upload_wire.specs.RequestText.{style_of, HasCutBody, FindsNext, ReadsNext}
use Rattle.http_wire.specs.declared.requests.parsed.ParsedRequest.{ParsedRequest}
use Rattle.http_wire.specs.declared.body.Framing.{Framing}
use Rattle.http_wire.specs.declared.fault.Bad.{Bad}
use Rattle.http_wire.specs.Inner.HeadReading.{FindsHead, IsHeadAtFront, fields_of}
use Rattle.http_wire.specs.Faults.{wire_of_input, wire_of_body}
use Rattle.http_wire.specs.declared.fault.InputFault.{InputFault}
use Rattle.http_wire.specs.declared.fault.InputFault.TheVariants as Input
use Rattle.http_wire.specs.declared.fault.BodyFault.{BodyFault}
use Rattle.http_wire.specs.declared.fault.BodyFault.TheVariants as Body
use Rattle.http_wire.specs.declared.fault.WireFault.{WireFault}
use Rattle.http_wire.specs.declared.fault.WireFault.TheVariants as Fault
use Rattle.upload_wire.specs.declared.request.Described.{Described}
use Rattle.upload_wire.specs.declared.request.Came.{Came}
use Rattle.upload_wire.specs.declared.request.Came.TheVariants as cames
use Rattle.upload_wire.specs.Inner.Coming.{came_in, held_in}
use Rattle.upload_wire.specs.declared.request.Next.{Next}
use Rattle.upload_wire.specs.declared.request.Next.TheVariants.{Request, Over}
use Rattle.upload_wire.specs.declared.request.Next.TheVariants as nexts
use Rattle.http_wire.proofs.GaveLemmas.{gives_none, gives_both}
use Rattle.http_wire.proofs.Heads.ReadLemmas.{few_fields}

-- the head that the spans cover
abbrev pub the_head : {text : List ℕ} {p : ParsedRequest} → IsHeadAtFront request_spans text p → RequestHead
the_head f = f.head.1.0

front_printed : (text : List ℕ) (p : ParsedRequest) (f : IsHeadAtFront request_spans text p)
    → take p.spans.len text ≡ print_request (the_head f)
front_printed text p f = search (rules, arith, drop_all, length-take, append-nil)

fields_same : (text : List ℕ) (p : ParsedRequest) (f : IsHeadAtFront request_spans text p)
    → fields_of request_spans (take p.spans.len text) p ≡ head_fields (the_head f).fields
fields_same text p f = f.head.1.1.fields

-- the head, and then any text
pub head_then : (text more : List ℕ) (p : ParsedRequest) (f : IsHeadAtFront request_spans text p)
    → ReadsHead requests (take p.spans.len text ++ more) (the_head f) more
head_then text more p f = search (rules, arith, front_printed, few_fields, fields_same)

-- what the fields of the spans frame, the head frames
framing_same : (max : ℕ) (text : List ℕ) (p : ParsedRequest)
    (r : Result Framing Bad) (f : IsHeadAtFront request_spans text p)
    → framing_of max p.spans.version (fields_of request_spans (take p.spans.len text) p) ≡ r
    → head_framing max (the_head f) ≡ r
framing_same max text p r f framed = cc (fields_same text p f)

-- the text in front of the body, what was read of the body, and what was read in all
whole_text : (text given more : List ℕ) (n : ℕ) → more ≡ drop n text ++ given → text ++ given ≡ take n text ++ more
whole_text text given more n same = cc (take-append-drop n text, append_assoc (take n text) (drop n text) given)

asks_same : (max : ℕ) (text body : List ℕ) (p : ParsedRequest) (d : Described) (f : IsHeadAtFront request_spans text p)
    → DescribesAll max (take p.spans.len text) p d → AsksWhole (the_head f) body (with_body d.ask body)
asks_same max text body p d f says =
    let h = the_head f in
    let front : List ℕ = take p.spans.len text in
    let range : extent_of (values_of (codes "content-range") (fields_of request_spans front p)) ≡ head_range h =
    ap (λ fields. extent_of (values_of (codes "content-range") fields)) (fields_same text p f) in
    let by_range : HeadAsks (span_bytes front p.spans.method) (span_bytes front p.spans.path) (head_range h) d.ask =
    subst (λ r. HeadAsks (span_bytes front p.spans.method) (span_bytes front p.spans.path) r d.ask) range says.asks in
    let by_target : HeadAsks (span_bytes front p.spans.method) h.target (head_range h) d.ask =
    subst (λ t. HeadAsks (span_bytes front p.spans.method) t (head_range h) d.ask) f.head.1.1.path by_range in
    (d.ask, subst (λ m. HeadAsks m h.target (head_range h) d.ask) f.head.1.1.method by_target, refl)

style_same : (max : ℕ) (text : List ℕ) (p : ParsedRequest) (d : Described) (f : IsHeadAtFront request_spans text p)
    → DescribesAll max (take p.spans.len text) p d → d.style ≡ style_of (the_head f)
style_same max text p d f says = search (rules, arith, fields_same)

-- its line
pub line_read : (text : List ℕ) (p : ParsedRequest) (f : IsHeadAtFront request_spans text p) (method target : List ℕ)
    → method ≡ span_bytes (take p.spans.len text) p.spans.method
    → target ≡ span_bytes (take p.spans.len text) p.spans.path → HasLine text method target
line_read text p f method target m t = record {
  head = the_head f;
  rest = drop p.spans.len text;
  reads = subst (λ t. ReadsHead requests t (the_head f) (drop p.spans.len text)) (take-append-drop p.spans.len text)
      (head_then text (drop p.spans.len text) p f);
  is_method = m ∙ f.head.1.1.method;
  is_target = t ∙ f.head.1.1.path;
}

-- a head of bad framing
pub bad_framing_next : (max : ℕ) (old : InputState) (p : ParsedRequest) (why : Bad)
    (f : IsHeadAtFront request_spans old.held p)
    → framing_of max p.spans.version (fields_of request_spans (take p.spans.len old.held) p) ≡ Err why
    → ReadsNext max old old (Ok (nexts.Bad why))
bad_framing_next max old p why f refused =
    let held = old.held in
    record {
      given = [];
      gives = gives_none old.source;
      found = inr (inr (inl (record {
        head = the_head f;
        rest = drop p.spans.len held;
        reads =
            subst (λ t. ReadsHead requests t (the_head f) (drop p.spans.len held))
            (take-append-drop p.spans.len held ∙ sym (append-nil held)) (head_then held (drop p.spans.len held) p f);
        refused = framing_same max held p (Err why) f refused;
      })));
    }

-- what came behind the head ends inside the body
cut_next : (max : ℕ) (old new : SourceState) (held : List ℕ) (p : ParsedRequest) (d : Described)
    (f : IsHeadAtFront request_spans held p) → DescribesAll max (take p.spans.len held) p d
    → (b : CutsBody d.framing (input_state (drop p.spans.len held) old) new) → HasCutBody max (held ++ b.gave.given)
cut_next max old new held p d f says b = record {
  head = the_head f;
  rest = b.text;
  reads =
      subst (λ t. ReadsHead requests t (the_head f) b.text)
      (sym (whole_text held b.gave.given b.text p.spans.len b.gave.joined)) (head_then held b.text p f);
  framing = d.framing;
  framed = framing_same max held p (Ok d.framing) f says.framed;
  short = b.cut;
}

-- what comes next, by what was found behind the head
pub request_next : (max : ℕ) (old : SourceState) (held : List ℕ) (new : InputState) (p : ParsedRequest) (d : Described)
    (r : Result Next WireFault)
    (f : IsHeadAtFront request_spans held p) → DescribesAll max (take p.spans.len held) p d
    → FindsRequest d (input_state (drop p.spans.len held) old) new r → ReadsNext max (input_state held old) new r
request_next max old held new p d (Ok (Request ask style)) f says b = record {
  given = b.taken.gave.given;
  gives = b.taken.gave.gives;
  found = record {
    message = take p.spans.len held ++ b.taken.text;
    cut = whole_text held b.taken.gave.given (b.taken.text ++ new.held) p.spans.len b.taken.gave.joined
        ∙ sym (append_assoc (take p.spans.len held) b.taken.text new.held);
    request = record {
      head = the_head f;
      rest = b.taken.text;
      reads = head_then held b.taken.text p f;
      framing = d.framing;
      framed = framing_same max held p (Ok d.framing) f says.framed;
      body = b.body;
      written = b.taken.written;
      asks = subst (λ ask. AsksWhole (the_head f) b.body ask) (sym b.asked) (asks_same max held b.body p d f says);
      styled = b.styled ∙ style_same max held p d f says;
    };
  };
}
request_next max old held new p d (Ok Over) f says b = absurd b
request_next max old held new p d (Ok (nexts.Bad why)) f says b = record {
  given = b.gave.given;
  gives = b.gave.gives;
  found = inr (inr (inr (record {
    head = the_head f;
    rest = b.text;
    reads =
        subst (λ t. ReadsHead requests t (the_head f) b.text)
        (sym (whole_text held b.gave.given b.text p.spans.len b.gave.joined)) (head_then held b.text p f);
    framing = d.framing;
    framed = framing_same max held p (Ok d.framing) f says.framed;
    refused = b.bad;
  })));
}
request_next max old held new p d (Err Fault.Truncated) f says b = record {
  given = b.0.gave.given;
  gives = b.0.gave.gives;
  found = (inr (cut_next max old new.source held p d f says b.0), b.1);
}
request_next max old held new p d (Err Fault.Read) f says b = record {
  given = b.gave.given;
  gives = b.gave.gives;
  found = inr (inr (cut_next max old new.source held p d f says b));
}
request_next max old held new p d (Err Fault.NoMemory) f says b = search (rules, arith)
request_next max old held new p d (Err Fault.Ended) f says b = absurd b

-- why no head came
pub head_fault_next : (max : ℕ) (text : List ℕ) (new : InputState) (e : InputFault)
    → FindsHead request_spans (input_state text new.source) (Err e) → FindsNext max text new (Err (wire_of_input e))
head_fault_next max text new Input.Truncated h = (inl h.0, h.1)
head_fault_next max text new Input.Read h = search (rules, arith)

-- a read, and then what came next
unfoldable pub reads_after : (max : ℕ) (old mid new : InputState) (r : Result Next WireFault)
    → Gave old mid.source mid.held → ReadsNext max mid new r → ReadsNext max old new r
reads_after max old mid new r gave next = record {
  given = gave.given ++ next.given;
  gives = gives_both old.source mid.source new.source gave.given next.given gave.gives next.gives;
  found =
      subst (λ t. FindsNext max t new r)
      (ap (λ t. t ++ next.given) gave.joined ∙ append_assoc old.held gave.given next.given) next.found;
}

pub described : (max : ℕ) (front : List ℕ) (p : ParsedRequest) (d : Described) (method target : List ℕ) (range : Extent)
    → method ≡ span_bytes front p.spans.method → target ≡ span_bytes front p.spans.path
    → range ≡ extent_of (values_of (codes "content-range") (fields_of request_spans front p))
    → HeadAsks method target range d.ask → d.style.head ≡ bytes_eq method (codes "HEAD")
    → d.style.keep ≡ keeps_connection p.spans.version (fields_of request_spans front p)
    → Ok d.framing ≡ framing_of max p.spans.version (fields_of request_spans front p) → DescribesAll max front p d
described max front p d method target range m t r asks is_head keeps framed = record {
  asks =
      subst (λ x. HeadAsks x (span_bytes front p.spans.path)
      (extent_of (values_of (codes "content-range") (fields_of request_spans front p))) d.ask) m
      (subst
      (λ x. HeadAsks method x (extent_of (values_of (codes "content-range") (fields_of request_spans front p))) d.ask) t
      (subst (λ x. HeadAsks method target x d.ask) r asks));
  is_head = is_head ∙ ap (λ x. bytes_eq x (codes "HEAD")) m;
  keeps = keeps;
  framed = sym framed;
}

-- ---- bytes that were let go

-- what is over as it came, is over
pub not_over : (came : Result Came WireFault) → ¬ (came ≡ Ok cames.Over) → ¬ (came_in came ≡ Ok Over)
not_over came h = search (rules, arith)

held_found : (max : ℕ) (old new : InputState) (came : Result Came WireFault) → ReadsNext max old new (came_in came)
    → ReadsNext max old new (held_in came)
held_found max old new came n = search (rules, arith)

-- what was found, if it is taken only with its bytes
pub held_next : (max : ℕ) (old new : InputState) (came : Result Came WireFault) (r : Result Next WireFault)
    → r ≡ held_in came → ReadsNext max old new (came_in came) → ReadsNext max old new r
held_next max old new came r is n = subst (λ x. ReadsNext max old new x) (sym is) (held_found max old new came n)

-- only a read that failed within a body is told as one of the request
pub read_of_body : {A : Type 0} (fault : BodyFault) → ◌≡◌ {A = Result A WireFault} (Err (wire_of_body fault)) (Err Fault.Read)
    → fault ≡ Body.Read
read_of_body Body.Truncated told = search (rules, told)
read_of_body Body.Read told = refl
read_of_body Body.NoMemory told = search (rules, told)
