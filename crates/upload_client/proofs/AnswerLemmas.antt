-- From the spans of a reply's head to what is heard.
use Rattle.std.proofs.Common.{◌≡◌, ℕ, ◌<◌, ◌≤◌, List, [], ◌++◌, length, take, drop, sym, ap, ◌∙◌, refl, subst, arith}
use Rattle.std.proofs.Common.{append_assoc, length-append, length-take, inl, inr, Bool, rules}
use Rattle.std.specs.Prelude.{◌⊎◌, Result, Ok, Err}
use Rattle.std.proofs.lemmas.List.{take-append-drop, append-nil, take-append-le, drop-append-le, length-map}
use Rattle.std.proofs.Math.ListN.{drop_of_length-le}
use Rattle.httparse.specs.Grammar.{ResponseHead, print_response, status_code}
use Rattle.http_wire.specs.States.{SourceState, InputState, input_state}
use Rattle.http_wire.specs.Reading.{Gave, HasEnded}
use Rattle.http_wire.specs.Fronts.{IsUnfinished, ReadsHead, responses}
use Rattle.http_wire.proofs.Heads.HeadLemmas.{none_at_start}
use Rattle.http_wire.proofs.Heads.HeadLaws.{response_ends}
use Rattle.upload_client.specs.AnswerText.{max_answer, ReadsFramed, IsWhole, FindsAnswer, ReadsAnswer}
use Rattle.http_wire.specs.ResponseBody.{response_framing_of, keeps_on}
use Rattle.http_wire.specs.Fields.{head_fields}
use Rattle.http_wire.specs.Inner.HeadSpans.{response_spans}
use Rattle.http_wire.specs.Inner.HeadReading.{FindsHead, IsHeadAtFront, fields_of}
use Rattle.http_wire.specs.Inner.ResponseBodyFinding.{FindsResponseBody, FindsBodyIn}
use Rattle.upload_client.specs.Inner.AnswerReading.{FindsReply, Says, heard_of_input, heard_of_body, heard_of_framing}
use Rattle.upload_client.specs.Inner.AnswerReading.{heard_of_said}
use Rattle.http_wire.specs.declared.responses.parsed.ParsedResponse.{ParsedResponse}
use Rattle.http_wire.specs.declared.responses.body.ResponseFraming.{ResponseFraming}
use Rattle.http_wire.specs.declared.responses.body.ResponseFraming.TheVariants.{Length, ToEnd}
use Rattle.http_wire.specs.declared.responses.body.FramingFault.{FramingFault}
use Rattle.http_wire.specs.declared.responses.body.FramingFault.TheVariants as Framing
use Rattle.http_wire.specs.declared.responses.body.ResponseBodyEnd.TheVariants.{Whole, TooLarge}
use Rattle.upload_client.specs.declared.answer.ReplyRead.{ReplyRead}
use Rattle.upload_client.specs.declared.heard.Heard.{Heard}
use Rattle.upload_client.specs.declared.heard.SaidFault.{SaidFault}
use Rattle.upload_client.specs.declared.heard.SaidFault.TheVariants as Said
use Rattle.upload_client.specs.declared.heard.HeardFault.{HeardFault}
use Rattle.upload_client.specs.declared.heard.HeardFault.TheVariants as Fault
use Rattle.http_wire.specs.declared.fault.InputFault.{InputFault}
use Rattle.http_wire.specs.declared.fault.InputFault.TheVariants as Input
use Rattle.http_wire.specs.declared.fault.BodyFault.{BodyFault}
use Rattle.http_wire.proofs.GaveLemmas.{gives_both, gives_none}

-- the head that the spans cover
abbrev pub the_head : {text : List ℕ} {p : ParsedResponse} → IsHeadAtFront response_spans text p → ResponseHead
the_head f = f.head.1.0

drop_all : (n : ℕ) (text : List ℕ) → n ≤ length text → drop n (take n text) ≡ []
drop_all n text le = drop_of_length-le (take n text) (omega (arith, length-take n text))

front_printed : (text : List ℕ) (p : ParsedResponse) (f : IsHeadAtFront response_spans text p)
    → take p.spans.len text ≡ print_response (the_head f)
front_printed text p f = cc (drop_all p.spans.len text f.in_range, append-nil (print_response (the_head f)))

pub fields_same : (text : List ℕ) (p : ParsedResponse) (f : IsHeadAtFront response_spans text p)
    → fields_of response_spans (take p.spans.len text) p ≡ head_fields (the_head f).fields
fields_same text p f = f.head.1.1.fields

pub head_reads : (text : List ℕ) (p : ParsedResponse) (f : IsHeadAtFront response_spans text p)
    → ReadsHead responses text (the_head f) (drop p.spans.len text)
head_reads text p f = search (rules, arith, front_printed, fields_same, take-append-drop, length-map, length-take)

-- a head at the front is there when more comes
head_kept : (text more : List ℕ) (p : ParsedResponse) → IsHeadAtFront response_spans text p
    → IsHeadAtFront response_spans (text ++ more) p
head_kept text more p f = search (rules, arith, length-append, take-append-le)

-- the framing of the head at the front
framed : (h : Bool) (text : List ℕ) (p : ParsedResponse) (r : Result ResponseFraming FramingFault)
    (f : IsHeadAtFront response_spans text p)
    → response_framing_of max_answer h p.spans.code (fields_of response_spans (take p.spans.len text) p) ≡ r
    → ReadsFramed h text r (the_head f) (drop p.spans.len text)
framed h text p r f e = record {
  reads = head_reads text p f;
  framed = ap (response_framing_of max_answer h (status_code (the_head f))) (sym (fields_same text p f))
      ∙ ap (λ s. response_framing_of max_answer h s (fields_of response_spans (take p.spans.len text) p))
      (sym f.head.1.1.code)
      ∙ e;
}

-- a refused framing
unframed : (h : Bool) (text : List ℕ) (new : InputState) (keep : Bool) (p : ParsedResponse) (e : FramingFault)
    → IsHeadAtFront response_spans text p
    → response_framing_of max_answer h p.spans.code (fields_of response_spans (take p.spans.len text) p) ≡ Err e
    → FindsAnswer h text new (Err (heard_of_framing e)) keep
unframed h text new keep p Framing.Unreadable f e =
    inr (inl (record {
      head = the_head f;
      rest = drop p.spans.len text;
      framed = framed h text p (Err Framing.Unreadable) f e;
    }))
unframed h text new keep p Framing.TooLarge f e =
    inr (inl (record {
      head = the_head f;
      rest = drop p.spans.len text;
      framed = framed h text p (Err Framing.TooLarge) f e;
    }))

-- behind a fault nothing is said of whether the connection stays
any_keep : (h : Bool) (text : List ℕ) (new : InputState) (e : HeardFault) (keep other : Bool)
    → FindsAnswer h text new (Err e) keep → FindsAnswer h text new (Err e) other
any_keep h text new e keep other x = search (rules, arith)

pub found_at_once : (h : Bool) (known : InputState) (r : Result Heard HeardFault) (keep : Bool)
    → FindsAnswer h known.held known r keep → ReadsAnswer h known known r keep
found_at_once h known r keep found = record {
  given = [];
  gives = gives_none known.source;
  found = subst (λ t. FindsAnswer h t known r keep) (sym (append-nil known.held)) found;
}

-- what the body is, behind the head
body_found : (h : Bool) (text after body : List ℕ) (new : InputState) (keep : Bool) (p : ParsedResponse)
    (framing : ResponseFraming) (e : BodyFault) (f : IsHeadAtFront response_spans text p)
    → ReadsFramed h text (Ok framing) (the_head f) after → FindsBodyIn framing after body new (Err e)
    → FindsAnswer h text new (Err (heard_of_body e)) keep
body_found h text after body new keep p framing e f r b = search (rules, arith, framed)

long_found : (h : Bool) (text after body : List ℕ) (new : InputState) (keep : Bool) (p : ParsedResponse)
    (framing : ResponseFraming) (f : IsHeadAtFront response_spans text p)
    → ReadsFramed h text (Ok framing) (the_head f) after → FindsBodyIn framing after body new (Ok TooLarge)
    → FindsAnswer h text new (Err Fault.TooLarge) keep
long_found h text after body new keep p (Length n) f r b = absurd b
long_found h text after body new keep p (ToEnd most) f r b = search (rules, arith, framed)

-- what is heard by what a reply says
abbrev pub heard_by : Result Heard SaidFault → Result Heard HeardFault
heard_by (Ok heard) = Ok heard
heard_by (Err fault) = Err (heard_of_said fault)

-- what a whole reply says
says_found : (h : Bool) (text : List ℕ) (new : InputState) (head : ResponseHead) (body : List ℕ)
    (r : Result Heard SaidFault) (keep : Bool)
    (whole : IsWhole h text new head body) → Says (status_code head) (head_fields head.fields) body r
    → keep ≡ keeps_on head.minor (head_fields head.fields) whole.framing → FindsAnswer h text new (heard_by r) keep
says_found h text new head body (Ok heard) keep whole says keeps = search (rules, arith)
says_found h text new head body (Err Said.Unreadable) keep whole says keeps = search (rules, arith)
says_found h text new head body (Err Said.NoMemory) keep whole says keeps = tt

module _ (h : Bool) (held body : List ℕ) (old : SourceState) (new : InputState) (keep : Bool) (p : ParsedResponse)
    (framing : ResponseFraming) (f : IsHeadAtFront response_spans held p)
    (is : Ok framing
    ≡ response_framing_of max_answer h p.spans.code (fields_of response_spans (take p.spans.len held) p)) where
  same_front : (given : List ℕ) → take p.spans.len (held ++ given) ≡ take p.spans.len held
  same_front given = take-append-le p.spans.len held given f.in_range

  framed_on : (given after : List ℕ) → after ≡ drop p.spans.len held ++ given
      → ReadsFramed h (held ++ given) (Ok framing) (the_head (head_kept held given p f)) after
  framed_on given after e =
      let behind : drop p.spans.len (held ++ given) ≡ after =
      drop-append-le p.spans.len held given f.in_range ∙ sym e in
      let at =
      ap (λ t. response_framing_of max_answer h p.spans.code (fields_of response_spans t p)) (same_front given)
      ∙ sym is in
      subst (ReadsFramed h (held ++ given) (Ok framing) (the_head (head_kept held given p f))) behind
      (framed h (held ++ given) p (Ok framing) (head_kept held given p f) at)

  pub body_fault_found : (e : BodyFault)
      → FindsResponseBody framing (input_state (drop p.spans.len held) old) new body (Err e)
      → ReadsAnswer h (input_state held old) new (Err (heard_of_body e)) keep
  body_fault_found e b = search (rules, arith, body_found, head_kept, framed_on)

  pub long_body_found : FindsResponseBody framing (input_state (drop p.spans.len held) old) new body (Ok TooLarge)
      → ReadsAnswer h (input_state held old) new (Err Fault.TooLarge) keep
  long_body_found b = search (rules, arith, long_found, head_kept, framed_on)

  pub reply_found : (r : Result Heard SaidFault)
      → FindsResponseBody framing (input_state (drop p.spans.len held) old) new body (Ok Whole)
      → Says p.spans.code (fields_of response_spans (take p.spans.len held) p) body r
      → keep ≡ keeps_on p.spans.version (fields_of response_spans (take p.spans.len held) p) framing
      → ReadsAnswer h (input_state held old) new (heard_by r) keep
  reply_found r b says keeps =
      let given = b.gave.given in
      let text = held ++ given in
      let k = head_kept held given p f in
      let at_code =
      subst (λ s. Says s (fields_of response_spans (take p.spans.len held) p) body r) k.head.1.1.code says in
      let fields : fields_of response_spans (take p.spans.len held) p ≡ head_fields (the_head k).fields =
      ap (λ t. fields_of response_spans t p) (sym (same_front given)) ∙ fields_same text p k in
      let said = subst (λ t. Says (status_code (the_head k)) t body r) fields at_code in
      let at_version =
      keeps ∙ ap (λ v. keeps_on v (fields_of response_spans (take p.spans.len held) p) framing) k.head.1.1.version in
      let kept = at_version ∙ ap (λ t. keeps_on (the_head k).minor t framing) fields in
      record {
        given = given;
        gives = b.gave.gives;
        found = says_found h text new (the_head k) body r keep
            (record {
              framing = framing;
              framed =
                  subst (ReadsFramed h text (Ok framing) (the_head k)) b.found.0 (framed_on given b.text b.gave.joined);
              is_body = b.found.1;
            }) said kept;
      }

-- ---- the same, if the head was sliced and then taken out of the buffer

-- if the framing of the sliced head is that of the head at the front
framing_at : (h : Bool) (held slice : List ℕ) (p : ParsedResponse) (r : Result ResponseFraming FramingFault)
    → slice ≡ held
    → r ≡ response_framing_of max_answer h p.spans.code (fields_of response_spans (take p.spans.len slice) p)
    → r ≡ response_framing_of max_answer h p.spans.code (fields_of response_spans (take p.spans.len held) p)
framing_at h held slice p r slice_is is = cc

-- a refused framing of the head
pub framing_refused : (h : Bool) (slice : List ℕ) (known : InputState) (p : ParsedResponse) (e : FramingFault)
    → IsHeadAtFront response_spans known.held p → slice ≡ known.held
    → Err e ≡ response_framing_of max_answer h p.spans.code (fields_of response_spans (take p.spans.len slice) p)
    → FindsReply h known known (Err (heard_of_framing e))
framing_refused h slice known p e f slice_is is = search (rules, arith, found_at_once, unframed, framing_at)

-- a fault of the body behind the head
pub fault_behind : (h : Bool) (held slice front body : List ℕ) (old : SourceState) (new : InputState)
    (p : ParsedResponse)
    (framing : ResponseFraming) (e : BodyFault) → IsHeadAtFront response_spans held p → slice ≡ held
    → Ok framing ≡ response_framing_of max_answer h p.spans.code (fields_of response_spans (take p.spans.len slice) p)
    → front ≡ drop p.spans.len held → FindsResponseBody framing (input_state front old) new body (Err e)
    → FindsReply h (input_state held old) new (Err (heard_of_body e))
fault_behind h held slice front body old new p framing e f slice_is is front_is b = λ keep.
    body_fault_found h held body old new keep p framing f (framing_at h held slice p (Ok framing) slice_is is) e
    (subst (λ t. FindsResponseBody framing (input_state t old) new body (Err e)) front_is b)

-- a body that goes on behind the limit
pub long_behind : (h : Bool) (held slice front body : List ℕ) (old : SourceState) (new : InputState)
    (p : ParsedResponse)
    (framing : ResponseFraming) → IsHeadAtFront response_spans held p → slice ≡ held
    → Ok framing ≡ response_framing_of max_answer h p.spans.code (fields_of response_spans (take p.spans.len slice) p)
    → front ≡ drop p.spans.len held → FindsResponseBody framing (input_state front old) new body (Ok TooLarge)
    → FindsReply h (input_state held old) new (Err Fault.TooLarge)
long_behind h held slice front body old new p framing f slice_is is front_is b = λ keep.
    long_body_found h held body old new keep p framing f (framing_at h held slice p (Ok framing) slice_is is)
    (subst (λ t. FindsResponseBody framing (input_state t old) new body (Ok TooLarge)) front_is b)

-- a body behind the head
pub reply_behind : (h : Bool) (held slice front body seen : List ℕ) (old : SourceState) (new : InputState) (keep : Bool)
    (p : ParsedResponse) (framing : ResponseFraming)
    (r : Result Heard SaidFault)
    → IsHeadAtFront response_spans held p → slice ≡ held
    → Ok framing ≡ response_framing_of max_answer h p.spans.code (fields_of response_spans (take p.spans.len slice) p)
    → front ≡ drop p.spans.len held → FindsResponseBody framing (input_state front old) new body (Ok Whole)
    → seen ≡ body
    → Says p.spans.code (fields_of response_spans (take p.spans.len slice) p) seen r
    → keep ≡ keeps_on p.spans.version (fields_of response_spans (take p.spans.len slice) p) framing
    → ReadsAnswer h (input_state held old) new (heard_by r) keep
reply_behind h held slice front body seen old new keep p framing r f slice_is is front_is b seen_is says keeps =
    let at_slice =
    subst (λ t. Says p.spans.code (fields_of response_spans (take p.spans.len t) p) seen r) slice_is says in
    reply_found h held body old new keep p framing f (framing_at h held slice p (Ok framing) slice_is is) r
    (subst (λ t. FindsResponseBody framing (input_state t old) new body (Ok Whole)) front_is b)
    (subst (λ t. Says p.spans.code (fields_of response_spans (take p.spans.len held) p) t r) seen_is at_slice)
    (subst (λ t. keep ≡ keeps_on p.spans.version (fields_of response_spans (take p.spans.len t) p) framing) slice_is
    keeps)

-- what a reply says that isn't heard, whether or not the connection stays
pub unheard_behind : (h : Bool) (held slice front body seen : List ℕ) (old : SourceState) (new : InputState)
    (p : ParsedResponse)
    (framing : ResponseFraming) (e : SaidFault) → IsHeadAtFront response_spans held p → slice ≡ held
    → Ok framing ≡ response_framing_of max_answer h p.spans.code (fields_of response_spans (take p.spans.len slice) p)
    → front ≡ drop p.spans.len held → FindsResponseBody framing (input_state front old) new body (Ok Whole)
    → seen ≡ body
    → Says p.spans.code (fields_of response_spans (take p.spans.len slice) p) seen (Err e)
    → FindsReply h (input_state held old) new (Err (heard_of_said e))
unheard_behind h held slice front body seen old new p framing e f slice_is is front_is b seen_is says =
    let told =
    reply_behind h held slice front body seen old new
    (keeps_on p.spans.version (fields_of response_spans (take p.spans.len slice) p) framing) p framing (Err e)
    f slice_is is front_is b seen_is says refl in
    λ keep. record {
      given = told.given;
      gives = told.gives;
      found = any_keep h (held ++ told.given) new (heard_of_said e) _ keep told.found;
    }

-- reads before it
pub reads_after : (h : Bool) (old mid new : InputState) (r : Result Heard HeardFault) (keep : Bool)
    → Gave old mid.source mid.held → ReadsAnswer h mid new r keep → ReadsAnswer h old new r keep
reads_after h old mid new r keep gave next = search (rules, arith, gives_both, append_assoc)

pub finds_after : (h : Bool) (old mid new : InputState) (r : Result ReplyRead HeardFault)
    → Gave old mid.source mid.held → FindsReply h mid new r → FindsReply h old new r
finds_after h old mid new (Ok reply) gave next = reads_after h old mid new (Ok reply.heard) reply.keep gave next
finds_after h old mid new (Err e) gave next = λ keep. reads_after h old mid new (Err e) keep gave (next keep)

-- a fault in what was read
pub found_after : (h : Bool) (old new : InputState) (e : HeardFault) → Gave old new.source new.held
    → ((keep : Bool) → FindsAnswer h new.held new (Err e) keep) → FindsReply h old new (Err e)
found_after h old new e gave found = search (rules, arith)

-- there is no head in no byte
pub unfinished : (text : List ℕ) → (text ≡ []) ⊎ ((0 < length text) × IsUnfinished responses text)
    → IsUnfinished responses text
unfinished text (inl e) = grind (arith, none_at_start responses response_ends)
unfinished text (inr u) = u.1

-- a fault of the head
pub head_over : (h : Bool) (new : InputState) → (new.held ≡ []) × HasEnded new.source → (keep : Bool)
    → FindsAnswer h new.held new (Err Fault.Truncated) keep
head_over h new b = λ keep. (b.1, inl (unfinished new.held (inl b.0)))

pub head_fault : (h : Bool) (new : InputState) (fault : InputFault) → FindsHead response_spans new (Err fault)
    → (keep : Bool) → FindsAnswer h new.held new (Err (heard_of_input fault)) keep
head_fault h new Input.Truncated b = λ keep. (b.1, inl b.0.1)
head_fault h new Input.Read b = λ keep. inl (unfinished new.held b)
