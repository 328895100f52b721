-- What a client asked and heard over a connection is what a worker read and answered on it.
use Rattle.std.proofs.Common.{◌≡◌, ℕ, ◌≤◌, Bool, true, false, List, [], ◌∷◌, ◌++◌, length, map, refl, sym, ap}
use Rattle.std.proofs.Common.{subst, ◌∙◌, arith, append-nil, append_assoc, length-append, inl, inr, Option, Some, None}
use Rattle.std.proofs.Common.{Ok, Err, nat_lt, rules}
use Rattle.std.specs.Prelude.{Result, ⊤, is_err, not, ◌&&◌, ◌==◌, if◌then◌else◌}
use Rattle.std.specs.List.{AllByRecursion, flat_map}
use Rattle.std.specs.Result.{result_ok}
use Rattle.std.proofs.lemmas.Bool.{and_parts, eqb-true, ltb-false, ltb-true, le-ltb, not-true, true≢false}
use Rattle.std.proofs.lemmas.Grind.{flat_map-append}
use Rattle.std.proofs.lemmas.List.{append_cancel_left, nil_from_length}
use Rattle.httparse.specs.Grammar.{RequestHead}
use Rattle.http_wire.specs.Fronts.{Reads, ReadsHead, requests, responses}
use Rattle.http_wire.specs.declared.fault.Bad.{Bad}
use Rattle.http_wire.proofs.Heads.HeadLaws.{request_ends, response_ends}
use Rattle.http_wire.proofs.Heads.HeadLemmas.{none_at_start}
use Rattle.http_wire.proofs.Heads.ReadLemmas.{ReadsHead-more}
use Rattle.upload_service.specs.declared.ask.Ask.{Ask}
use Rattle.upload_service.specs.declared.answer.Answer.{Answer}
use Rattle.upload_service.specs.declared.answer.Answer.TheVariants.{Blob}
use Rattle.http_wire.specs.States.{SourceState, InputState, SinkState, input_state}
use Rattle.http_wire.specs.Writing.{Wrote}
use Rattle.http_wire.specs.ResponseBody.{IsBody}
use Rattle.http_wire.specs.declared.responses.body.ResponseFraming.{ResponseFraming}
use Rattle.http_wire.specs.declared.responses.body.ResponseFraming.TheVariants.{Length, ToEnd}
use Rattle.http_wire.specs.declared.writing.WriteFault.{WriteFault}
use Rattle.upload_wire.specs.Conversation as conversation
use Rattle.upload_wire.specs.Conversation.{Moves, WireExchange, IsKept, IsRead, EndsWith, last_style, messages, replies}
use Rattle.upload_wire.specs.Conversation.{ConnectionState, stand}
use Rattle.upload_wire.specs.ConnectionRuns.{answered, answered_last, unanswered, unanswered_last}
use Rattle.upload_wire.specs.ReplyText.{reply}
use Rattle.upload_wire.specs.RequestText.{IsBad, IsRequest}
use Rattle.upload_wire.specs.Unambiguous.{request, nothing}
use Rattle.upload_wire.specs.declared.request.Style.{Style}
use Rattle.upload_wire.specs.declared.connection.ConnEnd.{ConnEnd}
use Rattle.upload_wire.specs.declared.connection.ConnEnd.TheVariants.{Clean, AfterClose, AfterBad, TooMany, DeskGone}
use Rattle.upload_wire.specs.declared.connection.ConnEnd.TheVariants.{Fault}
use Rattle.upload_wire.specs.declared.connection.ConnFault.TheVariants as Conn
use Rattle.upload_wire.proofs.UnambiguousRequests.{requests_are_unambiguous, same_request}
use Rattle.upload_client.specs.AskText.{ask_text, wants_head}
use Rattle.upload_client.specs.AnswerText.{AnswerReaderState, TellsHeard, HasOpenBody, HasLongBody, ReadsFramed}
use Rattle.upload_client.specs.AnswerText.{code_of, max_answer}
use Rattle.upload_client.specs.Heard.{bare, reply_heard}
use Rattle.upload_client.specs.TransportText.{WireState, AsksWhere, Exchanges, HearsBehind, ReadsReply, awaited}
use Rattle.upload_client.specs.TransportText.{has_body, is_refusal, refusal_in, stays_open}
use Rattle.upload_client.specs.UnambiguousReplies.{heard, too_large}
use Rattle.upload_client.specs.declared.heard.Heard.{Heard}
use Rattle.upload_client.specs.declared.heard.HeardFault.{HeardFault}
use Rattle.upload_client.specs.declared.heard.HeardFault.TheVariants as Reply
use Rattle.wire_laws.specs.Joined.{TransportCall, AsksInTurn, IsPrefix, IsShort, IsAudible, IsOneOf, AnswerSays}
use Rattle.wire_laws.specs.Joined.{AreUnanswered}
use Rattle.wire_laws.specs.Joined.{AreJoined, ConnectionsAreJoined}
use Rattle.wire_laws.specs.WrittenAsks.{written_style}
use Rattle.wire_laws.specs.WrittenExchanges.{MayBeAsked}
use Rattle.wire_laws.specs.WrittenReplies.{FitsMethod, HasLawfulValues, IsReadOnlyAs, blob_read, read_whole, reply_read}
use Rattle.upload_wire.proofs.Lists.{all_mapped, all_weaker, none_before}
use Rattle.wire_laws.proofs.NeverBad.{asked_not_bad}
use Rattle.wire_laws.proofs.WrittenReplies.{replies_heard}
use Rattle.wire_laws.proofs.WrittenRequests.{asked_request}

-- ---- texts

none_added : (s a : List ℕ) → s ≡ s ++ a → a ≡ []
none_added s a e = append_cancel_left s a [] (sym e ∙ sym (append-nil s))

-- ---- requests

no_empty_request : {max : ℕ} {m : List ℕ} {ask : Ask} {style : Style} → IsRequest max m ask style → m ≡ [] → ⊥
no_empty_request {max} {m} {ask} {style} is none =
    absurd (cc (requests_are_unambiguous.one max m (request ask style []) nothing
    (record { message = m; cut = sym (append-nil m); request = is }) none (λ e. absurd (cc e)) (λ e. absurd (cc e))))

-- a request that was read
record Received : Type 0 where
  message : List ℕ
  ask : Ask
  style : Style

-- an answered request, and whether its reply kept the connection
abbrev Turn : Type 0
Turn = WireExchange × Bool

abbrev all_read : List Turn → List ℕ
all_read ts = flat_map (λ (t : Turn). t.0.message) ts

abbrev reply_of : Turn → List ℕ
reply_of t = reply t.0.answer (record { head = t.0.style.head; keep = t.1 })

abbrev all_replies : List Turn → List ℕ
all_replies ts = flat_map reply_of ts

-- an answer that can be heard if its ask is one of the client's
abbrev MayBeHeard : (Ask → Type 0) → WireExchange → Type 0
MayBeHeard known y = known y.ask → y.style ≡ written_style y.ask → IsAudible y

abbrev received : Turn → Received
received t = record { message = t.0.message; ask = t.0.ask; style = t.0.style }

-- of each of these a request was read, and they are these bytes
abbrev AreRead : {A : Type 0} → (A → Received) → ℕ → List A → Type 0
AreRead seen max xs = AllByRecursion (λ x. IsRequest max (seen x).message (seen x).ask (seen x).style) xs

abbrev bytes_of : {A : Type 0} → (A → Received) → List A → List ℕ
bytes_of seen xs = flat_map (λ x. (seen x).message) xs

abbrev itself : Received → Received
itself u = u

-- if nothing more was written, nothing more was read as a request
none_read : {A : Type 0} (seen : A → Received) (max : ℕ) (written : List ℕ) (xs : List A) (rest back : List ℕ)
    → AreRead seen max xs → written ≡ (written ++ (bytes_of seen xs ++ rest)) ++ back → xs ≡ []
none_read seen max written [] rest back kept e = refl
none_read seen max written (x ∷ xs) rest back kept e =
    absurd (no_empty_request kept.0 (none_before (seen x).message (bytes_of seen xs ++ (rest ++ back))
    (none_added written _ (simp append_assoc at e))))

-- ---- replies

-- a reply as it is read
abbrev said : Answer → Option (List ℕ) → Heard
said answer code = record (reply_heard answer) { code = code }

blob_said : (content : List ℕ) (keep : Bool) (rest : List ℕ) → length content ≤ max_answer
    → blob_read content keep rest ≡ heard (record (bare 200) { code = code_of content }) keep rest
blob_said content keep rest short = rw (le-ltb max_answer (length content) short) refl

whole_said : (answer : Answer) (keep : Bool) (rest : List ℕ) → IsShort answer
    → (code : Option (List ℕ)) × (read_whole answer keep rest ≡ heard (said answer code) keep rest)
whole_said (Blob digest size (Some content)) keep rest short = (code_of content, blob_said content keep rest short)
whole_said other keep rest short = ((reply_heard other).code, refl)

read_as_said : (answer : Answer) (head keep : Bool) (rest : List ℕ) → IsShort answer
    → (code : Option (List ℕ))
    × (reply_read answer (record { head = head; keep = keep }) rest ≡ heard (said answer code) keep rest)
read_as_said answer true keep rest short = (None, refl)
read_as_said answer false keep rest short = whole_said answer keep rest short

no_empty_head : (text : List ℕ) (h : RequestHead) (rest : List ℕ) → ReadsHead requests text h rest → text ≡ [] → ⊥
no_empty_head text h rest reads none =
    none_at_start requests request_ends h rest (subst (λ t. Reads requests t h rest) none reads.reads)

no_empty_reply : (head_only : Bool) (text : List ℕ) (new : InputState) (what : Heard) (keep : Bool)
    → TellsHeard head_only text new what keep → text ≡ [] → ⊥
no_empty_reply head_only text new what keep t none =
    none_at_start responses response_ends t.head (t.body ++ new.held)
    (subst (λ x. Reads responses x t.head (t.body ++ new.held)) none t.whole.framed.reads.reads)

-- the same reply with more behind it
more_behind : (head_only : Bool) (text more : List ℕ) (new : InputState) (what : Heard) (keep : Bool)
    (t : TellsHeard head_only text new what keep) (n : ℕ) → t.whole.framing ≡ Length n
    → TellsHeard head_only (text ++ more) (input_state (new.held ++ more) new.source) what keep
more_behind head_only text more new what keep t n sized =
    record {
      head = t.head;
      body = t.body;
      whole = record {
        framing = t.whole.framing;
        framed = record {
          reads = rw (← append_assoc t.body new.held more) (ReadsHead-more more refl t.whole.framed.reads);
          framed = t.whole.framed.framed;
        };
        is_body =
            subst (λ f. IsBody f t.body (input_state (new.held ++ more) new.source)) (sym sized)
            (subst (λ f. IsBody f t.body new) sized t.whole.is_body);
      };
      says = t.says;
      keeps = t.keeps;
    }

-- what is heard if the text begins with the reply to an answer, and what stands behind it
record IsHeardAs (answer : Answer) (what : Heard) (behind rest : List ℕ) : Type 0 where
  code : Option (List ℕ)
  is : what ≡ said answer code
  left : behind ≡ rest

module _ (answer : Answer) (head keep : Bool) (rest : List ℕ) (values : HasLawfulValues answer)
    (fits : FitsMethod answer head) (short : IsShort answer) where
  style : Style
  style = record { head = head; keep = keep }

  written_text : List ℕ
  written_text = reply answer style ++ rest

  -- it is read as that, and in no other way
  read_so : (new : SourceState)
      → (code : Option (List ℕ)) × IsReadOnlyAs head written_text new (heard (said answer code) keep rest)
  unfolding written_text style
  read_so new =
      let as_said = read_as_said answer head keep rest short in (
        as_said.0,
        subst (IsReadOnlyAs head written_text new) as_said.1 (replies_heard answer style rest new values fits),
      )

  by_length : (g more : List ℕ) (new : InputState) (what : Heard) (goes_on : Bool)
      (t : TellsHeard head g new what goes_on) (n : ℕ) → t.whole.framing ≡ Length n → g ++ more ≡ written_text
      → IsHeardAs answer what (new.held ++ more) rest
  by_length g more new what goes_on t n sized e =
      let only = read_so new.source in
      let longer = more_behind head g more new what goes_on t n sized in
      let same =
      only.1.alone (heard what goes_on (new.held ++ more))
      (subst (λ x. TellsHeard head x (input_state (new.held ++ more) new.source) what goes_on) e longer) in
      record { code = only.0; is = cc; left = cc }

  -- no such reply goes to the end of the input
  not_to_end : {A : Type 0} (g more : List ℕ) (new : InputState) (what : Heard) (goes_on : Bool)
      (t : TellsHeard head g new what goes_on) (most : ℕ) → t.whole.framing ≡ ToEnd most
      → g ++ more ≡ written_text → A
  not_to_end {A} g more new what goes_on t most to_end e =
      let only = read_so new.source in
      let all = (t.body ++ new.held) ++ more in
      let framed : ReadsFramed head written_text (Ok (ToEnd most)) t.head all = record {
        reads = ReadsHead-more more (sym e) t.whole.framed.reads;
        framed = t.whole.framed.framed ∙ ap Ok to_end;
      } in
      elim (nat_lt most (length all)) as (λ b. nat_lt most (length all) ≡ b → A) [
        | true ↦ λ over.
            let long : HasLongBody head written_text = record {
              head = t.head;
              rest = all;
              most = most;
              framed = framed;
              long = ltb-true most (length all) over;
            } in
            absurd (cc (only.1.alone too_large (inr (inr long))))
        | false ↦ λ under.
            let body : HasOpenBody head written_text = record {
              head = t.head;
              rest = all;
              most = most;
              framed = framed;
              small = ltb-false most (length all) under;
            } in
            absurd (cc (only.1.gives [] (Err Reply.Read) goes_on (inr (inr body)) (λ x. absurd (cc x))).0)
      ] refl

  by_framing : (g more : List ℕ) (new : InputState) (what : Heard) (goes_on : Bool)
      (t : TellsHeard head g new what goes_on) (framing : ResponseFraming) → t.whole.framing ≡ framing
      → g ++ more ≡ written_text → IsHeardAs answer what (new.held ++ more) rest
  by_framing g more new what goes_on t (Length n) is e = by_length g more new what goes_on t n is e
  by_framing g more new what goes_on t (ToEnd most) is e = not_to_end g more new what goes_on t most is e

  heard_as : (g more : List ℕ) (new : InputState) (what : Heard) (goes_on : Bool) → TellsHeard head g new what goes_on
      → g ++ more ≡ reply answer (record { head = head; keep = keep }) ++ rest
      → IsHeardAs answer what (new.held ++ more) rest
  unfolding written_text style
  heard_as g more new what goes_on t e = by_framing g more new what goes_on t t.whole.framing refl e

-- ---- the client's end

-- what one ask or several added to the transcripts of a client
record Grows (old new : WireState) : Type 0 where
  written : List ℕ
  read : List ℕ
  taken : new.writer.taken ≡ old.writer.taken ++ written
  given : new.reader.input.source.given ≡ old.reader.input.source.given ++ read
  host : new.host ≡ old.host

grows_none : (old new : WireState) → new.writer ≡ old.writer → new.reader ≡ old.reader
    → new.host ≡ old.host → Grows old new
grows_none old new w r h = grind (arith, append-nil old.writer.taken, append-nil old.reader.input.source.given)

grows_twice : (old mid new : WireState) → Grows old mid → Grows mid new → Grows old new
grows_twice old mid new a b = search (rules, arith, append_assoc)

wrote_front : (written : Result ⊤ WriteFault) (old new : SinkState) (whole : List ℕ) → Wrote old new whole written
    → (front : List ℕ) × (new.taken ≡ old.taken ++ front)
wrote_front (Ok u) old new whole w = (whole, w.takes.told)
wrote_front (Err fault) old new whole w = (w.front, w.takes.told)

read_front : (written : Result ⊤ WriteFault) (body head_only : Bool) (old new : WireState) (told : Option Heard)
    → HearsBehind (awaited written body) head_only old told new
    → (given : List ℕ) × (new.reader.input.source.given ≡ old.reader.input.source.given ++ given)
read_front (Ok u) body head_only old new told h = (h.1.read.given, h.1.read.gives.told)
read_front (Err fault) true head_only old new told h = (h.1.read.given, h.1.read.gives.told)
read_front (Err fault) false head_only old new told h =
    ([], ap (λ r. r.input.source.given) h.1 ∙ sym (append-nil old.reader.input.source.given))

exchange_grows : (old new : WireState) (ask : Ask) (told : Option Heard) → Exchanges old ask told new → Grows old new
exchange_grows old new ask told x =
    let w = wrote_front x.written old.writer new.writer (ask_text ask old.host) x.wrote in
    let r = read_front x.written (has_body ask) (wants_head ask) old new told x.hears in
    record { written = w.0; read = r.0; taken = w.1; given = r.1; host = x.same_host }

one_grows : (may_ask : Bool) (old new : WireState) (ask : Ask) (told : Option Heard)
    → AsksWhere may_ask old ask told new → Grows old new
one_grows true old new ask told x = exchange_grows old new ask told x
one_grows false old new ask told x =
    grows_none old new (ap (λ w. w.writer) x.1) (ap (λ w. w.reader) x.1) (ap (λ w. w.host) x.1)

all_grow : (old new : WireState) (xs : List TransportCall) → AsksInTurn old xs new → Grows old new
all_grow old new [] turn = search (rules, arith, grows_none)
all_grow old new (x ∷ xs) turn = search (rules, arith, grows_twice, one_grows, all_grow turn.0 new xs turn.2)

-- a transport over which no more can be asked: nothing is written, read or heard
record StaysClosed (old new : WireState) (xs : List TransportCall) : Type 0 where
  unheard : AllByRecursion (λ x. x.heard ≡ None) xs
  writer : new.writer ≡ old.writer

stays_closed : (old new : WireState) (xs : List TransportCall) → stays_open old ≡ false → AsksInTurn old xs new
    → StaysClosed old new xs
stays_closed old new [] closed turn = record { unheard = tt; writer = ap (λ w. w.writer) turn }
stays_closed old new (x ∷ xs) closed turn = search (rules, arith, stays_closed turn.0 new xs)

-- nothing is heard if nothing was read
none_heard : (reply : Result Heard HeardFault) (head_only : Bool) (old new : AnswerReaderState)
    (r : ReadsReply head_only old reply new) → old.input.held ≡ [] → r.read.given ≡ []
    → (result_ok reply ≡ None) × (refusal_in reply ≡ None)
none_heard reply head_only old new r h = search (rules, arith, no_empty_reply)

nothing_heard : (written : Result ⊤ WriteFault) (body head_only : Bool) (old new : WireState) (told : Option Heard)
    (h : HearsBehind (awaited written body) head_only old told new) → old.reader.input.held ≡ []
    → (read_front written body head_only old new told h).0 ≡ [] → told ≡ None
unfolding read_front
nothing_heard (Ok u) body head_only old new told h held none =
    h.2 ∙ (none_heard h.0 head_only old.reader new.reader h.1 held none).0
nothing_heard (Err fault) true head_only old new told h held none =
    h.2 ∙ (none_heard h.0 head_only old.reader new.reader h.1 held none).1
nothing_heard (Err fault) false head_only old new told h held none = h.0

-- if more can be asked no byte is held, and no fault broke it
none_held : (w : WireState) → stays_open w ≡ true → w.reader.input.held ≡ []
none_held w is = search (rules, arith, and_parts, nil_from_length, eqb-true)

unheard_one : (may_ask : Bool) (old new : WireState) (ask : Ask) (told : Option Heard) → stays_open old ≡ may_ask
    → (asked : AsksWhere may_ask old ask told new) → (one_grows may_ask old new ask told asked).read ≡ [] → told ≡ None
unfolding one_grows exchange_grows
unheard_one true old new ask told is asked none = search (rules, arith, nothing_heard, none_held)
unheard_one false old new ask told is asked none = asked.0

-- if nothing more was read nothing more was heard
silent : (xs : List TransportCall) (old new : WireState) (more : List ℕ) → AsksInTurn old xs new
    → old.reader.input.source.given ≡ new.reader.input.source.given ++ more → AllByRecursion (λ x. x.heard ≡ None) xs
silent [] old new more turn e = tt
silent (x ∷ xs) old new more turn e =
    let here = one_grows (stays_open old) old turn.0 x.ask x.heard turn.1 in
    let later = all_grow turn.0 new xs turn.2 in
    let nothing_read = none_added old.reader.input.source.given (here.read ++ (later.read ++ more))
    (cc (
      append_assoc turn.0.reader.input.source.given later.read more,
      append_assoc old.reader.input.source.given here.read (later.read ++ more),
    )) in
    let none_here : here.read ≡ [] = none_before here.read (later.read ++ more) nothing_read in (
      unheard_one (stays_open old) old turn.0 x.ask x.heard refl turn.1 none_here,
      silent xs turn.0 new more turn.2 (cc (append-nil old.reader.input.source.given)),
    )

-- ---- both ends

-- a request that the worker read is the ask, and all of that was written
record IsAskRead (ask : Ask) (host message : List ℕ) (read : Ask) (style : Style) (old new : SinkState) : Type 0 where
  message_is : message ≡ ask_text ask host
  ask_is : read ≡ ask
  style_is : style ≡ written_style ask
  taken : new.taken ≡ old.taken ++ ask_text ask host

ask_read : (written : Result ⊤ WriteFault) (max : ℕ) (ask : Ask) (host message : List ℕ) (read : Ask) (style : Style)
    (old new : SinkState) (more later : List ℕ) → MayBeAsked max ask host → IsRequest max message read style
    → (w : Wrote old new (ask_text ask host) written) → (is_err written ≡ true → later ≡ [])
    → message ++ more ≡ (wrote_front written old new (ask_text ask host) w).0 ++ later
    → IsAskRead ask host message read style old new
unfolding wrote_front
ask_read (Ok u) max ask host message read style old new more later may is w ends e =
    let same = same_request is (asked_request may) e in
    record { message_is = same.message; ask_is = same.ask; style_is = same.style; taken = w.takes.told }
ask_read (Err fault) max ask host message read style old new more later may is w ends e =
    let front_is : message ++ more ≡ w.front = cc (ends refl, append-nil w.front) in
    let whole : message ++ (more ++ w.back) ≡ ask_text ask host ++ [] =
    cc (append_assoc message more w.back, w.cut, append-nil (ask_text ask host)) in
    let same = same_request is (asked_request may) whole in
    let none : more ≡ [] = none_before more w.back same.rest in
    record {
      message_is = same.message;
      ask_is = same.ask;
      style_is = same.style;
      taken = cc (w.takes.told, append-nil message);
    }

-- the style of a request decides how its reply is read
reply_heard_in : (y : WireExchange) (keep : Bool) (ask : Ask) → IsAudible y → y.style ≡ written_style ask
    → (g more replied : List ℕ) (new : InputState) (what : Heard) (goes_on : Bool)
    → TellsHeard (wants_head ask) g new what goes_on → g ++ more ≡ reply_of (y, keep) ++ replied
    → IsHeardAs y.answer what (new.held ++ more) replied
reply_heard_in y keep ask audible style_is g more replied new what goes_on t e =
    heard_as y.answer (wants_head ask) keep replied audible.values
    (subst (λ s. FitsMethod y.answer s.head) style_is audible.fits) audible.short g more new what goes_on t
    (e ∙ ap (λ s. reply y.answer (record { head = s.head; keep = keep }) ++ replied) style_is)

refusal_says : (answer : Answer) (what : Heard) (refuses : Bool) (code : Option (List ℕ)) → what ≡ said answer code
    → AnswerSays answer (if refuses then Some what else None)
refusal_says answer what true code is = inr (code, ap Some is)
refusal_says answer what false code is = inl refl

module _ (y : WireExchange) (keep : Bool) (ask : Ask) (audible : IsAudible y) (style_is : y.style ≡ written_style ask)
    (old new : WireState) (held : old.reader.input.held ≡ []) (later replied : List ℕ) where
  abbrev Whole : List ℕ → Type 0
  Whole given = given ++ later ≡ reply_of (y, keep) ++ replied

  one_reply : (reply_read : Result Heard HeardFault) (r : ReadsReply (wants_head ask) old.reader reply_read new.reader)
      → Whole r.read.given → AnswerSays y.answer (result_ok reply_read) × AnswerSays y.answer (refusal_in reply_read)
      × (is_err reply_read ≡ false → new.reader.input.held ++ later ≡ replied)
  one_reply (Ok what) r e =
      let text_is : old.reader.input.held ++ r.read.given ≡ r.read.given = ap (λ t. t ++ r.read.given) held in
      let told =
      subst (λ t. TellsHeard (wants_head ask) t new.reader.input what new.reader.keep) text_is r.read.found in
      let as_said =
      reply_heard_in y keep ask audible style_is r.read.given later replied new.reader.input what new.reader.keep
      told e in (
        inr (as_said.code, ap Some as_said.is),
        refusal_says y.answer what (is_refusal what.status) as_said.code as_said.is,
        λ whole. as_said.left,
      )
  one_reply (Err fault) r e = (inl refl, inl refl, λ whole. absurd (true≢false whole))

  reply_says : (written : Result ⊤ WriteFault) (body : Bool) (told : Option Heard)
      (h : HearsBehind (awaited written body) (wants_head ask) old told new)
      → Whole (read_front written body (wants_head ask) old new told h).0
      → AnswerSays y.answer told × (new.broken ≡ false → new.reader.input.held ++ later ≡ replied)
  unfolding read_front
  reply_says (Ok u) body told h e = search (rules, arith, one_reply)
  reply_says (Err fault) true told h e = grind (arith, one_reply h.0 h.1 e)
  reply_says (Err fault) false told h e = (inl h.0, λ whole. absurd (true≢false (sym h.2 ∙ whole)))

sound : (w : WireState) → stays_open w ≡ true → w.broken ≡ false
sound w is = not-true w.broken (and_parts (not w.broken) _ is).0

closed_by_fault : (w : WireState) → w.broken ≡ true → stays_open w ≡ false
closed_by_fault w broken = ap (λ b. not b && (w.reader.keep && (length w.reader.input.held == 0))) broken

err_breaks : (written : Result ⊤ WriteFault) (body head_only : Bool) (old new : WireState) (told : Option Heard)
    → HearsBehind (awaited written body) head_only old told new → is_err written ≡ true → new.broken ≡ true
err_breaks written body head_only old new told h = search (rules, arith, true≢false)

-- what the worker read from here on begins what the client wrote
next_text : (read : List ℕ) (x : TransportCall) (xs : List TransportCall) (old new : WireState)
    (turn : AsksInTurn old (x ∷ xs) new)
    (exchanged : Exchanges old x.ask x.heard turn.0) (message behind : List ℕ)
    → read ≡ old.writer.taken ++ (message ++ behind) → (there : IsPrefix read new.writer.taken)
    → message ++ (behind ++ there.0) ≡ (wrote_front exchanged.written old.writer turn.0.writer (ask_text x.ask old.host)
    exchanged.wrote).0 ++ (all_grow turn.0 new xs turn.2).written
next_text read x xs old new turn exchanged message behind read_is there =
    let later : Grows turn.0 new = all_grow turn.0 new xs turn.2 in
    let front = wrote_front exchanged.written old.writer turn.0.writer (ask_text x.ask old.host) exchanged.wrote in
    append_cancel_left old.writer.taken (message ++ (behind ++ there.0)) (front.0 ++ later.written)
    (cc (
      append_assoc message behind there.0,
      append_assoc old.writer.taken (message ++ behind) there.0,
      append_assoc old.writer.taken front.0 later.written,
      there.1,
      front.1,
    ))

-- behind a write that failed nothing more is written
next_ends : (x : TransportCall) (xs : List TransportCall) (old new : WireState) (turn : AsksInTurn old (x ∷ xs) new)
    (exchanged : Exchanges old x.ask x.heard turn.0) → is_err exchanged.written ≡ true
    → (all_grow turn.0 new xs turn.2).written ≡ []
next_ends x xs old new turn exchanged failed =
    search (rules, arith, all_grow, err_breaks, stays_closed, closed_by_fault, none_added)

-- `read` is what the worker's reads gave, and `tail` what it read behind these requests
module _ {A : Type 0} (seen : A → Received) (max : ℕ) (host read tail : List ℕ) where
  -- what the worker read that is left where the client wrote so far
  abbrev IsLeft : List A → WireState → Type 0
  IsLeft ys old = read ≡ old.writer.taken ++ (bytes_of seen ys ++ tail)

  none_left : (ys : List A) (old new : WireState) → AreRead seen max ys → new.writer ≡ old.writer → IsLeft ys old
      → IsPrefix read new.writer.taken → ys ≡ []
  none_left ys old new kept same is there = none_read seen max old.writer.taken ys tail there.0 kept (cc (there.1))

  -- one request was asked and read
  record OneRead (x : TransportCall) (y : A) (ys : List A) (old mid : WireState) : Type 0 where
    exchanged : Exchanges old x.ask x.heard mid
    read_as : IsAskRead x.ask old.host (seen y).message (seen y).ask (seen y).style old.writer mid.writer
    left : IsLeft ys mid

  one_read : (x : TransportCall) (xs : List TransportCall) (y : A) (ys : List A) (old new : WireState)
      (turn : AsksInTurn old (x ∷ xs) new) → stays_open old ≡ true → old.host ≡ host → MayBeAsked max x.ask host
      → AreRead seen max (y ∷ ys) → IsLeft (y ∷ ys) old → IsPrefix read new.writer.taken → OneRead x y ys old turn.0
  one_read x xs y ys old new turn opened host_is may kept is there =
      let mid : WireState = turn.0 in
      let exchanged : Exchanges old x.ask x.heard mid =
      subst (λ b. AsksWhere b old x.ask x.heard mid) opened turn.1 in
      let message : List ℕ = (seen y).message in
      let behind : List ℕ = bytes_of seen ys ++ tail in
      let here : read ≡ old.writer.taken ++ (message ++ behind) = cc (append_assoc message (bytes_of seen ys) tail) in
      let ask =
      ask_read exchanged.written max x.ask old.host message (seen y).ask (seen y).style old.writer mid.writer
      (behind ++ there.0) (all_grow mid new xs turn.2).written
      (subst (λ h. MayBeAsked max x.ask h) (sym host_is) may) kept.0 exchanged.wrote
      (next_ends x xs old new turn exchanged) (next_text read x xs old new turn exchanged message behind here there) in
      record {
        exchanged = exchanged;
        read_as = ask;
        left = cc (append_assoc old.writer.taken (ask_text x.ask old.host) behind);
      }

-- `written` is all that the worker replied; of the requests that it read, `us` were not answered
module _ (max : ℕ) (known : Ask → Type 0) (host rest read written : List ℕ) (us : List Received)
    (us_read : AreRead itself max us) (only : length us ≤ 1) where
  abbrev AreLeft : List Turn → WireState → Type 0
  AreLeft ts old = IsLeft received max host read (bytes_of itself us ++ rest) ts old

  abbrev asks_left : List Ask
  asks_left = map (λ (u : Received). u.ask) us

  -- behind the answered requests
  unanswered_joined : (vs : List Received) → us ≡ vs → (xs : List TransportCall) (old new : WireState)
      → AsksInTurn old xs new → old.host ≡ host → AllByRecursion (λ x. MayBeAsked max x.ask host) xs → AreLeft [] old
      → IsPrefix read new.writer.taken → AllByRecursion (λ x. x.heard ≡ None) xs
      → AreUnanswered xs (map (λ (u : Received). u.ask) vs)
  unanswered_joined [] is xs old new turn host_is may left there unheard = unheard
  unanswered_joined (u ∷ w ∷ vs) is xs old new turn host_is may left there unheard = search (rules, arith)
  unanswered_joined (u ∷ []) is [] old new turn host_is may left there unheard =
      absurd (cc (none_left itself max host read rest us old new us_read (ap (λ w. w.writer) turn) left there))
  unanswered_joined (u ∷ []) is (x ∷ xs) old new turn host_is may left there unheard =
      elim (stays_open old) as (λ b. stays_open old ≡ b → AreUnanswered (x ∷ xs) (u.ask ∷ [])) [
        | true ↦ λ opened.
            let one =
            one_read itself max host read rest x xs u [] old new turn opened host_is may.0
            (subst (AreRead itself max) is us_read) (subst (λ vs. IsLeft itself max host read rest vs old) is left)
            there in
            (one.read_as.ask_is, unheard.0, unheard.1)
        | false ↦ λ closed.
            absurd (cc (none_left itself max host read rest us old new us_read
            (stays_closed old new (x ∷ xs) closed turn).writer left there))
      ] refl

  joined : (xs : List TransportCall) (ts : List Turn) (old new : WireState) → AsksInTurn old xs new → old.host ≡ host
      → AllByRecursion (λ x. MayBeAsked max x.ask host) xs → AllByRecursion (λ x. known x.ask) xs
      → AreRead received max ts → AllByRecursion (λ (t : Turn). MayBeHeard known t.0) ts → AreLeft ts old
      → (stays_open old ≡ true → written ≡ old.reader.input.source.given ++ all_replies ts)
      → IsPrefix read new.writer.taken
      → IsPrefix new.reader.input.source.given written → AreJoined xs (map (λ (t : Turn). t.0) ts) asks_left
  joined [] ts old new turn host_is may knows kept audible read_is opened there back =
      let none =
      none_left received max host read (bytes_of itself us ++ rest) ts old new kept (ap (λ w. w.writer) turn) read_is
      there in
      subst (λ l. AreJoined [] (map (λ (t : Turn). t.0) l) asks_left) (sym none)
      (unanswered_joined us refl [] old new turn host_is may (subst (λ l. AreLeft l old) none read_is) there tt)
  joined (x ∷ xs) [] old new turn host_is may knows kept audible read_is opened there back =
      let unheard : AllByRecursion (λ x. x.heard ≡ None) (x ∷ xs) =
      elim (stays_open old) as (λ b. stays_open old ≡ b → AllByRecursion (λ x. x.heard ≡ None) (x ∷ xs)) [
        | true ↦ λ is.
            silent (x ∷ xs) old new back.0 turn
            (cc (append-nil old.reader.input.source.given, opened is, back.1))
        | false ↦ λ closed. (stays_closed old new (x ∷ xs) closed turn).unheard
      ] refl in
      unanswered_joined us refl (x ∷ xs) old new turn host_is may read_is there unheard
  joined (x ∷ xs) (y ∷ ys) old new turn host_is may knows kept audible read_is opened there back =
      elim (stays_open old)
      as (λ b. stays_open old ≡ b → AreJoined (x ∷ xs) (map (λ (t : Turn). t.0) (y ∷ ys)) asks_left) [
        | true ↦ λ is.
            let mid : WireState = turn.0 in
            let one =
            one_read received max host read (bytes_of itself us ++ rest) x xs y ys old new turn is host_is may.0 kept
            read_is there in
            let exchanged : Exchanges old x.ask x.heard mid = one.exchanged in
            let ask_is : y.0.ask ≡ x.ask = one.read_as.ask_is in
            let later : Grows mid new = all_grow mid new xs turn.2 in
            let behind : List ℕ = later.read ++ back.0 in
            let given =
            read_front exchanged.written (has_body x.ask) (wants_head x.ask) old mid x.heard exchanged.hears in
            let all : written ≡ mid.reader.input.source.given ++ behind =
            cc (append_assoc mid.reader.input.source.given later.read back.0, back.1) in
            let told =
            reply_says y.0 y.1 x.ask
            (audible.0 (subst known (sym ask_is) knows.0) (one.read_as.style_is ∙ ap written_style (sym ask_is)))
            one.read_as.style_is old mid (none_held old is) behind (all_replies ys) exchanged.written (has_body x.ask)
            x.heard exchanged.hears
            (append_cancel_left old.reader.input.source.given (given.0 ++ behind) (reply_of y ++ all_replies ys)
            (cc (append_assoc old.reader.input.source.given given.0 behind, given.1, opened is))) in (
              ask_is,
              told.0,
              joined xs ys mid new turn.2 (exchanged.same_host ∙ host_is) may.1 knows.1 kept.1 audible.1 one.left
                  (λ o. cc (ap (λ h. h ++ behind) (none_held mid o), told.1 (sound mid o))) there back,
            )
        | false ↦ λ closed.
            absurd (cc (none_left received max host read (bytes_of itself us ++ rest) (y ∷ ys) old new kept
            (stays_closed old new (x ∷ xs) closed turn).writer read_is there))
      ] refl

-- ---- what is left is never bad

no_empty_bad : (max : ℕ) (text : List ℕ) (why : Bad) → IsBad max text why → text ≡ [] → ⊥
no_empty_bad max text why (inl x) none =
    let all = ap length (sym none ∙ x.1.cut) in absurd (omega (arith, all, length-append {A = ℕ}))
no_empty_bad max text why (inr (inl x)) none =
    let all = ap length (sym none ∙ x.1.cut) in
    let full = x.1.full in absurd (omega (arith, all, full, length-append {A = ℕ}))
no_empty_bad max text why (inr (inr (inl x))) none = no_empty_head text x.head x.rest x.reads none
no_empty_bad max text why (inr (inr (inr x))) none = no_empty_head text x.head x.rest x.reads none

-- if it was asked, a prefix of what was written is completed to the ask
completed : (written : Result ⊤ WriteFault) (old new : SinkState) (whole rest there later : List ℕ)
    (w : Wrote old new whole written) → (is_err written ≡ true → later ≡ [])
    → rest ++ there ≡ (wrote_front written old new whole w).0 ++ later
    → (more : List ℕ) × (behind : List ℕ) × (rest ++ more ≡ whole ++ behind)
unfolding wrote_front
completed (Ok u) old new whole rest there later w ends e = (there, later, e)
completed (Err fault) old new whole rest there later w ends e = search (rules, arith, append_assoc, append-nil)

module _ (max : ℕ) (host rest read : List ℕ) where
  -- if no more was written nothing is left
  none_behind : (ts : List Turn) (old new : WireState) → AreRead received max ts → new.writer ≡ old.writer
      → IsLeft received max host read rest ts old → IsPrefix read new.writer.taken → rest ≡ []
  none_behind ts old new kept same is there = search (rules, arith, none_left, none_before, none_added, append_assoc)

  never_bad : (xs : List TransportCall) (ts : List Turn) (old new : WireState) → AsksInTurn old xs new → old.host ≡ host
      → AllByRecursion (λ x. MayBeAsked max x.ask host) xs → AreRead received max ts
      → IsLeft received max host read rest ts old → IsPrefix read new.writer.taken → (why : Bad)
      → IsBad max rest why → ⊥
  never_bad [] ts old new turn host_is may kept read_is there why is_bad =
      no_empty_bad max rest why is_bad (none_behind ts old new kept (ap (λ w. w.writer) turn) read_is there)
  never_bad (x ∷ xs) [] old new turn host_is may kept read_is there why is_bad =
      elim (stays_open old) as (λ b. stays_open old ≡ b → ⊥) [
        | true ↦ λ is.
            let exchanged : Exchanges old x.ask x.heard turn.0 =
            subst (λ b. AsksWhere b old x.ask x.heard turn.0) is turn.1 in
            let text =
            next_text read x xs old new turn exchanged rest [] (cc (append-nil rest)) there in
            let whole =
            completed exchanged.written old.writer turn.0.writer (ask_text x.ask old.host) rest there.0
            (all_grow turn.0 new xs turn.2).written exchanged.wrote
            (next_ends x xs old new turn exchanged) text in
            asked_not_bad max x.ask old.host rest whole.0 whole.1
            (subst (λ h. MayBeAsked max x.ask h) (sym host_is) may.0) whole.2 why is_bad
        | false ↦ λ closed. no_empty_bad max rest why is_bad
            (none_behind [] old new kept (stays_closed old new (x ∷ xs) closed turn).writer read_is there)
      ] refl
  never_bad (x ∷ xs) (y ∷ ys) old new turn host_is may kept read_is there why is_bad =
      elim (stays_open old) as (λ b. stays_open old ≡ b → ⊥) [
        | true ↦ λ is.
            let one = one_read received max host read rest x xs y ys old new turn is host_is may.0 kept read_is there in
            never_bad xs ys turn.0 new turn.2 (one.exchanged.same_host ∙ host_is) may.1 kept.1 one.left there why is_bad
        | false ↦ λ closed. no_empty_bad max rest why is_bad
            (none_behind (y ∷ ys) old new kept (stays_closed old new (x ∷ xs) closed turn).writer read_is there)
      ] refl

-- ---- a conversation

abbrev kept_turns : List WireExchange → List Turn
kept_turns xs = map (λ (x : WireExchange). (x, x.style.keep)) xs

kept_read : (xs : List WireExchange) → all_read (kept_turns xs) ≡ messages xs
kept_read [] = refl
kept_read (x ∷ xs) = ap (λ t. x.message ++ t) (kept_read xs)

kept_replies : (xs : List WireExchange) → all_replies (kept_turns xs) ≡ replies xs
kept_replies [] = refl
kept_replies (x ∷ xs) = ap (λ t. reply x.answer x.style ++ t) (kept_replies xs)

turns_answered : (xs : List WireExchange) (ts : List Turn)
    → map (λ (t : Turn). t.0) (kept_turns xs ++ ts) ≡ xs ++ map (λ (t : Turn). t.0) ts
turns_answered [] ts = refl
turns_answered (x ∷ xs) ts = ap (λ l. x ∷ l) (turns_answered xs ts)

turns_read : (max : ℕ) (xs : List WireExchange) (ts : List Turn) → AllByRecursion (IsKept max) xs
    → AreRead received max ts → AreRead received max (kept_turns xs ++ ts)
turns_read max [] ts kept read = read
turns_read max (x ∷ xs) ts kept read = (kept.0.0, turns_read max xs ts kept.1 read)

-- how a conversation ends: at most one more request was answered, and at most one wasn't; of the replies this was lost
record Ending (max : ℕ) (held : List ℕ) (sink after : SinkState) (ys : List WireExchange)
    (asks : List Ask) : Type 0 where
  ts : List Turn
  us : List Received
  rest : List ℕ
  lost : List ℕ
  ts_read : AreRead received max ts
  us_read : AreRead itself max us
  only : length us ≤ 1
  held_is : held ≡ all_read ts ++ (bytes_of itself us ++ rest)
  replied : after.taken ++ lost ≡ sink.taken ++ all_replies ts
  answers : map (λ (t : Turn). t.0) ts ≡ ys
  asks_are : map (λ (u : Received). u.ask) us ≡ asks

none_more : (max : ℕ) (held : List ℕ) (sink after : SinkState) (us : List Received) (rest : List ℕ)
    → AreRead itself max us → length us ≤ 1 → held ≡ bytes_of itself us ++ rest → after ≡ sink
    → Ending max held sink after [] (map (λ (u : Received). u.ask) us)
none_more max held sink after us rest read only held_is same = record {
  ts = [];
  us = us;
  rest = rest;
  lost = [];
  ts_read = tt;
  us_read = read;
  only = only;
  held_is = held_is;
  replied = ap (λ s. s.taken ++ []) same;
  answers = refl;
  asks_are = refl;
}

one_more : (max count : ℕ) (held : List ℕ) (sink after : SinkState) (x : WireExchange) (more lost : List ℕ) → held
    ≡ x.message ++ more → IsRead max x → after.taken ++ lost ≡ sink.taken ++ reply x.answer (last_style count x.style)
    → Ending max held sink after (x ∷ []) []
one_more max count held sink after x more lost held_is read replied = record {
  ts = (x, (last_style count x.style).keep) ∷ [];
  us = [];
  rest = more;
  lost = lost;
  ts_read = (read, tt);
  us_read = tt;
  only = omega arith;
  held_is = cc (append-nil x.message);
  replied = cc (append-nil (reply x.answer (last_style count x.style)));
  answers = refl;
  asks_are = refl;
}

ending : {D : Type 0} (step : Moves D) (max : ℕ) (s : conversation.Standing D) (new : ConnectionState D) (end : ConnEnd)
    (e : EndsWith step max s new end) → ((why : Bad) → IsBad max s.held why → ⊥)
    → Ending max s.held s.sink new.sink (answered_last step max s new end e) (unanswered_last step max s new end e)
ending step max s new Clean e none =
    none_more max s.held s.sink new.sink [] s.held tt (omega arith) refl e.2.unwritten
ending step max s new AfterClose e none =
    one_more max s.answered s.held s.sink new.sink e.0 e.1.more [] e.1.read e.1.request
    (append-nil new.sink.taken ∙ e.3.took.takes.told)
ending step max s new AfterBad e none = absurd (none e.0 e.1.bad)
ending step max s new TooMany e none =
    one_more max s.answered s.held s.sink new.sink e.0 e.1.more [] e.1.read e.1.request
    (append-nil new.sink.taken ∙ e.4.took.takes.told)
ending step max s new DeskGone e none =
    none_more max s.held s.sink new.sink
    (record { message = e.0.message; ask = e.0.ask; style = e.0.style } ∷ []) e.0.more (e.0.request, tt) (omega arith)
    (cc (e.0.read, append-nil e.0.message)) e.1
ending step max s new (Fault (Conn.Wire fault)) e none =
    none_more max s.held s.sink new.sink [] s.held tt (omega arith) refl e.1.unwritten
ending step max s new (Fault Conn.Write) (inl w) none =
    one_more max s.answered s.held s.sink new.sink w.0 w.1.more w.2.back w.1.read w.1.request
    (cc (w.2.takes.told, append_assoc s.sink.taken w.2.front w.2.back, w.2.cut))
ending step max s new (Fault Conn.Write) (inr w) none = absurd (none w.0 w.1.bad)

all_known : (xs : List TransportCall) → AllByRecursion (λ x. IsOneOf xs x.ask) xs
all_known [] = tt
all_known (x ∷ xs) = (inl refl, all_weaker (λ y known. inr known) xs (all_known xs))

pub connections_joined : {D : Type 0} (step : Moves D) → ConnectionsAreJoined step
connections_joined {D} step max old new end c xs can wire wire' is_new turn may carries =
    let all_kept : List Turn = kept_turns c.exchanges in
    let left_is : new.source.given ≡ wire.writer.taken ++ (all_read all_kept ++ c.rest) =
    rw (c.gives.told, can.given, is_new.taken, kept_read c.exchanges) c.served.read in
    let all_were_read : AreRead received max all_kept =
    subst (AreRead received max) (append-nil all_kept) (turns_read max c.exchanges [] c.served.kept tt) in
    let e = ending step max (stand (length c.exchanges) c.rest c.at c.mid) new end c.ended
    (never_bad max wire.host c.rest new.source.given xs all_kept wire wire' turn refl may all_were_read left_is
    carries.there) in
    let ts : List Turn = kept_turns c.exchanges ++ e.ts in
    let tail : List ℕ = bytes_of itself e.us ++ e.rest in
    let all_is : all_read ts ≡ messages c.exchanges ++ all_read e.ts =
    flat_map-append (λ (t : Turn). t.0.message) (kept_turns c.exchanges) e.ts
    ∙ ap (λ t. t ++ all_read e.ts) (kept_read c.exchanges) in
    let read_is : new.source.given ≡ wire.writer.taken ++ (all_read ts ++ tail) =
    c.gives.told ∙ ap (λ t. t ++ c.bytes) can.given ∙ cc (
      c.served.read,
      e.held_is,
      all_is,
      append_assoc (messages c.exchanges) (all_read e.ts) tail,
      ap (λ t. t ++ (all_read ts ++ tail)) is_new.taken,
    ) in
    let replies_are : all_replies ts ≡ replies c.exchanges ++ all_replies e.ts =
    flat_map-append reply_of (kept_turns c.exchanges) e.ts
    ∙ ap (λ t. t ++ all_replies e.ts) (kept_replies c.exchanges) in
    let written_is : new.sink.taken ++ e.lost ≡ wire.reader.input.source.given ++ all_replies ts =
    cc (
      e.replied,
      c.served.written.takes.told,
      ap (λ t. t ++ replies c.exchanges) can.taken,
      replies_are,
      ap (λ t. t ++ all_replies ts) is_new.given,
    ) in
    let back : IsPrefix wire'.reader.input.source.given (new.sink.taken ++ e.lost) = (
      carries.back.0 ++ e.lost,
      ap (λ t. t ++ e.lost) carries.back.1 ∙ append_assoc wire'.reader.input.source.given carries.back.0 e.lost,
    ) in
    let answers_are : map (λ (t : Turn). t.0) ts ≡ answered step max old new end c =
    turns_answered c.exchanges e.ts ∙ ap (λ l. c.exchanges ++ l) e.answers in
    let all =
    joined max (IsOneOf xs) wire.host e.rest new.source.given (new.sink.taken ++ e.lost) e.us e.us_read e.only xs ts
    wire wire' turn refl may (all_known xs)
    (turns_read max c.exchanges e.ts c.served.kept e.ts_read)
    (all_mapped (MayBeHeard (IsOneOf xs)) (λ (t : Turn). t.0) ts
    (subst (AllByRecursion (MayBeHeard (IsOneOf xs))) (sym answers_are) can.audible))
    read_is (λ o. written_is) carries.there back in
    subst (λ ys. AreJoined xs ys (unanswered step max old new end c)) answers_are
    (subst (AreJoined xs (map (λ (t : Turn). t.0) ts)) e.asks_are all)
