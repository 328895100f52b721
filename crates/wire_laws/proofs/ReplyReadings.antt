-- What a reader of replies gives if a text is read in one way.
use Rattle.std.proofs.Common.{◌≡◌, ◌≢◌, ℕ, Bool, List, ◌∙◌, sym, subst, Ok, Err, arith, rules}
use Rattle.std.specs.Prelude.{Result, ⊤}
use Rattle.httparse.specs.Grammar.{ResponseHead, status_code}
use Rattle.http_wire.specs.ResponseBody.{response_framing_of}
use Rattle.http_wire.specs.Fields.{head_fields}
use Rattle.http_wire.specs.Fronts.{responses}
use Rattle.http_wire.specs.Unambiguous.{HeadParse, head, long, unfinished}
use Rattle.http_wire.specs.declared.responses.body.ResponseFraming.{ResponseFraming}
use Rattle.http_wire.specs.declared.responses.body.ResponseFraming.TheVariants.{ToEnd}
use Rattle.http_wire.specs.declared.responses.body.FramingFault.{FramingFault}
use Rattle.http_wire.proofs.UnambiguousHeads.{responses_unambiguous}
use Rattle.upload_client.specs.AnswerText.{HasOpenBody, ReadsFramed, max_answer}
use Rattle.upload_client.specs.UnambiguousReplies.{ReplyParse, heard, refused, unreadable, too_large, cut}
use Rattle.upload_client.specs.declared.heard.Heard.{Heard}
use Rattle.upload_client.specs.declared.heard.HeardFault.TheVariants as Reply
use Rattle.wire_laws.specs.WrittenReplies.{ReaderGives}

abbrev pub Framed : Type 0
Framed = Result ResponseFraming FramingFault

-- a whole reply, or one that is too large
abbrev pub IsReading : ReplyParse → Type 0
IsReading (heard what goes_on rest) = ⊤
IsReading refused = ⊥
IsReading unreadable = ⊥
IsReading too_large = ⊤
IsReading cut = ⊥

pub not_refused : (parse : ReplyParse) → IsReading parse → parse ≢ refused
not_refused parse = search (rules, arith)

-- no other parse is one
pub no_reading : {A : Type 0} (parse : ReplyParse) → IsReading parse → (other : ReplyParse) → other ≢ too_large
    → ((what : Heard) (goes_on : Bool) (rest : List ℕ) → other ≢ heard what goes_on rest) → other ≡ parse → A
no_reading parse h other large whole = search (rules, arith)

pub heard_gives : (parse : ReplyParse) → IsReading parse → (what : Heard) (keep : Bool) (left : List ℕ)
    → heard what keep left ≡ parse → ReaderGives parse left (Ok what) keep
heard_gives parse h what keep left = search (rules, arith)

pub large_gives : (parse : ReplyParse) (left : List ℕ) (keep : Bool) → too_large ≡ parse
    → ReaderGives parse left (Err Reply.TooLarge) keep
large_gives parse left keep = search (rules, arith)

-- how far the body goes behind what the text begins with
abbrev FramedAs : Bool → Framed → HeadParse responses → Type 0
FramedAs head_only r (head h behind) =
    response_framing_of max_answer head_only (status_code h) (head_fields h.fields) ≡ r
FramedAs head_only r long = ⊤
FramedAs head_only r unfinished = ⊤

-- a body that goes to the end of the input stands behind no head of another framing
pub no_open_body : (head_only : Bool) (text : List ℕ) (r : Framed) (h : ResponseHead) (behind : List ℕ)
    → ReadsFramed head_only text r h behind
    → ((most : ℕ) → r ≢ Ok (ToEnd most)) → HasOpenBody head_only text → ⊥
no_open_body head_only text r h behind is ends_first x =
    let same = responses_unambiguous.one text (head x.head x.rest) (head h behind) x.framed.reads is.reads in
    let to_end = subst (FramedAs head_only (Ok (ToEnd x.most))) same x.framed.framed in
    ends_first x.most (sym is.framed ∙ to_end)
