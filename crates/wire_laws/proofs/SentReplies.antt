-- A written reply is read in one way.
use Rattle.std.proofs.Common.{◌≡◌, ◌≢◌, ℕ, Bool, false, List, ◌++◌, length, refl, arith, ◌∙◌, sym, ap, subst}
use Rattle.std.proofs.Common.{Option, Ok, Err, inl, inr, nat_lt, rules}
use Rattle.std.specs.Prelude.{Result}
use Rattle.httparse.specs.Grammar.{ResponseHead, status_code}
use Rattle.http_wire.specs.Fields.{Fields, head_fields}
use Rattle.http_wire.specs.HeadText.{status_number}
use Rattle.http_wire.specs.Fronts.{IsRefused, responses}
use Rattle.http_wire.specs.ResponseBody.{response_framing_by_length, response_framing_of}
use Rattle.http_wire.specs.ResponseBody.{has_no_body, keeps_on}
use Rattle.http_wire.specs.States.{SourceState, input_state}
use Rattle.http_wire.specs.declared.responses.body.ResponseFraming.TheVariants.{Length, ToEnd}
use Rattle.http_wire.specs.declared.responses.body.FramingFault.TheVariants as Fault
use Rattle.http_wire.specs.declared.status.Status.{Status}
use Rattle.http_wire.specs.declared.status.Status.TheVariants as statuses
use Rattle.upload_client.specs.AnswerText.{FindsAnswer, HasOpenBody, IsHeard, HasFramingFault, IsPlaceOf, ReadsFramed}
use Rattle.upload_client.specs.AnswerText.{TellsHeard, code_of, location, max_answer, range, upto_of}
use Rattle.upload_client.specs.UnambiguousReplies.{ReplyParse, heard, refused, unreadable, too_large, cut}
use Rattle.upload_client.specs.UnambiguousReplies.{ParsesAsReply}
use Rattle.upload_client.specs.declared.heard.Heard.{Heard}
use Rattle.upload_client.specs.declared.heard.HeardFault.{HeardFault}
use Rattle.upload_client.specs.declared.heard.HeardFault.TheVariants as Reply
use Rattle.upload_client.proofs.UnambiguousReplies.{replies_unambiguous}
use Rattle.wire_laws.specs.WrittenReplies.{ReaderGives, IsReadOnlyAs}
use Rattle.wire_laws.proofs.ReplyFields.{SaysAll}
use Rattle.wire_laws.proofs.ReplyReadings.{Framed, IsReading, heard_gives, large_gives, no_open_body, no_reading}
use Rattle.wire_laws.proofs.ReplyReadings.{not_refused}
use Rattle.wire_laws.proofs.ReplyHeads.{code_is, few_lines, fields_are, head_of, head_read, head_text}

final : (status : Status) → nat_lt (status_number status) 200 ≡ false
final statuses.Ok = refl
final other = refl

-- a head that is written, and what its fields say
pub record Sent : Type 0 where
  pub status : Status
  pub fields : Fields
  pub lengths : List (List ℕ)
  pub place : Option (List ℕ)
  pub upto : Option ℕ
  pub keep : Bool
  pub says : SaysAll fields lengths place upto keep

abbrev head_sent : Sent → ResponseHead
head_sent sent = head_of sent.status sent.fields

-- its bytes, and those behind it
abbrev pub text_of : Sent → List ℕ → List ℕ
text_of sent behind = head_text sent.status sent.fields ++ behind

-- how far the body goes behind it
abbrev pub framing_behind : Bool → Sent → Framed
framing_behind head_only sent =
    response_framing_by_length max_answer (has_no_body head_only (status_number sent.status)) sent.lengths

abbrev framed_by : Bool → ℕ → Fields → Framed
framed_by head_only status fields = response_framing_of max_answer head_only status fields

framing_is : (head_only : Bool) (sent : Sent) (r : Framed) → framing_behind head_only sent ≡ r
    → framed_by head_only (status_code (head_sent sent)) (head_fields (head_sent sent).fields) ≡ r
framing_is head_only sent r e =
    cc (code_is sent.status sent.fields, fields_are sent.status sent.fields sent.says.written, final sent.status)

pub framed : (head_only : Bool) (sent : Sent) (r : Framed) (behind : List ℕ) → framing_behind head_only sent ≡ r
    → ReadsFramed head_only (text_of sent behind) r (head_sent sent) behind
framed head_only sent r behind e = search (rules, arith, head_read, framing_is)

-- this is heard of the head and the body
pub record IsSaidBy (sent : Sent) (body : List ℕ) (what : Heard) : Type 0 where
  pub status_is : what.status ≡ status_number sent.status
  pub place_is : what.place ≡ sent.place
  pub upto_is : what.upto ≡ sent.upto
  pub code : what.code ≡ code_of body

heard_in : (sent : Sent) (body : List ℕ) (what : Heard) → IsSaidBy sent body what
    → IsHeard (status_code (head_sent sent)) (head_fields (head_sent sent).fields) body what
heard_in sent body what h =
    let same : head_fields (head_sent sent).fields ≡ sent.fields =
    fields_are sent.status sent.fields sent.says.written in
    let place = subst (λ p. IsPlaceOf (location sent.fields) (Ok p)) (sym h.place_is) sent.says.place_is in
    record {
      status_is = h.status_is ∙ sym (code_is sent.status sent.fields);
      place_is = subst (λ f. IsPlaceOf (location f) (Ok what.place)) (sym same) place;
      upto_is = ap (λ f. upto_of (range f)) same ∙ sent.says.upto_is ∙ ap Ok (sym h.upto_is);
      code_is = h.code;
    }

-- a reply of which this is heard
tells : (head_only : Bool) (sent : Sent) (body rest : List ℕ) (new : SourceState) (what : Heard)
    → framing_behind head_only sent ≡ Ok (Length (length body)) → IsSaidBy sent body what
    → TellsHeard head_only (text_of sent (body ++ rest)) (input_state rest new) what sent.keep
tells head_only sent body rest new what e h =
    let size = Length (length body) in
    let same : head_fields (head_sent sent).fields ≡ sent.fields =
    fields_are sent.status sent.fields sent.says.written in
    record {
      head = head_sent sent;
      body = body;
      whole = record { framing = size; framed = framed head_only sent (Ok size) (body ++ rest) e; is_body = refl };
      says = heard_in sent body what h;
      keeps = sym (ap (λ f. keeps_on 1 f size) same ∙ sent.says.keeps);
    }

module _ (head_only : Bool) (sent : Sent) (behind : List ℕ) (new : SourceState) (r : Framed) (parse : ReplyParse)
    (framing : framing_behind head_only sent ≡ r) (ends_first : (most : ℕ) → r ≢ Ok (ToEnd most))
    (reading : IsReading parse) (reads : ParsesAsReply head_only (text_of sent behind) new parse) where
  -- what is read in one way is read in no other
  same : (other : ReplyParse) → other ≢ refused
      → ParsesAsReply head_only (text_of sent behind) new other → other ≡ parse
  same other whole x =
      replies_unambiguous.one head_only (text_of sent behind) new other parse x reads whole (not_refused parse reading)

  -- it isn't refused: its head has few lines
  lines : IsRefused responses (text_of sent behind) → ⊥
  lines x =
      let head = head_read sent.status sent.fields behind sent.says.written in
      let many = replies_unambiguous.refused_head (text_of sent behind) (head_sent sent) behind head x in
      omega (arith, many, few_lines sent.status sent.fields sent.says.written)

  alone : (other : ReplyParse) → ParsesAsReply head_only (text_of sent behind) new other → other ≡ parse
  alone (heard what goes_on left) x = same (heard what goes_on left) (λ e. absurd (cc e)) x
  alone refused x = absurd (lines x)
  alone unreadable x = same unreadable (λ e. absurd (cc e)) x
  alone too_large x = same too_large (λ e. absurd (cc e)) x
  alone cut x = same cut (λ e. absurd (cc e)) x

  not_refused_text : {A : Type 0} → ParsesAsReply head_only (text_of sent behind) new refused → A
  not_refused_text x =
      no_reading parse reading refused (λ e. absurd (cc e)) (λ w k l e. absurd (cc e)) (alone refused x)

  not_unreadable : {A : Type 0} → ParsesAsReply head_only (text_of sent behind) new unreadable → A
  not_unreadable x =
      no_reading parse reading unreadable (λ e. absurd (cc e)) (λ w k l e. absurd (cc e)) (alone unreadable x)

  not_cut : {A : Type 0} → ParsesAsReply head_only (text_of sent behind) new cut → A
  not_cut x = no_reading parse reading cut (λ e. absurd (cc e)) (λ w k l e. absurd (cc e)) (alone cut x)

  not_open : {A : Type 0} → HasOpenBody head_only (text_of sent behind) → A
  not_open x =
      let is = framed head_only sent r behind framing in
      absurd (no_open_body head_only (text_of sent behind) r (head_sent sent) behind is ends_first x)

  gives : (left : List ℕ) (given : Result Heard HeardFault) (keep : Bool)
      → FindsAnswer head_only (text_of sent behind) (input_state left new) given keep → given ≢ Err Reply.NoMemory
      → ReaderGives parse left given keep
  gives left (Ok what) keep x some = heard_gives parse reading what keep left (alone (heard what keep left) x)
  gives left (Err Reply.Unreadable) keep (inl x) some = not_refused_text x
  gives left (Err Reply.Unreadable) keep (inr (inl x)) some = not_unreadable (inl x)
  gives left (Err Reply.Unreadable) keep (inr (inr x)) some = not_unreadable (inr (left, x))
  gives left (Err Reply.TooLarge) keep x some = large_gives parse left keep (alone too_large x)
  gives left (Err Reply.Truncated) keep x some = not_cut x.1
  gives left (Err Reply.Read) keep (inl x) some = not_cut (inl x)
  gives left (Err Reply.Read) keep (inr (inl x)) some = not_cut (inr x)
  gives left (Err Reply.Read) keep (inr (inr x)) some = not_open x
  gives left (Err Reply.NoMemory) keep x some = absurd (some refl)
  gives left (Err Reply.Ended) keep x some = absurd x

  only : IsReadOnlyAs head_only (text_of sent behind) new parse
  only = record { reads = reads; alone = alone; gives = gives }

-- of a whole reply this is heard, and nothing else
pub heard_only : (head_only : Bool) (sent : Sent) (body rest : List ℕ) (new : SourceState) (what : Heard)
    → framing_behind head_only sent ≡ Ok (Length (length body)) → IsSaidBy sent body what
    → IsReadOnlyAs head_only (text_of sent (body ++ rest)) new (heard what sent.keep rest)
heard_only head_only sent body rest new what framing h =
    only head_only sent (body ++ rest) new (Ok (Length (length body))) (heard what sent.keep rest) framing
    (λ most e. absurd (cc e)) tt (tells head_only sent body rest new what framing h)

-- one whose length is over the limit is too large, and nothing else
pub large_only : (head_only : Bool) (sent : Sent) (behind : List ℕ) (new : SourceState)
    → framing_behind head_only sent ≡ Err Fault.TooLarge → IsReadOnlyAs head_only (text_of sent behind) new too_large
large_only head_only sent behind new framing =
    let is = framed head_only sent (Err Fault.TooLarge) behind framing in
    let fault : HasFramingFault head_only (text_of sent behind) Fault.TooLarge =
    record { head = head_sent sent; rest = behind; framed = is } in
    only head_only sent behind new (Err Fault.TooLarge) too_large framing (λ most e. absurd (cc e)) tt (inr (inl fault))
