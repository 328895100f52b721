-- A text begins with at most one reply.
use Rattle.std.proofs.Common.{◌≡◌, ◌≢◌, ℕ, ◌<◌, ◌≤◌, Bool, List, [], ◌++◌, length, refl, sym, ap, subst, subst₂, ◌∙◌}
use Rattle.std.proofs.Common.{arith, append-nil, length-append, inl, inr, rules}
use Rattle.std.specs.Prelude.{◌⊎◌, Option, Some, None, Result, Ok, Err}
use Rattle.httparse.specs.Grammar.{ResponseHead, status_code}
use Rattle.http_wire.specs.Fronts.{responses}
use Rattle.http_wire.specs.States.{SourceState, InputState, input_state}
use Rattle.http_wire.specs.Fields.{Fields, head_fields}
use Rattle.http_wire.specs.Unambiguous.{HeadParse, head, long, unfinished, BeginsWith}
use Rattle.http_wire.proofs.Bodies.ChunkLemmas.{same_front}
use Rattle.http_wire.proofs.UnambiguousHeads.{responses_unambiguous}
use Rattle.http_wire.specs.ResponseBody.{IsBody, response_framing_of, keeps_on}
use Rattle.upload_client.specs.AnswerText.{max_answer, IsPlaceOf, location, IsHeard, IsMisplaced, IsWhole}
use Rattle.upload_client.specs.AnswerText.{HasFramingFault}
use Rattle.upload_client.specs.UnambiguousReplies.{ReplyParse, heard, refused, unreadable, too_large, cut}
use Rattle.upload_client.specs.UnambiguousReplies.{ParsesAsReply}
use Rattle.upload_client.specs.UnambiguousReplies.{RepliesAreUnambiguous}
use Rattle.http_wire.specs.declared.responses.body.ResponseFraming.{ResponseFraming}
use Rattle.http_wire.specs.declared.responses.body.ResponseFraming.TheVariants.{Length, ToEnd}
use Rattle.upload_client.specs.declared.heard.Heard.{Heard}
use Rattle.http_wire.specs.declared.responses.body.FramingFault.{FramingFault}
use Rattle.http_wire.specs.declared.responses.body.FramingFault.TheVariants as Fault
use Rattle.upload_client.specs.declared.heard.SaidFault.TheVariants as Said
use Rattle.upload_texts.proofs.UriTexts.{path_unique}

-- ---- what is heard

place_unique : (value a b : Option (List ℕ)) → IsPlaceOf value (Ok a) → IsPlaceOf value (Ok b) → a ≡ b
place_unique None a b x y = cc
place_unique (Some value) a b x y = x.2 ∙ ap Some (path_unique value x.0 y.0 x.1 y.1) ∙ sym y.2

place_not_bad : (value a : Option (List ℕ)) → IsPlaceOf value (Ok a) → IsPlaceOf value (Err Said.Unreadable) → ⊥
place_not_bad None a x y = absurd (cc)
place_not_bad (Some value) a x y = y.1 _ _ _ x.1

heard_unique : (status : ℕ) (fields : Fields) (body : List ℕ) (a b : Heard) → IsHeard status fields body a
    → IsHeard status fields body b → a ≡ b
heard_unique status fields body a b x y =
    let statuses : a.status ≡ b.status = x.status_is ∙ sym y.status_is in
    let places : a.place ≡ b.place = place_unique (location fields) a.place b.place x.place_is y.place_is in
    let one = x.upto_is in
    let two = y.upto_is in
    let uptos : a.upto ≡ b.upto = cc in
    let codes : a.code ≡ b.code = x.code_is ∙ sym y.code_is in
    λ i. record { status = statuses i; place = places i; upto = uptos i; code = codes i }

heard_not_misplaced : (status : ℕ) (fields : Fields) (body : List ℕ) (a : Heard) → IsHeard status fields body a
    → IsMisplaced fields → ⊥
heard_not_misplaced status fields body a x (inl place) = place_not_bad (location fields) a.place x.place_is place
heard_not_misplaced status fields body a x (inr upto) = let one = x.upto_is in absurd (cc)

-- what a whole reply with this body, and then rest, makes of the text
abbrev Says : ResponseHead → ResponseFraming → List ℕ → List ℕ → ReplyParse → Type 0
Says h framing body rest p =
    ((a : Heard) × IsHeard (status_code h) (head_fields h.fields) body a
    × (p ≡ heard a (keeps_on h.minor (head_fields h.fields) framing) rest))
    ⊎ (IsMisplaced (head_fields h.fields) × (p ≡ unreadable))

says_one : (h : ResponseHead) (framing : ResponseFraming) (body rest : List ℕ) (p q : ReplyParse)
    → Says h framing body rest p → Says h framing body rest q → p ≡ q
says_one h framing body rest p q (inl x) (inl y) =
    cc (heard_unique (status_code h) (head_fields h.fields) body x.0 y.0 x.1 y.1)
says_one h framing body rest p q (inl x) (inr y) = search (rules, arith, heard_not_misplaced)
says_one h framing body rest p q (inr x) (inl y) = search (rules, arith, heard_not_misplaced)
says_one h framing body rest p q (inr x) (inr y) = x.1 ∙ sym y.1

-- ---- what stands behind a head

-- what a body of a known length makes of the text
abbrev FromSized : ℕ → ResponseHead → List ℕ → ReplyParse → Type 0
FromSized n h behind p =
    ((length behind < n) × (p ≡ cut))
    ⊎ ((body : List ℕ) × (rest : List ℕ) × (behind ≡ body ++ rest) × (length body ≡ n) × Says h (Length n) body rest p)

-- what one that goes to the end of the input makes of it
abbrev FromEnd : ℕ → ResponseHead → List ℕ → ReplyParse → Type 0
FromEnd most h behind p =
    ((most < length behind) × (p ≡ too_large)) ⊎ ((length behind ≤ most) × Says h (ToEnd most) behind [] p)

abbrev FromFraming : ResponseHead → Result ResponseFraming FramingFault → List ℕ → ReplyParse → Type 0
FromFraming h (Ok (Length n)) behind p = FromSized n h behind p
FromFraming h (Ok (ToEnd most)) behind p = FromEnd most h behind p
FromFraming h (Err fault) behind p =
    ((fault ≡ Fault.Unreadable) × (p ≡ unreadable)) ⊎ ((fault ≡ Fault.TooLarge) × (p ≡ too_large))

abbrev FromHead : Bool → HeadParse responses → ReplyParse → Type 0
FromHead head_only (head h behind) p =
    FromFraming h (response_framing_of max_answer head_only (status_code h) (head_fields h.fields)) behind p
FromHead head_only long p = p ≡ too_large
FromHead head_only unfinished p = p ≡ cut

from_sized : (n : ℕ) (h : ResponseHead) (behind : List ℕ) (p q : ReplyParse) → FromSized n h behind p
    → FromSized n h behind q → p ≡ q
from_sized n h behind p q (inl x) (inl y) = x.1 ∙ sym y.1
from_sized n h behind p q (inl x) (inr y) = search (rules, arith, length-append)
from_sized n h behind p q (inr x) (inl y) = search (rules, arith, length-append)
from_sized n h behind p q (inr x) (inr y) =
    let same = same_front x.0 y.0 x.1 y.1 (x.3 ∙ sym y.3) (sym x.2 ∙ y.2) in
    says_one h (Length n) y.0 y.1 p q (subst₂ (λ body rest. Says h (Length n) body rest p) same.0 same.1 x.4) y.4

from_end : (most : ℕ) (h : ResponseHead) (behind : List ℕ) (p q : ReplyParse) → FromEnd most h behind p
    → FromEnd most h behind q → p ≡ q
from_end most h behind p q (inl x) (inl y) = x.1 ∙ sym y.1
from_end most h behind p q (inl x) (inr y) = let over = x.0 in let under = y.0 in absurd (omega (arith, over, under))
from_end most h behind p q (inr x) (inl y) = let over = y.0 in let under = x.0 in absurd (omega (arith, over, under))
from_end most h behind p q (inr x) (inr y) = says_one h (ToEnd most) behind [] p q x.1 y.1

from_fault : (fault : FramingFault) (p q : ReplyParse)
    → ((fault ≡ Fault.Unreadable) × (p ≡ unreadable)) ⊎ ((fault ≡ Fault.TooLarge) × (p ≡ too_large))
    → ((fault ≡ Fault.Unreadable) × (q ≡ unreadable)) ⊎ ((fault ≡ Fault.TooLarge) × (q ≡ too_large)) → p ≡ q
from_fault fault p q h h1 = search (rules, arith)

from_framing : (h : ResponseHead) (framing : Result ResponseFraming FramingFault) (behind : List ℕ) (p q : ReplyParse)
    → FromFraming h framing behind p → FromFraming h framing behind q → p ≡ q
from_framing h (Ok (Length n)) behind p q x y = from_sized n h behind p q x y
from_framing h (Ok (ToEnd most)) behind p q x y = from_end most h behind p q x y
from_framing h (Err fault) behind p q x y = from_fault fault p q x y

from_head : (head_only : Bool) (front : HeadParse responses) (p q : ReplyParse) → FromHead head_only front p
    → FromHead head_only front q → p ≡ q
from_head head_only front p q x y = search (rules, arith, from_framing)

-- ---- the whole

-- a parse, by the head that the text begins with
record Parsed (head_only : Bool) (text : List ℕ) (p : ReplyParse) : Type 0 where
  front : HeadParse responses
  begins : BeginsWith responses text front
  from : FromHead head_only front p

from_body : (h : ResponseHead) (framing : ResponseFraming) (body : List ℕ) (new : InputState) (p : ReplyParse)
    → IsBody framing body new → Says h framing body new.held p → FromFraming h (Ok framing) (body ++ new.held) p
from_body h (Length n) body new p is says = inr (body, new.held, refl, is, says)
from_body h (ToEnd most) body new p is says = search (rules, arith, append-nil)

parsed_whole : (head_only : Bool) (text : List ℕ) (new : InputState) (h : ResponseHead) (body : List ℕ)
    (p : ReplyParse)
    (w : IsWhole head_only text new h body) → Says h w.framing body new.held p → Parsed head_only text p
parsed_whole head_only text new h body p w says = record {
  front = head h (body ++ new.held);
  begins = w.framed.reads;
  from =
      subst (λ r. FromFraming h r (body ++ new.held) p) (sym w.framed.framed)
      (from_body h w.framing body new p w.is_body says);
}

parsed_fault : (head_only : Bool) (text : List ℕ) (fault : FramingFault) (p : ReplyParse)
    → HasFramingFault head_only text fault
    → ((fault ≡ Fault.Unreadable) × (p ≡ unreadable)) ⊎ ((fault ≡ Fault.TooLarge) × (p ≡ too_large))
    → Parsed head_only text p
parsed_fault head_only text fault p x why = record {
  front = head x.head x.rest;
  begins = x.framed.reads;
  from = subst (λ r. FromFraming x.head r x.rest p) (sym x.framed.framed) why;
}

parsed : (head_only : Bool) (text : List ℕ) (new : SourceState) (p : ReplyParse) → ParsesAsReply head_only text new p
    → p ≢ refused → Parsed head_only text p
parsed head_only text new (heard what keep rest) x other =
    parsed_whole head_only text (input_state rest new) x.head x.body (heard what keep rest) x.whole
    (inl (what, x.says, ap (λ k. heard what k rest) x.keeps))
parsed head_only text new refused x other = absurd (other refl)
parsed head_only text new unreadable (inl x) other =
    parsed_fault head_only text Fault.Unreadable unreadable x (inl (refl, refl))
parsed head_only text new unreadable (inr x) other =
    parsed_whole head_only text (input_state x.0 new) x.1.head x.1.body unreadable x.1.whole (inr (x.1.misplaced, refl))
parsed head_only text new too_large (inl x) other = record { front = long; begins = x; from = refl }
parsed head_only text new too_large (inr (inl x)) other =
    parsed_fault head_only text Fault.TooLarge too_large x (inr (refl, refl))
parsed head_only text new too_large (inr (inr x)) other = record {
  front = head x.head x.rest;
  begins = x.framed.reads;
  from = subst (λ r. FromFraming x.head r x.rest too_large) (sym x.framed.framed) (inl (x.long, refl));
}
parsed head_only text new cut (inl x) other = record { front = unfinished; begins = x; from = refl }
parsed head_only text new cut (inr x) other = record {
  front = head x.head x.rest;
  begins = x.framed.reads;
  from = subst (λ r. FromFraming x.head r x.rest cut) (sym x.framed.framed) (inl (x.cut, refl));
}

one_reply : (head_only : Bool) (text : List ℕ) (new : SourceState) (p q : ReplyParse)
    → ParsesAsReply head_only text new p → ParsesAsReply head_only text new q → p ≢ refused → q ≢ refused → p ≡ q
one_reply head_only text new p q x y other another =
    let a = parsed head_only text new p x other in
    let b = parsed head_only text new q y another in
    let same = responses_unambiguous.one text a.front b.front a.begins b.begins in
    from_head head_only b.front p q (subst (λ front. FromHead head_only front p) same a.from) b.from

pub replies_unambiguous : RepliesAreUnambiguous
replies_unambiguous = record { one = one_reply; refused_head = responses_unambiguous.refused }
