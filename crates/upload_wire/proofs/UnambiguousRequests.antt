-- A text begins with at most one request.
use Rattle.std.proofs.Common.{◌≡◌, ◌≢◌, ℕ, ◌<◌, Bool, true, false, List, [], ◌++◌, length, refl, sym, ap, ◌∙◌}
use Rattle.std.proofs.Common.{subst, arith, inl, inr, rules}
use Rattle.std.specs.Prelude.{◌⊎◌, Result, Ok, Err, if◌then◌else◌}
use Rattle.std.proofs.lemmas.List.{append_cancel_right}
use Rattle.httparse.specs.Grammar.{RequestHead}
use Rattle.upload_service.specs.declared.ask.Ask.{Ask}
use Rattle.http_wire.specs.Fronts as front
use Rattle.http_wire.specs.Fronts.{IsRefused, ReadsHead, requests}
use Rattle.http_wire.specs.Body.{sized, framing_by, head_framing, IsBadBody}
use Rattle.http_wire.specs.Unambiguous.{HeadParse, head, long, unfinished, BeginsWith, BodyParse, whole, refused}
use Rattle.http_wire.specs.Unambiguous.{IsReadAs, cut as cut_body}
use Rattle.http_wire.specs.declared.body.Framing.{Framing}
use Rattle.http_wire.specs.declared.body.Framing.TheVariants.{Chunked}
use Rattle.http_wire.specs.declared.fault.Bad.{Bad}
use Rattle.http_wire.specs.declared.fault.Bad.TheVariants as bads
use Rattle.http_wire.proofs.Heads.HeadLemmas.{none_at_start}
use Rattle.http_wire.proofs.Heads.ReadLemmas.{ReadsHead-more}
use Rattle.http_wire.proofs.Heads.HeadLaws.{request_ends}
use Rattle.http_wire.proofs.UnambiguousHeads.{requests_unambiguous}
use Rattle.http_wire.proofs.UnambiguousBodies.{bodies_unambiguous}
use Rattle.upload_wire.specs.Target.{AsksWhole}
use Rattle.upload_wire.specs.RequestText.{style_of, IsBad, IsRequest, IsTruncated, ReadsOne}
use Rattle.upload_wire.specs.Unambiguous.{RequestParse, request, bad, cut, nothing, ParsesAsRequest}
use Rattle.upload_wire.specs.Unambiguous.{RequestsAreUnambiguous}
use Rattle.upload_wire.specs.declared.request.Style.{Style}
use Rattle.upload_wire.proofs.UnambiguousTargets.{asks_whole_unique}

-- ---- the refusal of a head

-- a length is never bad as a head
length_no_head : (number over : Bool) (n : ℕ)
    → sized (if number then (if over then Err bads.TooLarge else Ok n) else Err bads.Length) ≡ Err bads.Head → ⊥
length_no_head number over n e = search (rules, arith)

coding_no_head : (max : ℕ) (known : Bool)
    → ◌≡◌ {A = Result Framing Bad} (if known then Ok (Chunked max) else Err bads.Coding) (Err bads.Head) → ⊥
coding_no_head max true e = absurd (cc)
coding_no_head max false e = absurd (cc)

-- nor is a framing
framing_no_head : (max minor : ℕ) (codings lengths : List (List ℕ))
    → framing_by max minor codings lengths ≡ Err bads.Head → ⊥
framing_no_head max minor codings lengths e = search (rules, arith, length_no_head, coding_no_head)

body_no_head : (framing : Framing) (text : List ℕ) → IsBadBody framing text bads.Head → ⊥
body_no_head framing text x = search (rules, arith)

refused_head : (max : ℕ) (text : List ℕ) → IsBad max text bads.Head → IsRefused requests text
refused_head max text h = search (rules, arith, framing_no_head, body_no_head)

-- ---- what stands behind a head

-- what the body behind a head makes of the text
abbrev FromBody : RequestHead → BodyParse → RequestParse → Type 0
FromBody h (whole body rest) p = (ask : Ask) × AsksWhole h body ask × (p ≡ request ask (style_of h) rest)
FromBody h (refused why) p = p ≡ bad why
FromBody h cut_body p = p ≡ cut

-- what its framing makes of it
abbrev FromFraming : RequestHead → Result Framing Bad → List ℕ → RequestParse → Type 0
FromFraming h (Ok framing) rest p = (body : BodyParse) × IsReadAs framing rest body × FromBody h body p
FromFraming h (Err why) rest p = p ≡ bad why

-- what the head makes of it
abbrev FromHead : ℕ → List ℕ → HeadParse requests → RequestParse → Type 0
FromHead max text (head h rest) p = FromFraming h (head_framing max h) rest p
FromHead max text long p = p ≡ bad bads.LongHead
FromHead max text unfinished p = ((p ≡ cut) × (0 < length text)) ⊎ ((p ≡ nothing) × (text ≡ []))

from_body : (h : RequestHead) (body : BodyParse) (p q : RequestParse) → FromBody h body p → FromBody h body q → p ≡ q
from_body h (whole body rest) p q x y = cc (asks_whole_unique h body x.0 y.0 x.1 y.1)
from_body h (refused why) p q x y = x ∙ sym y
from_body h cut_body p q x y = x ∙ sym y

from_framing : (h : RequestHead) (framing : Result Framing Bad) (rest : List ℕ) (p q : RequestParse)
    → FromFraming h framing rest p → FromFraming h framing rest q → p ≡ q
from_framing h (Ok framing) rest p q x y = search (rules, arith, bodies_unambiguous, from_body)
from_framing h (Err why) rest p q x y = x ∙ sym y

from_head : (max : ℕ) (text : List ℕ) (front : HeadParse requests) (p q : RequestParse)
    → FromHead max text front p → FromHead max text front q → p ≡ q
from_head max text (head h rest) p q x y = from_framing h (head_framing max h) rest p q x y
from_head max text long p q x y = x ∙ sym y
from_head max text unfinished p q (inl x) (inl y) = x.0 ∙ sym y.0
from_head max text unfinished p q (inl x) (inr y) = search (rules, arith)
from_head max text unfinished p q (inr x) (inl y) = search (rules, arith)
from_head max text unfinished p q (inr x) (inr y) = x.0 ∙ sym y.0

-- ---- the whole

-- a parse, by the head that the text begins with
record Parsed (max : ℕ) (text : List ℕ) (p : RequestParse) : Type 0 where
  front : HeadParse requests
  begins : BeginsWith requests text front
  from : FromHead max text front p

-- the head of a request begins the text
pub request_head : (max : ℕ) (text rest : List ℕ) (ask : Ask) (style : Style) (x : ReadsOne max text rest ask style)
    → ReadsHead requests text x.request.head (x.request.rest ++ rest)
request_head max text rest ask style x = ReadsHead-more rest x.cut x.request.reads

behind : (max : ℕ) (h : RequestHead) (framing : Framing) (rest : List ℕ) (body : BodyParse) (p : RequestParse)
    → head_framing max h ≡ Ok framing → IsReadAs framing rest body → FromBody h body p
    → FromFraming h (head_framing max h) rest p
behind max h framing rest body p framed x from = subst (λ r. FromFraming h r rest p) (sym framed) (body, x, from)

parsed_bad : (max : ℕ) (text : List ℕ) (why : Bad) → IsBad max text why → bad why ≢ bad bads.Head
    → Parsed max text (bad why)
parsed_bad max text why (inl x) other = absurd (other (ap bad x.0))
parsed_bad max text why (inr (inl x)) other = record { front = long; begins = x.1; from = ap bad x.0 }
parsed_bad max text why (inr (inr (inl x))) other = record {
  front = head x.head x.rest;
  begins = x.reads;
  from = subst (λ r. FromFraming x.head r x.rest (bad why)) (sym x.refused) refl;
}
parsed_bad max text why (inr (inr (inr x))) other = record {
  front = head x.head x.rest;
  begins = x.reads;
  from = behind max x.head x.framing x.rest (refused why) (bad why) x.framed x.refused refl;
}

parsed_cut : (max : ℕ) (text : List ℕ) → IsTruncated max text → Parsed max text cut
parsed_cut max text (inl x) = record { front = unfinished; begins = x.1; from = inl (refl, x.0) }
parsed_cut max text (inr x) = record {
  front = head x.head x.rest;
  begins = x.reads;
  from = behind max x.head x.framing x.rest cut_body cut x.framed x.short refl;
}

nothing_begins : front.IsUnfinished requests []
nothing_begins = record { short = omega arith; none = none_at_start requests request_ends }

parsed : (max : ℕ) (text : List ℕ) (p : RequestParse) → ParsesAsRequest max text p → p ≢ bad bads.Head
    → Parsed max text p
parsed max text (request ask style rest) x other =
    let h = x.request.head in
    let r = x.request in
    record {
      front = head h (r.rest ++ rest);
      begins = request_head max text rest ask style x;
      from = behind max h r.framing (r.rest ++ rest) (whole r.body rest) (request ask style rest) r.framed
          (record { message = r.rest; split = refl; written = r.written })
          (ask, r.asks, ap (λ s. request ask s rest) r.styled);
    }
parsed max text (bad why) x other = parsed_bad max text why x other
parsed max text cut x other = parsed_cut max text x
parsed max text nothing x other = search (rules, arith, nothing_begins)

one_request : (max : ℕ) (text : List ℕ) (p q : RequestParse) → ParsesAsRequest max text p → ParsesAsRequest max text q
    → p ≢ bad bads.Head → q ≢ bad bads.Head → p ≡ q
one_request max text p q x y other another =
    let a = parsed max text p x other in
    let b = parsed max text q y another in
    let same = requests_unambiguous.one text a.front b.front a.begins b.begins in
    from_head max text b.front p q (subst (λ front. FromHead max text front p) same a.from) b.from

pub requests_are_unambiguous : RequestsAreUnambiguous
requests_are_unambiguous = record {
  one = one_request;
  refused = λ max text h rest x y. requests_unambiguous.refused text h rest x (refused_head max text y);
}

-- two requests that begin one text
pub record SameRequest (a b : Ask) (s t : Style) (m n r q : List ℕ) : Type 0 where
  pub message : m ≡ n
  pub ask : a ≡ b
  pub style : s ≡ t
  pub rest : r ≡ q

pub same_request : {max : ℕ} {a b : Ask} {s t : Style} {m n r q : List ℕ} → IsRequest max m a s
    → IsRequest max n b t → m ++ r ≡ n ++ q → SameRequest a b s t m n r q
same_request {max} {a} {b} {s} {t} {m} {n} {r} {q} x y e =
    let same = one_request max (m ++ r) (request a s r) (request b t q)
    (record { message = m; cut = refl; request = x }) (record { message = n; cut = e; request = y })
    (λ same. absurd (cc same)) (λ same. absurd (cc same)) in
    let rests : r ≡ q = cc in
    record { message = append_cancel_right m n q (cc); ask = cc; style = cc; rest = rests }
