-- No text that an ask begins with is refused as bad.
use Rattle.std.proofs.lemmas.Grind.{common_steps}
use Rattle.std.proofs.Common.{◌≡◌, ℕ, ◌+◌, ◌≤◌, List, ◌∷◌, ◌++◌, refl, sym, ap, subst, ◌∙◌, arith, append_assoc}
use Rattle.std.proofs.Common.{inl, inr, Ok, Err, rules}
use Rattle.httparse.specs.Grammar.{RequestHead, print_request}
use Rattle.upload_service.specs.declared.ask.Ask.{Ask}
use Rattle.http_wire.specs.Body.{head_framing, IsBadBody, IsBodyText}
use Rattle.http_wire.specs.Fronts.{line_feeds, max_fields, ReadsHead, requests}
use Rattle.http_wire.specs.Unambiguous.{HeadParse, head, long, whole, refused}
use Rattle.http_wire.specs.declared.fault.Bad.{Bad}
use Rattle.http_wire.specs.declared.fault.Bad.TheVariants as bads
use Rattle.http_wire.specs.declared.body.Framing.{Framing}
use Rattle.http_wire.specs.declared.body.Framing.TheVariants.{Length, Chunked}
use Rattle.http_wire.proofs.Heads.ReadLemmas.{ReadsHead-more}
use Rattle.http_wire.proofs.UnambiguousBodies.{bodies_unambiguous}
use Rattle.http_wire.proofs.UnambiguousHeads.{requests_unambiguous}
use Rattle.upload_wire.specs.RequestText.{IsBad, IsRequest}
use Rattle.upload_wire.specs.declared.request.Style.{Style}
use Rattle.upload_wire.proofs.UnambiguousRequests.{requests_are_unambiguous}
use Rattle.upload_client.specs.AskText.{ask_text}
use Rattle.wire_laws.specs.WrittenAsks.{written_style}
use Rattle.wire_laws.specs.WrittenExchanges.{MayBeAsked}
use Rattle.wire_laws.proofs.WrittenRequests.{asked_request, heads_written}

-- ---- what is bad stays bad, whatever follows

body_longer : (framing : Framing) (text more : List ℕ) (why : Bad) → IsBadBody framing text why
    → IsBadBody framing (text ++ more) why
body_longer (Length n) text more why is = absurd is
body_longer (Chunked most) text more why (inl over) = search (rules, arith, append_assoc)
body_longer (Chunked most) text more why (inr broken) = inr (
  broken.0,
  record {
    before = broken.1.before;
    byte = broken.1.byte;
    rest = broken.1.rest ++ more;
    cut = ap (λ t. t ++ more) broken.1.cut ∙ append_assoc broken.1.before (broken.1.byte ∷ broken.1.rest) more;
    under = broken.1.under;
    front = broken.1.front;
    never = broken.1.never;
  },
)

bad_longer : (max : ℕ) (text more : List ℕ) (why : Bad) → IsBad max text why → IsBad max (text ++ more) why
bad_longer max text more why (inl x) = search (rules, arith, append_assoc)
bad_longer max text more why (inr (inl x)) = search (rules, arith, append_assoc)
bad_longer max text more why (inr (inr (inl x))) = grind (arith, common_steps, ReadsHead-more)
bad_longer max text more why (inr (inr (inr x))) = grind (arith, common_steps, ReadsHead-more, body_longer)

-- ---- what begins with a request of few lines isn't bad

-- two heads that begin one text
record SameHead (h k : RequestHead) (rest more : List ℕ) : Type 0 where
  heads : h ≡ k
  rests : rest ≡ more

same_head : (text : List ℕ) (h k : RequestHead) (rest more : List ℕ) → ReadsHead requests text h rest
    → ReadsHead requests text k more → SameHead h k rest more
same_head text h k rest more a b =
    let same : ◌≡◌ {A = HeadParse requests} (head h rest) (head k more) =
    requests_unambiguous.one text (head h rest) (head k more) a b in
    let heads : h ≡ k = cc in
    let rests : rest ≡ more = cc in
    record { heads = heads; rests = rests }

no_bad_body : (framing : Framing) (text body more : List ℕ) (why : Bad) → IsBodyText framing text body
    → IsBadBody framing (text ++ more) why → ⊥
no_bad_body framing text body more why is bad =
    cc (bodies_unambiguous framing (text ++ more) (whole body more) (refused why) (record { message = text; split = refl; written = is }) bad)

not_bad : (max : ℕ) (message behind : List ℕ) (ask : Ask) (style : Style) (h : RequestHead) (rest : List ℕ)
    → IsRequest max message ask style → ReadsHead requests message h rest
    → line_feeds (print_request h) ≤ max_fields + 2 → (why : Bad) → IsBad max (message ++ behind) why → ⊥
not_bad max message behind ask style h rest is reads few why (inl x) =
    let bad : IsBad max (message ++ behind) bads.Head = inl (refl, x.1) in
    let many =
    requests_are_unambiguous.refused max (message ++ behind) h (rest ++ behind)
    (ReadsHead-more behind refl reads) bad in
    absurd (omega (arith, many, few))
not_bad max message behind ask style h rest is reads few why (inr (inl x)) =
    let same : ◌≡◌ {A = HeadParse requests} (head h (rest ++ behind)) long =
    requests_unambiguous.one (message ++ behind) (head h (rest ++ behind)) long
    (ReadsHead-more behind refl reads) x.1 in
    absurd (cc same)
not_bad max message behind ask style h rest is reads few why (inr (inr (inl x))) =
    let same =
    same_head (message ++ behind) is.head x.head (is.rest ++ behind) x.rest
    (ReadsHead-more behind refl is.reads) x.reads in
    let framings : ◌≡◌ (Ok is.framing) (Err why) = sym is.framed ∙ ap (head_framing max) same.heads ∙ x.refused in
    absurd (cc framings)
not_bad max message behind ask style h rest is reads few why (inr (inr (inr x))) =
    let same =
    same_head (message ++ behind) is.head x.head (is.rest ++ behind) x.rest
    (ReadsHead-more behind refl is.reads) x.reads in
    let oks : ◌≡◌ (Ok is.framing) (Ok x.framing) = sym is.framed ∙ ap (head_framing max) same.heads ∙ x.framed in
    let framings : is.framing ≡ x.framing = cc in
    no_bad_body is.framing is.rest is.body behind why is.written
    (subst (λ f. IsBadBody f (is.rest ++ behind) why) (sym framings)
    (subst (λ t. IsBadBody x.framing t why) (sym same.rests) x.refused))

-- A text isn't bad if it and more are an ask that is written, and more.
pub asked_not_bad : (max : ℕ) (ask : Ask) (host text more behind : List ℕ) → MayBeAsked max ask host
    → text ++ more ≡ ask_text ask host ++ behind → (why : Bad) → IsBad max text why → ⊥
asked_not_bad max ask host text more behind may is why bad =
    let written = heads_written may in
    not_bad max (ask_text ask host) behind ask (written_style ask) written.head written.rest (asked_request may)
    written.reads written.lines why
    (subst (λ t. IsBad max t why) is (bad_longer max text more why bad))
