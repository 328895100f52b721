-- The heads of requests and of responses meet the laws of a grammar: both are a start line, with empty lines in front,
-- and a section of fields.
use Rattle.std.proofs.Common.{◌≡◌, ℕ, List, [], ◌∷◌, ◌++◌, refl, sym, ap, ◌∙◌, arith, append_assoc, rules}
use Rattle.std.proofs.Math.Seq.{append_snoc}
use Rattle.std.specs.List.{flat_map}
use Rattle.httparse.specs.Ascii.{line_feed}
use Rattle.httparse.specs.Grammar.{LineEnd, crlf, lf, print_end, print_blank, print_version, print_reason, print_field}
use Rattle.httparse.specs.Grammar.{print_section, print_request, print_response}
use Rattle.http_wire.specs.Fronts.{Words, requests, responses, line_feeds}
use Rattle.http_wire.specs.Inner.HeadReading.{AreLawful}
use Rattle.http_wire.specs.Inner.HeadSpans.{request_spans, response_spans}
use Rattle.http_wire.proofs.Heads.HeadLemmas.{line_feeds-append, line_feeds-end, line_feeds-fields, EndsInLineFeed}
use Rattle.http_wire.proofs.Heads.HeadLemmas.{HasLines}

-- the head is a line, its end, and a section of its fields
record IsSectioned (w : Words) (h : w.Head) : Type 0 where
  start : List ℕ
  line_end : LineEnd
  last : LineEnd
  printed : w.print h ≡ (start ++ print_end line_end) ++ print_section (w.fields h) last

abbrev AreSectioned : Words → Type 0
AreSectioned w = (h : w.Head) → IsSectioned w h

-- a line end ends in a line feed
end_is_line_feed : (a : List ℕ) (e : LineEnd) → (front : List ℕ) × (a ++ print_end e ≡ front ++ line_feed ∷ [])
end_is_line_feed a crlf = (a ++ 13 ∷ [], sym (append_snoc a 13 (10 ∷ [])))
end_is_line_feed a lf = (a, refl)

sectioned_end : (w : Words) → AreSectioned w → EndsInLineFeed w
sectioned_end w law h =
    let s = law h in
    let line : List ℕ = s.start ++ print_end s.line_end in
    let end = end_is_line_feed (line ++ flat_map print_field (w.fields h)) s.last in
    (end.0, s.printed ∙ sym (append_assoc line (flat_map print_field (w.fields h)) (print_end s.last)) ∙ end.1)

sectioned_lines : (w : Words) → AreSectioned w → HasLines w
sectioned_lines w law h =
    let s = law h in
    omega (
      arith,
      ap line_feeds s.printed,
      line_feeds-append (s.start ++ print_end s.line_end) (print_section (w.fields h) s.last),
      line_feeds-append s.start (print_end s.line_end),
      line_feeds-end s.line_end,
      line_feeds-append (flat_map print_field (w.fields h)) (print_end s.last),
      line_feeds-end s.last,
      line_feeds-fields (w.fields h),
    )

requests_sectioned : AreSectioned requests
unfolding print_request
requests_sectioned h = record {
  start = print_blank h.blank ++ h.method ++ 32 ∷ h.target ++ 32 ∷ print_version h.minor;
  line_end = h.line_end;
  last = h.last;
  printed = refl;
}

responses_sectioned : AreSectioned responses
unfolding print_response
responses_sectioned h = record {
  start = print_blank h.blank ++ print_version h.minor ++ 32 ∷ h.digits ++ print_reason h.reason;
  line_end = h.line_end;
  last = h.last;
  printed = refl;
}

pub request_ends : EndsInLineFeed requests
request_ends = sectioned_end requests requests_sectioned

pub response_ends : EndsInLineFeed responses
response_ends = sectioned_end responses responses_sectioned

pub request_lines : HasLines requests
request_lines = sectioned_lines requests requests_sectioned

pub response_lines : HasLines responses
response_lines = sectioned_lines responses responses_sectioned

pub request_laws : AreLawful request_spans
request_laws = search (rules, arith, request_ends)

pub response_laws : AreLawful response_spans
response_laws = search (rules, arith, response_ends)
