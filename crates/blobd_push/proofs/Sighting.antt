-- What is seen in the reply to a HEAD of a blob.
use Rattle.std.proofs.Common.{◌≡◌, Bool, List, ℕ, sym, ap, ◌∙◌, drop, take}
use Rattle.httparse.specs.Grammar.{status_code}
use Rattle.http_wire.specs.Inner.HeadReading.{IsHeadAtFront, fields_of}
use Rattle.http_wire.specs.Inner.HeadSpans.{response_spans}
use Rattle.http_wire.specs.declared.responses.parsed.ParsedResponse.{ParsedResponse}
use Rattle.upload_client.proofs.AnswerLemmas.{fields_same, head_reads, the_head}
use Rattle.blobd_push.specs.Sights.{HasHead, shows_blob}

-- a head at the front of a text shows the blob or doesn't
pub head_seen : (size digest text : List ℕ) (p : ParsedResponse) (shows : Bool)
    (f : IsHeadAtFront response_spans text p)
    → shows_blob size digest p.spans.code (fields_of response_spans (take p.spans.len text) p) ≡ shows
    → HasHead size digest text shows
head_seen size digest text p shows f is = record {
  head = the_head f;
  rest = drop p.spans.len text;
  reads = head_reads text p f;
  shown = ap (shows_blob size digest (status_code (the_head f))) (sym (fields_same text p f))
      ∙ ap (λ s. shows_blob size digest s (fields_of response_spans (take p.spans.len text) p)) (sym f.head.1.1.code)
      ∙ is;
}
