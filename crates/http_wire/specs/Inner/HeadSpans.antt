-- What the parser answers of the heads of requests and of responses: the spans are those of a head that begins the
-- text.
use Rattle.std.specs.Prelude.{take}
use Rattle.httparse.specs.Spans.{IsRequestWithin, IsRequestOf, IsResponseWithin, IsResponseOf}
use Rattle.http_wire.specs.Fronts.{requests, responses}
use Rattle.http_wire.specs.Inner.HeadReading.{Spans}
use Rattle.http_wire.specs.declared.requests.parsed.ParsedRequest.{ParsedRequest}
use Rattle.http_wire.specs.declared.responses.parsed.ParsedResponse.{ParsedResponse}

abbrev pub request_spans : Spans ParsedRequest
request_spans = record {
  words = requests;
  IsHeadOf = λ text p. IsRequestWithin text p.headers p.spans × IsRequestOf text p.headers p.spans;
  len = λ p. p.spans.len;
  headers = λ p. take p.spans.headers p.headers;
}

abbrev pub response_spans : Spans ParsedResponse
response_spans = record {
  words = responses;
  IsHeadOf = λ text p. IsResponseWithin text p.headers p.spans × IsResponseOf text p.headers p.spans;
  len = λ p. p.spans.len;
  headers = λ p. take p.spans.headers p.headers;
}
