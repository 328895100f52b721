-- A head that begins a text.
use Rattle.std.proofs.Common.{◌≡◌, List, ℕ, ◌≤◌, ◌++◌, length, take, ap, ◌∙◌, append_assoc, arith, length-take}
use Rattle.std.proofs.lemmas.List.{length-map}
use Rattle.httparse.specs.Grammar.{Field}
use Rattle.httparse.specs.Spans.{AreFieldsAt, header_bytes, name_and_value}
use Rattle.httparse.specs.declared.spans.HeaderSpan.{HeaderSpan}
use Rattle.http_wire.specs.Fronts.{Words, ReadsHead, max_fields}

-- it begins the text with more behind, too
pub ReadsHead-more : {w : Words} {text whole : List ℕ} {h : w.Head} {rest : List ℕ} (more : List ℕ)
    → whole ≡ text ++ more → ReadsHead w text h rest → ReadsHead w whole h (rest ++ more)
ReadsHead-more {w} {text} {whole} {h} {rest} more cut r = record {
  reads = (r.reads.0, cut ∙ ap (λ t. t ++ more) r.reads.1 ∙ append_assoc (w.print h) rest more);
  short = r.short;
  few = r.few;
}

-- few headers cover few fields
pub few_fields : (text : List ℕ) (headers : List HeaderSpan) (count : ℕ) (fields : List Field) → count ≤ max_fields
    → AreFieldsAt text headers count fields → length fields ≤ max_fields
few_fields text headers count fields few are =
    let lengths = ap length are in
    omega (
      arith,
      few,
      lengths,
      length-map fields name_and_value,
      length-map (take count headers) (header_bytes text),
      length-take count headers,
    )
