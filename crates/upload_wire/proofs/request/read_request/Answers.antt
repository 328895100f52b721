use Rattle.std.proofs.Common.{◌≡◌, ap, sym, ◌∙◌, rules}
use Rattle.std.specs.Prelude.{Err}
use Rattle.http_wire.specs.Faults.{wire_of_body}
use Rattle.upload_wire.proofs.RequestLemmas.{read_of_body}
use Rattle.upload_wire.proofs.request.read_request.Goals as goal

pub returns-in_err-read_body-clause-costs : goal.returns-in_err-read_body-clause-costs
returns-in_err-read_body-clause-costs g c =
    let fault = c.in_err-read_body.field-0.0 in
    let wire : c.from_residual.result ≡ Err (wire_of_body fault) = search rules in
    record {
      same_source = c.read_body.ensures.costs.same_source;
      same_buffer = c.read_body.ensures.costs.same_buffer;
      costs = record {
        reads = c.read_body.ensures.costs.costs.reads;
        failed =
            λ told. c.read_body.ensures.costs.costs.failed
            (c.in_err-read_body.was ∙ ap Err (read_of_body fault (sym wire ∙ told)));
        unfailed =
            λ untold. c.read_body.ensures.costs.costs.unfailed
            (λ failed. untold (wire ∙ search (rules, failed)));
      };
    }
