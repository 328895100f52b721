use Rattle.std.proofs.lemmas.Grind.{common_steps}
use Rattle.std.proofs.Common.{arith, rules}
use Rattle.upload_keeping.proofs.Going.{goes_aside, aside_then}
use Rattle.upload_keeping.proofs.entry.draft_of.Goals as goal

pub returns-in-Err-put_body-clause-goes : goal.returns-in-Err-put_body-clause-goes
returns-in-Err-put_body-clause-goes g c = record {
  safe = λ clean n bytes safe. c.put_body.ensures.safe n bytes clean.shelf safe;
  clean = c.put_body.ensures.clean;
}

pub returns-in-Ok-draft_in-clause-goes : goal.returns-in-Ok-draft_in-clause-goes
returns-in-Ok-draft_in-clause-goes g c = search (rules, arith)

pub returns-in-Ok-draft_in-clause-drafted : goal.returns-in-Ok-draft_in-clause-drafted
returns-in-Ok-draft_in-clause-drafted g c = c.in-Ok-draft_in.ensures

pub returns-in-Ok-draft_in-clause-aside : goal.returns-in-Ok-draft_in-clause-aside
returns-in-Ok-draft_in-clause-aside g c = search (rules, arith)

pub returns-in-Err-draft_in-clause-goes : goal.returns-in-Err-draft_in-clause-goes
returns-in-Err-draft_in-clause-goes g c = grind (arith, common_steps, goes_aside, aside_then)
