use Rattle.upload_compact.proofs.survey.survey_of.Goals as goal

pub returns-clause-survey : goal.returns-clause-survey
returns-clause-survey g c clean = record {
  first = c.new-survey.result;
  none = c.new-survey.ensures;
  ran = c.in_default.ensures.ran clean;
}
