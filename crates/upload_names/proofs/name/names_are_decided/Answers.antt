use Rattle.upload_names.proofs.NameFacts.{is_in_grammar-true, IsInGrammar-from, is_name-true, IsName-from}
use Rattle.upload_names.proofs.name.names_are_decided.Goals as goal

pub returns-clause-grammar : goal.returns-clause-grammar
returns-clause-grammar c text = (IsInGrammar-from text, is_in_grammar-true text)

pub returns-clause-names : goal.returns-clause-names
returns-clause-names c text = (IsName-from text, is_name-true text)
