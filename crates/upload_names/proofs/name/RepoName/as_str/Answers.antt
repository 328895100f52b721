use Rattle.std.proofs.Common.{subst}
use Rattle.upload_names.specs.Name.{IsName}
use Rattle.upload_names.proofs.NameFacts.{IsName-from}
use Rattle.upload_names.proofs.name.RepoName.as_str.Goals as goal

pub returns-clause-named : goal.returns-clause-named
returns-clause-named c = subst IsName c.self.view_is (IsName-from _ c.self.invariant)
