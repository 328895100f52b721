use Rattle.upload_claims.proofs.Rows.{found, not_found}
use Rattle.upload_claims.proofs.uploads.Uploads.get.Goals as goal

pub returns-clause-found : goal.returns-clause-found
returns-clause-found c =
    found c.self.inside.rows.entries c.args.self.now c.self.view_is c.args.at.now c.get.result c.get.ensures.value

pub returns-clause-none : goal.returns-clause-none
returns-clause-none c =
    not_found c.self.inside.rows.entries c.args.self.now c.self.view_is c.args.at.now c.get.result c.get.ensures.value
