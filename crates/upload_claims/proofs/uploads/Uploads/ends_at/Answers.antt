use Rattle.std.proofs.Common.{◌∙◌, sym, ap, refl}
use Rattle.std.specs.Prelude.{is_some}
use Rattle.std.specs.Map.{lookup}
use Rattle.upload_service.specs.Machine.{same}
use Rattle.upload_claims.proofs.Rows.{closed_of, takes_is}
use Rattle.upload_claims.proofs.uploads.Uploads.ends_at.Goals as goal

pub returns : goal.returns
returns c =
    let row = lookup (same c.args.at.now) c.self.inside.rows.entries in
    c.takes.ensures.is ∙ takes_is row c.args.end
    ∙ sym (ap is_some (closed_of c.self.inside.rows.entries c.args.self.now c.self.view_is c.args.at.now row c.args.end refl))
