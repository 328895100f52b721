use Rattle.std.proofs.Common.{◌∙◌, ap}
use Rattle.std.specs.FinMap as map
use Rattle.upload_service.specs.Machine.{Table}
use Rattle.upload_claims.specs.Claims.{Upload}
use Rattle.upload_claims.specs.Fold.{seen_at, with_any}
use Rattle.upload_claims.proofs.Rows.{seen_written}
use Rattle.upload_claims.proofs.uploads.Uploads.see.Goals as goal

pub returns : goal.returns
returns c =
    seen_written c.self.inside.rows.entries c.see_under.new.rows.entries c.args.at.now c.args.now c.see_under.ensures
    ∙ ap (λ (m : Table Upload). with_any m c.args.at.now (seen_at (map.get m c.args.at.now) c.args.now)) c.self.view_is
