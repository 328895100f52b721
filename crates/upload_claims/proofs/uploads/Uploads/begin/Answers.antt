use Rattle.std.proofs.Common.{◌∙◌, ap, List}
use Rattle.std.specs.Cmp.Lexicographic.{nat_list_cmp_total}
use Rattle.std.specs.FinMap as map
use Rattle.upload_service.specs.Machine.{Table}
use Rattle.upload_service.proofs.Keeping.Kept.{kept-insert}
use Rattle.upload_service.proofs.Keeping.Swept.{keys_exact}
use Rattle.upload_claims.specs.declared.change.Stretch.{Stretch}
use Rattle.upload_claims.specs.Claims.{Upload}
use Rattle.upload_claims.specs.Kept.{upload_of}
use Rattle.upload_claims.proofs.uploads.Uploads.begin.Goals as goal

pub returns-clause-ok : goal.returns-clause-ok
returns-clause-ok c =
    kept-insert nat_list_cmp_total keys_exact upload_of c.self.inside.rows.entries c.insert.new.self.entries c.args.at
    (record { name = c.args.name; bodies = c.new.result; seen = c.args.now }) c.in_ok-insert.ensures.updates.0
    ∙ ap (λ (m : Table Upload). map.insert m c.args.at
    (record { name = c.args.name; bodies = c.new.result.items; seen = c.args.now })) c.self.view_is
    ∙ ap (λ (bodies : List Stretch). map.insert c.args.self.now c.args.at
    (record { name = c.args.name; bodies = bodies; seen = c.args.now })) c.new.ensures.items
