use Rattle.std.proofs.Common.{◌∙◌, ap}
use Rattle.std.specs.FinMap as map
use Rattle.upload_claims.proofs.BlobRows.{BlobTable, written, row_there}
use Rattle.upload_claims.proofs.blobs.Blobs.put_over.Goals as goal

pub replace_under-requires : goal.replace_under-requires
replace_under-requires c =
    row_there c.self.inside.stored.entries c.args.self.now c.self.view_is c.args.digest.now c.requires

pub returns : goal.returns
returns c =
    written c.self.inside.stored.entries c.replace_under.new.rows.entries c.args.digest.now c.args.bodies.items
    c.replace_under.ensures
    ∙ ap (λ (m : BlobTable). map.insert m c.args.digest.now c.args.bodies.items) c.self.view_is
