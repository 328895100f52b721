use Rattle.std.proofs.Common.{◌∙◌}
use Rattle.upload_service.proofs.Keeping.Stocked.{put_back}
use Rattle.upload_service.proofs.stock.Stock.mount.Goals as goal

pub returns-clause-blobs : goal.returns-clause-blobs
returns-clause-blobs c = c.in-Ok.ensures.blobs ∙ put_back c.args.self.now.blobs c.args.digest c.requires
