use Rattle.std.proofs.Common.{arith, rules}
use Rattle.upload_service.proofs.Keeping.Tables.{blob-insert_same}
use Rattle.upload_service.proofs.Keeping.Stocked.{put_again}
use Rattle.upload_service.proofs.stock.Stock.store.Goals as goal

pub put-requires : goal.put-requires
put-requires c = search (rules, arith, blob-insert_same)

pub returns-clause-blobs : goal.returns-clause-blobs
returns-clause-blobs c = search (rules, arith, put_again)
