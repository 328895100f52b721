use Rattle.std.proofs.Common.{arith, rules}
use Rattle.std.proofs.lemmas.Map.Keys.{IsDistinct-from_sorted}
use Rattle.upload_service.proofs.Keeping.Counted.{len_blobs}
use Rattle.upload_service.proofs.stock.Stock.len.Goals as goal

pub returns : goal.returns
returns c = search (rules, arith, len_blobs, IsDistinct-from_sorted)
