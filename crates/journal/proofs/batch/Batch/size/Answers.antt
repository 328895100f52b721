use Rattle.std.proofs.Common.{arith, ◌+◌}
use Rattle.journal.proofs.Listing.{is_whole}
use Rattle.journal.proofs.batch.Batch.size.Goals as goal

pub overflow_add-result : goal.overflow_add-result
overflow_add-result c = omega (arith, is_whole (32 + c.len.result))
