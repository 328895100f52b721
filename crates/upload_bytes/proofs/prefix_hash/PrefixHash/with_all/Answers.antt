use Rattle.std.proofs.Common.{arith, rules}
use Rattle.upload_bytes.proofs.Prefixes.{holds_all}
use Rattle.upload_bytes.proofs.prefix_hash.PrefixHash.with_all.Goals as goal

pub returns-in-Ok : goal.returns-in-Ok
returns-in-Ok g c = search (rules, arith, holds_all)
