use Rattle.std.proofs.Common.{arith, rules}
use Rattle.upload_names.proofs.TextFacts.{put_behind, room_behind, where_ok}
use Rattle.upload_names.proofs.digest.spell.Goals as goal

pub returns : goal.returns
returns c = search (rules, arith, room_behind, where_ok, put_behind)
