use Rattle.std.proofs.Common.{rules, arith}
use Rattle.http_wire.proofs.Heads.HeadLaws.{response_laws}
use Rattle.blobd_push.proofs.Sighting.{head_seen}
use Rattle.blobd_push.proofs.sight.look_over.Goals as goal

pub read_head-requires : goal.read_head-requires
read_head-requires g c = record { lawful = response_laws }

pub returns-then-shows_blob-clause-seen : goal.returns-then-shows_blob-clause-seen
returns-then-shows_blob-clause-seen g c = search (rules, arith, head_seen)

pub returns-else-shows_blob-clause-seen : goal.returns-else-shows_blob-clause-seen
returns-else-shows_blob-clause-seen g c = search (rules, arith, head_seen)
