use Rattle.std.proofs.Common.{slice_index, ◌+◌, length, arith}
use Rattle.std.proofs.lemmas.Result.{on_ok_weaker}
use Rattle.journal.proofs.Listing.{is_whole}
use Rattle.journal.proofs.Commit.{staged, headed, all_rest, zero_shuts}
use Rattle.journal.proofs.gate.stage.Goals as goal

pub shut_gate-requires-clause-begins : goal.shut_gate-requires-clause-begins
shut_gate-requires-clause-begins g c = omega (arith, is_whole (32 + length c.args.bytes.now))

pub returns-in_err-shut_gate-clause-kept : goal.returns-in_err-shut_gate-clause-kept
returns-in_err-shut_gate-clause-kept g c line all len each left may =
    all_rest line all c.args.gate len _ _ _ _
    (let w = is_whole (32 + length c.args.bytes.now) in omega (arith, c.whole.ensures)) c.shut_gate.ensures.crash
    (all_rest line all c.args.gate len _ _ _ _ (omega arith) c.write_batch.ensures.crash each) left may

pub returns-clause-staged : goal.returns-clause-staged
returns-clause-staged g c = grind (arith, is_whole, staged, zero_shuts, slice_index, on_ok_weaker)

pub returns-clause-headed : goal.returns-clause-headed
returns-clause-headed g c = grind (arith, headed, zero_shuts, slice_index, on_ok_weaker)

pub returns-clause-kept : goal.returns-clause-kept
returns-clause-kept g c line all len each left may =
    all_rest line all c.args.gate len _ _ _ _
    (let w = is_whole (32 + length c.args.bytes.now) in omega (arith, c.whole.ensures)) c.shut_gate.ensures.crash
    (all_rest line all c.args.gate len _ _ _ _ (omega arith) c.write_batch.ensures.crash each) left
    (c.sync.ensures.crash left may)

pub returns-in_err-write_batch-clause-kept : goal.returns-in_err-write_batch-clause-kept
returns-in_err-write_batch-clause-kept g c line all len each left may =
    all_rest line all c.args.gate len _ _ _ _ (omega arith) c.write_batch.ensures.crash each left may
