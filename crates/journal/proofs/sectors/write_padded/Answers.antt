use Rattle.std.proofs.Common.{arith, length, ◌+◌, refl, rules}
use Rattle.journal.specs.Format.{whole}
use Rattle.journal.proofs.Listing.{is_whole}
use Rattle.journal.proofs.Tears.{torn_wider, torn_both, follows_wider, follows_both, joined}
use Rattle.std.proofs.lemmas.Result.{on_ok_weaker}
use Rattle.journal.proofs.sectors.write_padded.Goals as goal

pub returns-in_err-write_sectors-clause-others : goal.returns-in_err-write_sectors-clause-others
returns-in_err-write_sectors-clause-others g c = grind (arith, is_whole, torn_wider)

pub returns-in_err-write_sectors-clause-crash : goal.returns-in_err-write_sectors-clause-crash
returns-in_err-write_sectors-clause-crash g c = search (rules, arith, is_whole, follows_wider)

pub returns-clause-written : goal.returns-clause-written
returns-clause-written g c =
    let at = c.args.at in
    let front = c.split_at.result.0.now in
    let last = c.split_at.result.1.now in
    on_ok_weaker c.write_last.result (λ written.
    joined at (at + length front) (whole (length last)) c.args.bytes.now front last
    (g.D.Disk.seen c.write_sectors.new.disk) (g.D.Disk.seen c.write_last.new.disk)
    c.split_at.ensures.by_index.0 c.in_ok-write_sectors.ensures.written (omega arith) (λ more. refl)
    c.write_last.ensures.others written) c.write_last.ensures.written

pub returns-clause-others : goal.returns-clause-others
returns-clause-others g c =
    let n = length c.args.bytes.now in
    let w = is_whole n in
    let v = is_whole (length c.split_at.result.1.now) in
    torn_both c.args.at (whole n) _ _ _
    (torn_wider c.args.at (whole n) c.args.at (length c.split_at.result.0.now) _ _ (omega arith)
    (omega (arith, w.no_less, c.split_at.ensures.front_len)) c.write_sectors.ensures.others)
    (torn_wider c.args.at (whole n) (c.args.at + length c.split_at.result.0.now)
    (whole (length c.split_at.result.1.now)) _ _ (omega arith)
    (omega (arith, w.no_less, w.even, v.no_more, v.even, c.split_at.ensures.front_len, c.split_at.ensures.back_len))
    c.write_last.ensures.others)

pub returns-clause-crash : goal.returns-clause-crash
returns-clause-crash g c = search (rules, arith, is_whole, follows_both, follows_wider)

pub overflow_add-at : goal.overflow_add-at
overflow_add-at g c = omega (arith, is_whole (length c.args.bytes.now))
