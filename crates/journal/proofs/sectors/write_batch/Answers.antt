use Rattle.std.proofs.Common.{arith, rules, ap, sym, subst, length, ℕ, List, ◌≡◌, ◌+◌, ◌++◌}
use Rattle.std.proofs.Common.{◌∙◌, append_assoc, length-append}
use Rattle.std.proofs.lemmas.Result.{on_ok_weaker}
use Rattle.sqlite_disk.specs.Disk.{Holds}
use Rattle.journal.specs.Format.{whole}
use Rattle.journal.proofs.Listing.{is_whole}
use Rattle.journal.proofs.Tears.{torn_wider, torn_both, follows_wider, follows_both, joined, holds_front}
use Rattle.journal.proofs.sectors.write_batch.Goals as goal

pub returns-in_err-write_sectors-clause-others : goal.returns-in_err-write_sectors-clause-others
returns-in_err-write_sectors-clause-others g c = grind (arith, is_whole, torn_wider)

pub returns-in_err-write_sectors-clause-crash : goal.returns-in_err-write_sectors-clause-crash
returns-in_err-write_sectors-clause-crash g c = search (rules, arith, is_whole, follows_wider)

pub overflow_add-at : goal.overflow_add-at
overflow_add-at g c = omega (arith, is_whole (32 + length c.args.bytes.now))

pub write_padded-requires-clause-fits : goal.write_padded-requires-clause-fits
write_padded-requires-clause-fits g c =
    omega (arith, is_whole (32 + length c.args.bytes.now), is_whole (length c.split_at.result.1.now))

pub returns-clause-written : goal.returns-clause-written
returns-clause-written g c =
    let head = c.args.head.now in
    let front = c.split_at.result.0.now in
    let rest = c.split_at.result.1.now in
    let mid = g.D.Disk.seen c.write_sectors.new.disk in
    let head_len : length head ≡ 32 = search rules in
    let long : length c.sector_of.result ≡ 4096 = search rules in
    let begun : Holds mid c.args.at (head ++ front) =
    subst (λ (l : List ℕ). Holds mid c.args.at l) c.sector_of.ensures
    (holds_front mid c.args.at c.sector_of.result (length head + length front)
    (c.in_ok-write_sectors.ensures.written (omega arith))) in
    let all : head ++ c.args.bytes.now ≡ (head ++ front) ++ rest =
    ap (λ (l : List ℕ). head ++ l) c.split_at.ensures.by_index.0 ∙ sym (append_assoc head front rest) in
    on_ok_weaker c.write_padded.result (λ written.
    joined c.args.at (c.args.at + 4096) (whole (length rest)) (head ++ c.args.bytes.now) (head ++ front) rest mid
    (g.D.Disk.seen c.write_padded.new.disk) all (λ has. begun)
    (omega (arith, head_len, length-append head front, c.split_at.ensures.front_len, c.min.ensures))
    (λ more. omega (
      arith,
      head_len,
      more,
      length-append head front,
      c.split_at.ensures.front_len,
      c.split_at.ensures.back_len,
      c.min.ensures,
    ))
    c.write_padded.ensures.others written (omega (arith, head_len, length-append head c.args.bytes.now)))
    c.write_padded.ensures.written

pub returns-clause-others : goal.returns-clause-others
returns-clause-others g c =
    let n = 32 + length c.args.bytes.now in
    let w = is_whole n in
    let long : length c.sector_of.result ≡ 4096 = search rules in
    let v = is_whole (length c.split_at.result.1.now) in
    torn_both c.args.at (whole n) _ _ _
    (torn_wider c.args.at (whole n) c.args.at (length c.sector_of.result) _ _ (omega arith)
    (omega (arith, w.no_less, w.even)) c.write_sectors.ensures.others)
    (torn_wider c.args.at (whole n) (c.args.at + 4096) (whole (length c.split_at.result.1.now)) _ _ (omega arith)
    (omega (
      arith,
      w.no_less,
      w.even,
      v.no_more,
      v.even,
      c.split_at.ensures.front_len,
      c.split_at.ensures.back_len,
      c.min.ensures,
    )) c.write_padded.ensures.others)

pub returns-clause-crash : goal.returns-clause-crash
returns-clause-crash g c = search (rules, arith, is_whole, follows_both, follows_wider)
