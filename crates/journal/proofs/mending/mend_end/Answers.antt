use Rattle.std.proofs.Common.{◌≡◌, ◌+◌, ◌≤◌, drop, slice_index, Some, IsTrue, inl, inr, sym, subst, ◌∙◌, arith, rules}
use Rattle.std.specs.Prelude.{IfSome}
use Rattle.sqlite_disk.specs.Disk.{Torn}
use Rattle.journal.specs.Format.{staged, span, sector, number_in, length_in, sum_in, sum_here}
use Rattle.journal.specs.Mending.{copy_at, head_at}
use Rattle.journal.specs.Reads.{headed}
use Rattle.journal.proofs.Back.{reopened, head_stays, headed_again}
use Rattle.journal.proofs.Listing.{is_whole}
use Rattle.journal.proofs.mending.mend_end.Goals as goal

pub returns-in-Ok-clause-mended : goal.returns-in-Ok-clause-mended
returns-in-Ok-clause-mended g c is clean =
    let old = g.D.Disk.seen c.args.disk.now in
    let new = g.D.Disk.seen c.open_gate.new.disk in
    let at = c.args.end.at in
    let count = c.args.end.count in
    let found = subst (λ o. IfSome o (λ h. IsTrue (g.D.Disk.is_clean c.shut_in.new.disk)
    → (staged count (drop at old) ≡ Some (headed old at h)) × (copy_at old at ≡ head_at old at))) c.in-Some.is
    c.in_ok-head.ensures.found (c.open_gate.ensures.clean clean) in
    let torn = subst (λ f. Torn at sector f new) c.shut_in.ensures.reads.seen c.open_gate.ensures.others in
    record {
      found = headed old at c.in-Some.head;
      is = reopened old new at count _ found.0 torn c.in-Ok.ensures.open;
      head = head_stays old new at count _ found.0 torn ∙ sym found.1;
      by = inl ((_, found.0, found.1), torn);
    }

pub write_head-requires-clause-within : goal.write_head-requires-clause-within
write_head-requires-clause-within g c = search (rules, arith, is_whole)

pub returns-clause-mended : goal.returns-clause-mended
returns-clause-mended g c is clean =
    let old = g.D.Disk.seen c.args.disk.now in
    let new = g.D.Disk.seen c.write_head.new.disk in
    let at = c.args.end.at in
    let copy = c.in-Some-2.copy in
    let read_clean = c.write_head.ensures.clean clean in
    let first_clean = c.copied_head.ensures.reads.clean read_clean in
    let measured = c.requires.measured (c.shut_in.ensures.reads.clean first_clean) in
    let w = is_whole (32 + length_in copy) in
    let within = subst (λ o. IfSome o (λ it. at + sector + span it ≤ c.args.len)) c.in-Some-2.is
    c.in_ok-copy.ensures.within in
    let is_whole_head = subst (λ o. IfSome o (λ it. (number_in it ≡ c.args.end.count) × (sum_in it ≡ sum_here it)))
    c.in-Some-2.is c.in_ok-copy.ensures.whole in
    let there = subst (λ f. (slice_index f at ≡ 1) × (copy_at f at ≡ copy)) c.shut_in.ensures.reads.seen (subst
    (λ o. IfSome o (λ it. IsTrue (g.D.Disk.is_clean c.copied_head.new.disk)
    → (slice_index (g.D.Disk.seen c.shut_in.new.disk) at ≡ 1) × (copy_at (g.D.Disk.seen c.shut_in.new.disk) at ≡ it)))
    c.in-Some-2.is c.in_ok-copy.ensures.is read_clean) in
    let torn = subst (λ f. Torn (at + sector) sector f new) (c.copied_head.ensures.reads.seen ∙ c.shut_in.ensures.reads.seen)
    c.write_head.ensures.others in
    record {
      found = _;
      is = headed_again old new at c.args.end.count copy is_whole_head torn there.0 (omega (arith, measured, within, w.no_less))
          c.in_ok-write_head.ensures.written (omega (arith, measured, within));
      head = c.in_ok-write_head.ensures.written ∙ sym there.1;
      by = inr (there.0, torn);
    }
