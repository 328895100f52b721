use Rattle.upload_keeper.specs.Safety.{answered_so}
use Rattle.upload_keeping.proofs.Going.{is_fault, is_fine, was_put, one_more_waits, kept_no_more, kept_more}
use Rattle.upload_keeping.proofs.Going.{goes_nowhere}
use Rattle.std.proofs.Common.{refl}
use Rattle.upload_keeping.proofs.books.Books.add.Goals as goal

pub returns-then-is_some-clause-kept : goal.returns-then-is_some-clause-kept
returns-then-is_some-clause-kept g c kept ready =
    let x = answered_so c.args.noted.note c.args.answer.now in
    kept_no_more c.args.self.now kept x c.and.result
    (one_more_waits c.args.self.now.waiting c.and.result (record { note = c.of.result; answer = c.of-2.result }) x
    c.and.ensures (λ i. answered_so (c.of.ensures i) (c.of-2.ensures i)))
    (is_fault c.args.self.now.fault c.is_some.result c.is_some.ensures c.if-is_some.true)

pub returns-clause-kept : goal.returns-clause-kept
returns-clause-kept g c kept ready =
    let b = c.args.self.now in
    let x = answered_so c.args.noted.note c.args.answer.now in
    kept_more b kept x c.and.result
    (one_more_waits b.waiting c.and.result (record { note = c.of.result; answer = c.of-2.result }) x c.and.ensures
    (λ i. answered_so (c.of.ensures i) (c.of-2.ensures i)))
    (is_fine b.fault c.is_some.result c.is_some.ensures c.if-is_some.false) b.store c.put_entry-put.new.batch
    c.err-self.result refl (λ whole. whole) (goes_nowhere b.store) c.kept_is_on_the_disk.ensures
    (λ none xs clean awaits still.
    was_put _ c.put_entry-put.result c.err-self.result c.err-self.ensures.value c.put_entry-put.ensures none
    c.args.noted.note
    xs ready.drafted (awaits still))
