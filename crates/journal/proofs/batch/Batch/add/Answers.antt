use Rattle.std.proofs.Common.{inl, inr, ◌≡◌, ◌++◌, arith, rules}
use Rattle.journal.specs.Format.{block}
use Rattle.journal.proofs.Batches.{pushed_batch, records_pushed, still_batch, added_or_not, IsBatch}
use Rattle.journal.proofs.batch.Batch.add.Goals as goal

pub invariant_of-self : goal.invariant_of-self
invariant_of-self c =
    let old = c.args.self.now.bytes.items in
    let new = c.put_block.new.out.items in
    let it : IsBatch new =
    elim (added_or_not c.put_block.result (new ≡ old ++ block c.args.bytes.now) (new ≡ old) c.put_block.ensures.ok
    c.put_block.ensures.err) [
      | inl added ↦ pushed_batch old new c.args.bytes.now c.args.self.now.whole c.args.self.now.short
          c.put_block.ensures.short added
      | inr same ↦ still_batch old new c.args.self.now.whole c.args.self.now.short same
    ] in
    record { whole = it.whole; short = it.short }

pub returns-clause-ok : goal.returns-clause-ok
returns-clause-ok c = search (rules, arith, records_pushed)
