use Rattle.std.proofs.Common.{arith, ◌∙◌, None, IsSome, sym, subst, rules}
use Rattle.upload_service.specs.Machine.{empty_state}
use Rattle.upload_service.proofs.Serving.{empty_is_lawful}
use Rattle.upload_journal.specs.Replay.{Point}
use Rattle.upload_store.specs.Found.{texts_of}
use Rattle.upload_store.specs.Runs.{IsReplayOf, start_of}
use Rattle.upload_store.specs.Store.{kept_of, limits_of}
use Rattle.upload_store.specs.Rerunning.{shelf_in, point_in}
use Rattle.upload_store.specs.declared.rerun.Rerun.{Rerun}
use Rattle.upload_store.proofs.Reading.{reads_none, reads_then}
use Rattle.upload_store.proofs.Reruns.{batches_ran, replay_of, Ran}
use Rattle.upload_store.proofs.store.Store.recover.Goals as goal

pub returns-clause-ran : goal.returns-clause-ran
returns-clause-ran g c clean =
    let held = g.S.Shelf.held in
    let may_leave = g.S.Shelf.may_leave in
    let start : Point = start_of (empty_state (limits_of c.args.self.now) 0) in
    let kept = kept_of c.args.self.now in
    let listed = c.next_number.new.shelf in
    let machine = c.recover.new.machine in
    let ran =
    batches_ran held may_leave g.S.Shelf.IsClean shelf_in point_in _ kept machine
    (c.in_default.ensures.ran clean.disk) in
    let from : Ran held may_leave g.S.Shelf.IsClean listed start (texts_of kept) machine.files.shelf machine.replay =
    subst (λ (p : Point). Ran held may_leave g.S.Shelf.IsClean listed p (texts_of kept) machine.files.shelf
    machine.replay) c.new_replay.ensures ran in
    subst (λ (p : Point). IsReplayOf kept (held machine.files.shelf) start p) (sym c.replace.ensures.value)
    (replay_of held may_leave g.S.Shelf.IsClean listed start kept machine.files.shelf machine.replay
    (empty_is_lawful (limits_of c.args.self.now) 0) clean.shelf from)

pub returns-clause-reads : goal.returns-clause-reads
returns-clause-reads g c = search (rules, arith, reads_then, reads_none)

pub returns-clause-next : goal.returns-clause-next
returns-clause-next g c clean n there =
    let listed = c.next_number.new.shelf in
    let begun : Rerun g.row.S.Denot g.row.S-File.Denot = record c.args.self.now.run.rerun {
      files = record { shelf = listed };
      replay = c.new_replay.result;
      count = 0;
      refused = None;
    } in
    let reads = (c.recover.ensures.keeps begun
    (reads_none g.S.Shelf.held g.S.Shelf.may_leave g.S.Shelf.IsClean listed, omega arith)).0 in
    c.in_ok-self.ensures.above (reads.clean clean.shelf) n
    (subst IsSome ((reads.all.each n).same ∙ (c.next_number.ensures.reads.all.each n).same) there)

pub returns-clause-of_shelf : goal.returns-clause-of_shelf
returns-clause-of_shelf g c = search (rules, arith, reads_none)
