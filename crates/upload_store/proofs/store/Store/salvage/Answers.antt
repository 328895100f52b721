use Rattle.std.proofs.Common.{◌≡◌, ◌+◌, ◌∙◌, None, IsSome, sym, ap, subst, arith}
use Rattle.std.specs.Prelude.{min, max}
use Rattle.sqlite_disk.specs.Disk.{MoreFaults}
use Rattle.journal.specs.Machine.{Runs}
use Rattle.upload_service.specs.Machine.{empty_state, last_number}
use Rattle.upload_service.proofs.Serving.{empty_is_lawful}
use Rattle.upload_journal.specs.Replay.{Point, used_up}
use Rattle.upload_store.specs.Runs.{IsReplayOf, start_of, stands_in}
use Rattle.upload_store.specs.Store.{shelf_of, kept_of, limits_of}
use Rattle.upload_store.specs.Rescued.{shelf_at, stand_of}
use Rattle.upload_store.specs.Rescuing.{Since}
use Rattle.upload_store.specs.Salvage.{Stand, stand_at, Salvages, refused_in, finished}
use Rattle.upload_store.specs.declared.losses.Losses.{Losses}
use Rattle.upload_store.specs.declared.rescue.Rescue.{Rescue}
use Rattle.upload_store.proofs.Reading.{reads_none}
use Rattle.std.specs.Prelude.{◌≤◌}
use Rattle.std.specs.List.{All}
use Rattle.upload_journal.specs.Entries.{entry_of}
use Rattle.upload_store.specs.Found.{texts_of}
use Rattle.upload_store.specs.Salvage.{of_read, highest}
use Rattle.upload_store.proofs.Numbering.{all_issued}
use Rattle.upload_store.proofs.Lossless.{lossless, none_lost}
use Rattle.upload_store.proofs.Naming.{none_named}
use Rattle.std.proofs.Common.{inl, inr}
use Rattle.upload_store.proofs.Salvages.{batches_saved, again}
use Rattle.upload_store.proofs.store.Store.salvage.Goals as goal

pub returns-clause-ran : goal.returns-clause-ran
returns-clause-ran g c clean =
    let held = g.S.Shelf.held in
    let may_leave = g.S.Shelf.may_leave in
    let it = c.args.self.now in
    let start : Point = start_of (empty_state (limits_of it) 0) in
    let kept = kept_of it in
    let machine = c.recover.new.machine in
    let final = machine.rerun.files.shelf in
    let failed = MoreFaults (g.S.Shelf.faults (shelf_of it)) (g.S.Shelf.faults final) in
    let end : Stand = stand_of machine in
    let since : Since held may_leave g.S.Shelf.IsClean g.S.Shelf.faults final final =
    (reads_none held may_leave g.S.Shelf.IsClean final, omega arith) in
    let saved = batches_saved held may_leave g.S.Shelf.IsClean g.S.Shelf.faults (shelf_of it) final clean.shelf shelf_at
    stand_of _ kept machine (c.in_default.ensures.ran clean.disk) c.next_number.ensures.faults since in
    let from : Stand = record {
      point = c.new_replay.result;
      place = 0;
      lost = c.none.result.count;
      listed = c.none.result.listed.items;
      named = c.none.result.named;
      past = c.none.result.past;
    } in
    let begun : from ≡ stand_at start = λ i. record {
      point = c.new_replay.ensures i;
      place = 0;
      lost = c.none.ensures.0 i;
      listed = c.none.ensures.1 i;
      named = c.none.ensures.2 i;
      past = c.none.ensures.3 i;
    } in
    let runs = subst
    (λ (s : Stand). Runs (Salvages (stands_in (held final)) (refused_in (held final) failed)) s kept end) begun
    saved.0 in
    let lawful = empty_is_lawful (limits_of it) 0 in
    let is = again kept (held final) (refused_in (held final) failed) start end lawful runs in
    let losses_are = c.replace-losses.ensures.value in
    let replay_is = c.replace-replay.ensures.value in
    let issued_is = c.issued.ensures ∙ ap (λ (p : Point). p.state.issued) replay_is in
    let number_is = c.last_number.ensures
    ∙ (λ i. min (max (issued_is i + (losses_are i).count) (losses_are i).named) last_number) in
    let ends : c.use_up.new.self ≡ finished end = c.use_up.ensures
    ∙ (λ i. record (replay_is i) { state = used_up (number_is i) (replay_is i).state }) in
    let lost_is = ap (λ (l : Losses). l.count) losses_are in
    record {
      end = end;
      runs = runs;
      ends = ends;
      lost_is = lost_is;
      listed_is = ap (λ (l : Losses). l.listed.items) losses_are;
      counted = is.counted;
      among = is.among;
      replay = subst (λ (p : Point). IsReplayOf is.counted (held final) start p) (sym ends) is.replay;
      above =
          subst
          (λ (q : Point). All (λ text. min (of_read highest (entry_of text)) last_number ≤ q.state.issued)
          (texts_of kept))
          (sym ends)
          (all_issued (stands_in (held final)) (refused_in (held final) failed) start kept end lawful runs);
      none_lost = λ none.
          subst (IsReplayOf kept (held final) start) (sym ends)
          (none_lost (held final) failed start kept end lawful runs (sym lost_is ∙ none));
      whole = λ point again. elim (lossless (held final) failed start kept end point runs again) [
        | inl fails ↦ inl fails
        | inr none ↦ inr (lost_is ∙ none.0, ends ∙ none.1)
      ];
    }

pub returns-clause-next : goal.returns-clause-next
returns-clause-next g c clean n there =
    let listed = c.next_number.new.shelf in
    let begun : Rescue g.row.S.Denot g.row.S-File.Denot = record {
      rerun = record c.args.self.now.run.rerun {
        files = record { shelf = listed };
        replay = c.new_replay.result;
        count = 0;
        refused = None;
      };
      losses = c.none.result;
    } in
    let reads = (c.recover.ensures.keeps begun
    (reads_none g.S.Shelf.held g.S.Shelf.may_leave g.S.Shelf.IsClean listed, omega arith)).0 in
    let before = c.in_ok-self.ensures.above (reads.clean clean.shelf) n
    (subst IsSome ((reads.all.each n).same ∙ (c.next_number.ensures.reads.all.each n).same) there) in
    omega (arith, before, c.max-self.ensures)

pub returns-clause-unnamed : goal.returns-clause-unnamed
returns-clause-unnamed g c clean =
    let held = g.S.Shelf.held in
    let may_leave = g.S.Shelf.may_leave in
    let it = c.args.self.now in
    let start : Point = start_of (empty_state (limits_of it) 0) in
    let kept = kept_of it in
    let machine = c.recover.new.machine in
    let final = machine.rerun.files.shelf in
    let failed = MoreFaults (g.S.Shelf.faults (shelf_of it)) (g.S.Shelf.faults final) in
    let end : Stand = stand_of machine in
    let since : Since held may_leave g.S.Shelf.IsClean g.S.Shelf.faults final final =
    (reads_none held may_leave g.S.Shelf.IsClean final, omega arith) in
    let saved = batches_saved held may_leave g.S.Shelf.IsClean g.S.Shelf.faults (shelf_of it) final clean.shelf shelf_at
    stand_of _ kept machine (c.in_default.ensures.ran clean.disk) c.next_number.ensures.faults since in
    let from : Stand = record {
      point = c.new_replay.result;
      place = 0;
      lost = c.none.result.count;
      listed = c.none.result.listed.items;
      named = c.none.result.named;
      past = c.none.result.past;
    } in
    let begun : from ≡ stand_at start = λ i. record {
      point = c.new_replay.ensures i;
      place = 0;
      lost = c.none.ensures.0 i;
      listed = c.none.ensures.1 i;
      named = c.none.ensures.2 i;
      past = c.none.ensures.3 i;
    } in
    let runs = subst
    (λ (s : Stand). Runs (Salvages (stands_in (held final)) (refused_in (held final) failed)) s kept end) begun
    saved.0 in
    let past_is = ap (λ (l : Losses). l.past) c.replace-losses.ensures.value in
    let next = c.max-self.ensures in
    none_named (held final) (refused_in (held final) failed) start kept end c.max-self.result runs
    (λ n there. returns-clause-next g c clean n there)
    (omega (arith, past_is, next))
