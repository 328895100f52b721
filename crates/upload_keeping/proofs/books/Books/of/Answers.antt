use Rattle.std.proofs.Common.{◌∙◌, ap, sym, refl, subst, IsTrue}
use Rattle.std.specs.List.{flat_map}
use Rattle.upload_service.specs.Machine.{empty_state}
use Rattle.upload_journal.specs.Replay.{Point}
use Rattle.upload_store.specs.Runs.{IsReplayOf, start_of}
use Rattle.upload_store.specs.Store.{IsClean, kept_of, shelf_of, limits_of}
use Rattle.upload_keeping.specs.Books.{recorded_in, moment_of}
use Rattle.upload_keeping.proofs.Going.{kept_at_first}
use Rattle.upload_keeping.proofs.books.Books.of.Goals as goal

pub returns-clause-kept : goal.returns-clause-kept
returns-clause-kept g c =
    let store = c.args.store in
    kept_at_first _ c.requires.open refl c.of.ensures (ap moment_of c.of-2.ensures ∙ sym c.moment-moment.ensures)
    (ap (flat_map recorded_in) c.none.ensures) (ap recorded_in c.none-2.ensures) c.new.ensures
    (subst (λ (p : Point). IsTrue c.args.is_whole → IsClean store
    → IsReplayOf (kept_of store) (g.S.Shelf.held (shelf_of store))
    (start_of (empty_state (limits_of store) 0)) p) (sym c.of-2.ensures) c.requires.ran)
