use Rattle.std.proofs.Common.{List, sym, ap, ◌∙◌, subst, append-nil, ◌++◌, arith}
use Rattle.std.specs.List.{flat_map}
use Rattle.upload_service.specs.Machine.{State}
use Rattle.upload_service.specs.Run.{Exchange}
use Rattle.upload_keeper.specs.Keepings.{recorded_in}
use Rattle.upload_keeper.specs.Log.{steps_of, exchanges_of}
use Rattle.upload_keeper.specs.Served.{KeeperState, keeper_with}
use Rattle.upload_keeper.specs.Safety.{Follows, changed}
use Rattle.upload_keeper.proofs.Safely.{follows_alone}
use Rattle.upload_keeper.proofs.unkept.NoKeeping.behind.Goals as goal

pub returns-clause-follows : goal.returns-clause-follows
returns-clause-follows c =
    let books = c.keeper.inside.books in
    let keeps = c.keeper.invariant.keeps in
    let kept =
    sym (append-nil (changed (exchanges_of (steps_of books.log))))
    ∙ (λ i. changed (exchanges_of (steps_of (sym c.of-2.ensures i))) ++ flat_map recorded_in (sym c.none.ensures i)) in
    subst (λ (y : State × List Exchange × KeeperState). Follows y.0 y.1 18446744073709551615 y.2)
    (λ i. (ap (λ s. s.value) (sym c.of.ensures) i, kept i, c.keeper.view_is i))
    (follows_alone (keeper_with books) 18446744073709551615 keeps.lawful keeps.run keeps.moments
    (omega (arith, keeps.last)))
