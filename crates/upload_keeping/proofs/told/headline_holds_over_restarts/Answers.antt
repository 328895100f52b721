use Rattle.std.proofs.Math.Logic.{∥∥₁_map}
use Rattle.upload_keeping.proofs.Recovery.{holds_on}
use Rattle.upload_keeping.proofs.told.headline_holds_over_restarts.Goals as goal

pub returns : goal.returns
returns g c =
    let b = c.args.keeping.now.books
    in ∥∥₁_map c.args.keeping.now.kept (λ k. holds_on b k c.kept_is_on_the_disk.ensures)
