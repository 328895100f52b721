use Rattle.std.proofs.Math.Logic.{∥∥₁_map}
use Rattle.upload_keeping.proofs.Recovery.{can_be_run_again}
use Rattle.upload_keeping.proofs.told.kept_can_be_run_again.Goals as goal

pub returns : goal.returns
returns g c =
    let b = c.args.keeping.now.books
    in ∥∥₁_map c.args.keeping.now.kept (λ k. can_be_run_again b k c.kept_is_on_the_disk.ensures)
