use Rattle.std.proofs.Math.Logic.{∥∥₁_map}
use Rattle.upload_keeping.proofs.Recovery.{keeps_told}
use Rattle.upload_keeping.proofs.told.told_is_on_the_disk.Goals as goal

pub returns : goal.returns
returns g c =
    let b = c.args.keeping.now.books
    in ∥∥₁_map c.args.keeping.now.kept (λ k. keeps_told b k c.kept_is_on_the_disk.ensures)
