use Rattle.std.proofs.Common.{ℕ, List, rules, subst}
use Rattle.std.specs.List.{All}
use Rattle.upload_compact.specs.Numbers.{Has}
use Rattle.upload_compact.proofs.guard.Guard.allow.Goals as goal

pub returns-clause-named : goal.returns-clause-named
returns-clause-named c =
    subst (λ (numbers : List ℕ). All (Has c.args.self.now.safe) numbers) c.files_in-files.ensures
    (c.have_files.ensures (search (rules, c.if-not-have_files.false)))
