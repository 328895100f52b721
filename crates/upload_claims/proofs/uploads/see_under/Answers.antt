use Rattle.std.proofs.Common.{◌∙◌}
use Rattle.std.specs.Option.{option_map}
use Rattle.std.specs.Map.{lookup}
use Rattle.upload_service.specs.Machine.{same}
use Rattle.upload_claims.specs.Kept.{upload_of}
use Rattle.upload_claims.proofs.Rows.{none_row}
use Rattle.upload_claims.proofs.uploads.see_under.Goals as goal

pub returns-in_default : goal.returns-in_default
returns-in_default c q =
    (λ i. option_map upload_of (lookup (same q) (c.get_mut.follows.holds-at-none i).entries))
    ∙ none_row c.args.rows.now.entries c.args.at.now c.args.now c.in_default.ensures.value q
