use Rattle.std.proofs.Common.{◌++◌, ◌∷◌, [], List, ℕ, ap, sym, ◌∙◌, append_assoc}
use Rattle.std.specs.Int.{w64, to_be_bytes}
use Rattle.std.specs.Prelude.{Some}
use Rattle.upload_journal.specs.Fields.{range_text}
use Rattle.upload_journal.proofs.draft.put_range.Goals as goal

pub returns-in_ok-put_pair-in-Some : goal.returns-in_ok-put_pair-in-Some
returns-in_ok-put_pair-in-Some c =
    let pair : List ℕ = to_be_bytes w64 c.range.inside.first ++ to_be_bytes w64 c.range.inside.last in
    c.in_ok-put_pair-in-Some.ensures
    ∙ ap (λ r. r ++ pair) c.in_ok-push-in-Some.ensures.items
    ∙ append_assoc c.args.out.now.items (1 ∷ []) pair
    ∙ ap (λ r. c.args.out.now.items ++ range_text r) (ap Some c.range.view_is ∙ sym c.in-Some.is)
