use Rattle.std.proofs.Common.{◌≡◌, ◌∙◌, ap, sym, subst, true≢false, ℕ, List, Some}
use Rattle.std.specs.Prelude.{IsOk}
use Rattle.uuid.specs.Text.{parsed}
use Rattle.upload_names.specs.Reference.{reference_of}
use Rattle.upload_claims.proofs.writing.id_of.Goals as goal

found : (input text at id : List ℕ) → Some id ≡ parsed input → input ≡ text → parsed text ≡ Some at → id ≡ at
found input text at id e f g = cc

pub unreachable-requires : goal.unreachable-requires
unfolding reference_of
unreachable-requires c =
    true≢false (sym (subst IsOk c.in-Err.is
    (c.try_parse_ascii.ensures.ok.1 (c.args.at.now, ap parsed c.as_slice.ensures ∙ c.text.ensures.reads_back))))

pub returns : goal.returns
unfolding reference_of
returns c =
    found c.as_slice.result.now c.text.result c.args.at.now c.in-Ok.id c.in-Ok.ensures.bytes c.as_slice.ensures
    c.text.ensures.reads_back
