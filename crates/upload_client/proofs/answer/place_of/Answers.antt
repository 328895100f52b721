use Rattle.std.proofs.Common.{◌∙◌, ap}
use Rattle.std.specs.Prelude.{Some}
use Rattle.upload_client.proofs.answer.place_of.Goals as goal

pub returns-in-Ok-from_slice : goal.returns-in-Ok-from_slice
returns-in-Ok-from_slice c =
    rw c.in-Some.is (
      c.in-Ok.uri,
      c.in-Ok.ensures.ok,
      ap Some (c.of.ensures ∙ c.in-Ok-from_slice.ensures.items ∙ c.as_bytes.ensures.value ∙ c.path.ensures.value),
    )
