use Rattle.std.proofs.Common.{◌∙◌, ap, refl}
use Rattle.std.specs.Prelude.{Some, None}
use Rattle.upload_client.specs.Heard.{after_front}
use Rattle.upload_client.proofs.PlaceLemmas.{read_steps}
use Rattle.upload_client.proofs.heard.read_place.Goals as goal

pub returns-in_err-named : goal.returns-in_err-named
returns-in_err-named c =
    cc (read_steps c.args.path.now c.args.name.now None None None c.in_err-named.ensures refl refl)

pub returns-in_err-kind : goal.returns-in_err-kind
returns-in_err-kind c =
    let named = c.in_ok-named.named.now in
    let name_is = c.as_bytes.ensures.value ∙ c.as_str.ensures.text in
    c.from_residual-in_err-kind.ensures
    ∙ read_steps c.args.path.now c.args.name.now (Some named) None None c.in_ok-named.ensures
    (c.in_err-kind.ensures ∙ ap (λ n. after_front n named) name_is) refl

pub returns-in_err-reference : goal.returns-in_err-reference
returns-in_err-reference c =
    let named = c.in_ok-named.named.now in
    let kind = c.in_ok-kind.kind.now in
    let name_is = c.as_bytes.ensures.value ∙ c.as_str.ensures.text in
    c.from_residual-in_err-reference.ensures
    ∙ read_steps c.args.path.now c.args.name.now (Some named) (Some kind) None c.in_ok-named.ensures
    (c.in_ok-kind.ensures ∙ ap (λ n. after_front n named) name_is) c.in_err-reference.ensures

pub returns : goal.returns
returns c =
    let named = c.in_ok-named.named.now in
    let kind = c.in_ok-kind.kind.now in
    let reference = c.in_ok-reference.reference.now in
    let name_is = c.as_bytes.ensures.value ∙ c.as_str.ensures.text in
    c.read.ensures
    ∙ read_steps c.args.path.now c.args.name.now (Some named) (Some kind) (Some reference) c.in_ok-named.ensures
    (c.in_ok-kind.ensures ∙ ap (λ n. after_front n named) name_is) c.in_ok-reference.ensures
