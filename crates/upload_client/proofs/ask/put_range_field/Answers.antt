use Rattle.std.proofs.Common.{◌∙◌, sym, ap, subst, ◌++◌}
use Rattle.std.specs.Prelude.{flat_map}
use Rattle.upload_names.specs.ByteRange.{Span}
use Rattle.http_wire.specs.Inner.Gathering.{Gathered}
use Rattle.upload_client.specs.AskText.{content_range_fields}
use Rattle.http_wire.specs.HeadText.{print_field}
use Rattle.upload_client.proofs.AskTextLemmas.{range_text_is}
use Rattle.upload_client.proofs.ask.put_range_field.Goals as goal

pub returns-in-Given : goal.returns-in-Given
returns-in-Given g c = λ start before held.
    let put =
    c.put-in-Given-2.ensures start _ (c.put_number-in-Given.ensures start _
    (c.put-in-Given.ensures start _ (c.put_number.ensures start _ (c.put.ensures start before held)))) in
    let first = ap (λ (r : Span). r.first) c.range.view_is in
    let last = ap (λ (r : Span). r.last) c.range.view_is in
    subst (Gathered start (g.W.ByteSink.state c.put-in-Given-2.new.writer) c.put-in-Given-2.new.self)
    (range_text_is before c.in-Given.range _ _ first last
    ∙ ap (λ r. before ++ flat_map print_field (content_range_fields r)) (sym c.in-Given.is)) put
