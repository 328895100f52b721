use Rattle.std.proofs.Common.{sym, subst, [], refl}
use Rattle.http_wire.specs.Writing.{Wrote}
use Rattle.http_wire.specs.Inner.Gathering.{Gathered}
use Rattle.http_wire.proofs.WritingLemmas.{takes_none}
use Rattle.upload_client.proofs.AskTextLemmas.{whole_chunk}
use Rattle.upload_client.proofs.ask.write_chunk.Goals as goal

pub returns-clause-wrote : goal.returns-clause-wrote
returns-clause-wrote g c =
    let start = g.W.ByteSink.state c.args.writer.now in
    let new = g.W.ByteSink.state c.finish.new.writer in
    let nothing : Gathered start start c.new-head.result [] =
    subst (λ h. Gathered start start h []) (sym c.new-head.ensures)
    ([], record { takes = takes_none start; unfailed = refl }, refl) in
    let wrote =
    c.finish.ensures.wrote start _ (c.put_upload_section.ensures c.args.chunk.now.body.now refl start _
    (c.put_host.ensures start _ (c.put_upload.ensures start [] nothing))) in
    subst (λ t. Wrote start new t c.finish.result)
    (whole_chunk c.args.chunk.now.name.now c.args.chunk.now.at c.args.chunk.now.range c.args.chunk.now.body.now
    c.args.host.now) wrote
