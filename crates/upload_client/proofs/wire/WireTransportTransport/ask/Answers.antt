use Rattle.std.proofs.Common.{refl}
use Rattle.upload_client.specs.AskText.{message_of}
use Rattle.upload_client.proofs.TransportLemmas.{exchanges}
use Rattle.upload_client.proofs.wire.WireTransportTransport.ask.Goals as goal

pub returns : goal.returns
returns g c =
    exchanges c.args.self.now _ _ c.hear.new.self c.args.ask c.as_slice.result.now (message_of c.args.ask).body
    c.stays_open.result c.is_bodiless.result
    c.wants_head.result _ c.write_ask-written.result c.hear.result
    c.self.view_is c.stays_open.ensures c.if-not-stays_open.false c.as_slice.ensures c.hear.ensures.host
    c.write_ask-written.ensures.wrote c.write_ask-written.ensures.flushed c.hear.ensures.writer
    c.is_bodiless.ensures refl c.wants_head.ensures c.hear.ensures.hears refl
