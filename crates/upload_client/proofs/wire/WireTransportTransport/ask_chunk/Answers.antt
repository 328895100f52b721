use Rattle.std.proofs.Common.{refl}
use Rattle.upload_client.specs.AskText.{ask_of_chunk}
use Rattle.upload_client.proofs.TransportLemmas.{exchanges}
use Rattle.upload_client.proofs.wire.WireTransportTransport.ask_chunk.Goals as goal

pub returns-clause-asked : goal.returns-clause-asked
returns-clause-asked g c =
    exchanges c.args.self.now _ _ c.hear.new.self (ask_of_chunk c.args.chunk.now) c.as_slice.result.now
    c.args.chunk.now.body.now c.stays_open.result c.is_empty.result
    _ _ c.write_chunk-written.result c.hear.result
    c.self.view_is c.stays_open.ensures c.if-not-stays_open.false c.as_slice.ensures c.hear.ensures.host
    c.write_chunk-written.ensures.wrote c.write_chunk-written.ensures.flushed c.hear.ensures.writer
    c.is_empty.ensures refl refl c.hear.ensures.hears refl
