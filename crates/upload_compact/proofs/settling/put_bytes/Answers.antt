use Rattle.upload_store.proofs.Unwrapping.{if_ok_so}
use Rattle.upload_compact.proofs.settling.put_bytes.Goals as goal

pub returns : goal.returns
returns g c = record {
  journal = c.put_body.ensures.journal;
  clean = c.put_body.ensures.clean;
  still = λ clean n bytes safe. c.put_body.ensures.safe n bytes clean.shelf safe;
  put = if_ok_so _ _ (λ file told. (_, told.2)) c.put_body.result c.put_body.ensures.written;
}
