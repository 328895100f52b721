-- How long a reply's body is.
use Rattle.std.specs.Prelude.{ℕ, length, Some}
use Rattle.upload_service.specs.declared.answer.Answer.{Answer}
use Rattle.upload_service.specs.declared.answer.Answer.TheVariants.{Blob}
use Rattle.upload_wire.specs.ReplyText.{reply_of}

-- that of a blob is the size that goes with it
abbrev pub body_size : Answer → ℕ
body_size (Blob digest size (Some bytes)) = size
body_size answer = length (reply_of answer).body
