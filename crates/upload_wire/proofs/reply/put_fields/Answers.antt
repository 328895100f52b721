use Rattle.std.proofs.Common.{◌∙◌, ◌++◌, ap, subst, sym}
use Rattle.std.specs.Prelude.{flat_map}
use Rattle.upload_texts.specs.declared.error.ErrorCode.TheVariants.{BlobUploadInvalid}
use Rattle.http_wire.specs.HeadText.{length_field, print_field}
use Rattle.upload_wire.specs.ReplyText.{allow_fields, error_fields, reply_of, upload_fields}
use Rattle.upload_wire.proofs.ReplyLemmas.{fields_and, fields_both, found_text}
use Rattle.http_wire.specs.Inner.Gathering.{Gathered}
use Rattle.upload_wire.proofs.reply.put_fields.Goals as goal

pub returns-in-Blob : goal.returns-in-Blob
returns-in-Blob g c = λ start before held.
    let sum = c.as_bytes.ensures ∙ c.text.ensures.text in
    subst (λ t. Gathered start (g.W.ByteSink.state c.put_length.new.writer) c.put_length.new.self (before ++ t))
    (ap (λ a. flat_map print_field (reply_of a).fields) (sym c.in-Blob.is))
    (subst (Gathered start (g.W.ByteSink.state c.put_length.new.writer) c.put_length.new.self)
    (found_text before c.in-Blob.size sum)
    (c.put_length.ensures start _ (c.put_field-in-Blob.ensures start _ (c.put_field.ensures start before held))))

pub returns-in-Taken : goal.returns-in-Taken
returns-in-Taken g c = λ start before held.
    subst (λ t.
    Gathered start (g.W.ByteSink.state c.put_length-in-Taken.new.writer) c.put_length-in-Taken.new.self (before ++ t))
    (ap (λ a. flat_map print_field (reply_of a).fields) (sym c.in-Taken.is))
    (subst (Gathered start (g.W.ByteSink.state c.put_length-in-Taken.new.writer) c.put_length-in-Taken.new.self)
    (fields_and before (upload_fields c.in-Taken.name c.in-Taken.at c.in-Taken.next) (length_field 0))
    (c.put_length-in-Taken.ensures start _ (c.put_upload.ensures start before held)))

pub returns-in-Misplaced : goal.returns-in-Misplaced
returns-in-Misplaced g c = λ start before held.
    subst (λ t. Gathered start (g.W.ByteSink.state c.put_error.new.writer) c.put_error.new.head (before ++ t))
    (ap (λ a. flat_map print_field (reply_of a).fields) (sym c.in-Misplaced.is))
    (subst (Gathered start (g.W.ByteSink.state c.put_error.new.writer) c.put_error.new.head)
    (fields_both before (upload_fields c.in-Misplaced.name c.in-Misplaced.at c.in-Misplaced.next)
    (error_fields BlobUploadInvalid))
    (c.put_error.ensures start _ (c.put_upload-in-Misplaced.ensures start before held)))

pub returns-in-Refused : goal.returns-in-Refused
returns-in-Refused g c = λ start before held.
    subst (λ t.
    Gathered start (g.W.ByteSink.state c.put_error-in-Refused.new.writer) c.put_error-in-Refused.new.head (before ++ t))
    (ap (λ a. flat_map print_field (reply_of a).fields) (sym c.in-Refused.is))
    (subst (Gathered start (g.W.ByteSink.state c.put_error-in-Refused.new.writer) c.put_error-in-Refused.new.head)
    (fields_both before (allow_fields c.in-Refused.refusal) (error_fields c.refusal_code.result) ∙ ap
    (λ e. before ++ flat_map print_field (allow_fields c.in-Refused.refusal ++ error_fields e)) c.refusal_code.ensures)
    (c.put_error-in-Refused.ensures start _ (c.put_allow.ensures start before held)))
