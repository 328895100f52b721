-- What the service writes to answer is heard as what it answered.
use Rattle.std.specs.Prelude.{◌≡◌, ◌≢◌, ◌⊎◌, ℕ, ◌+◌, ◌<◌, ◌≤◌, ◌^◌, Bool, nat_lt, List, ◌++◌, length, Some, None}
use Rattle.std.specs.Prelude.{Result, Ok, Err, IfSome, IsTrue, ⊤, if◌then◌else◌}
use Rattle.upload_names.specs.NamePass.{is_name}
use Rattle.upload_names.specs.Digest.{IsDigest}
use Rattle.upload_names.specs.ByteRange.{range_cap}
use Rattle.upload_service.specs.declared.answer.Answer.{Answer}
use Rattle.upload_service.specs.declared.answer.Answer.TheVariants.{Blob, Begun, Stored, Taken, Standing}
use Rattle.upload_service.specs.declared.answer.Answer.TheVariants.{Misplaced}
use Rattle.http_wire.specs.States.{SourceState, input_state}
use Rattle.upload_wire.specs.ReplyText.{reply}
use Rattle.upload_wire.specs.declared.request.Style.{Style}
use Rattle.upload_client.specs.AnswerText.{FindsAnswer, code_of, max_answer}
use Rattle.upload_client.specs.Heard.{bare, reply_heard}
use Rattle.upload_client.specs.UnambiguousReplies.{ReplyParse, heard, refused, unreadable, too_large, cut}
use Rattle.upload_client.specs.UnambiguousReplies.{ParsesAsReply}
use Rattle.upload_client.specs.declared.heard.Heard.{Heard}
use Rattle.upload_client.specs.declared.heard.HeardFault.{HeardFault}
use Rattle.upload_client.specs.declared.heard.HeardFault.TheVariants as Reply

-- ---- the values that an answer is made of

-- the most bytes of an upload whose last position a range can give
abbrev pub most_told : ℕ
most_told = range_cap + 1

-- The names, digests, sizes and offsets of an answer are those of their types. Other answers have none.
abbrev pub HasLawfulValues : Answer → Type 0
HasLawfulValues (Blob digest size bytes) =
    IsDigest digest × (size < 2 ^ 64) × IfSome bytes (λ content. length content ≡ size)
HasLawfulValues (Begun name at) = IsTrue (is_name name)
HasLawfulValues (Stored name digest) = IsTrue (is_name name) × IsDigest digest
HasLawfulValues (Taken name at next) = IsTrue (is_name name) × (next ≤ most_told)
HasLawfulValues (Standing name at next) = IsTrue (is_name name) × (next ≤ most_told)
HasLawfulValues (Misplaced name at next) = IsTrue (is_name name) × (next ≤ most_told)
HasLawfulValues other = ⊤

-- A blob without its bytes answers a HEAD alone.
abbrev pub FitsMethod : Answer → Bool → Type 0
FitsMethod (Blob digest size None) head = IsTrue head
FitsMethod other head = ⊤

-- ---- what is heard

-- The reply to a HEAD ends behind its head, so no code is heard in it.
abbrev pub heard_in_head : Answer → Heard
heard_in_head answer = record (reply_heard answer) { code = None }

-- A blob is heard by its status, and by the code in its bytes if they are a body of errors themselves. One of more
-- bytes than a client reads of a body is too large.
abbrev pub blob_read : List ℕ → Bool → List ℕ → ReplyParse
blob_read content keep rest =
    if nat_lt max_answer (length content) then too_large
    else heard (record (bare 200) { code = code_of content }) keep rest

-- how the reply to another method is read, in front of rest
abbrev pub read_whole : Answer → Bool → List ℕ → ReplyParse
read_whole (Blob digest size (Some content)) keep rest = blob_read content keep rest
read_whole other keep rest = heard (reply_heard other) keep rest

-- how the reply is read, in front of rest
abbrev pub reply_read : Answer → Style → List ℕ → ReplyParse
reply_read answer style rest =
    if style.head then heard (heard_in_head answer) style.keep rest else read_whole answer style.keep rest

-- ---- the law

-- what a reader of replies gives if the text is read so, unless memory was out; it holds `left` then
abbrev pub ReaderGives : ReplyParse → List ℕ → Result Heard HeardFault → Bool → Type 0
ReaderGives (heard what goes_on rest) left given keep = (given ≡ Ok what) × (left ≡ rest) × (keep ≡ goes_on)
ReaderGives refused left given keep = given ≡ Err Reply.Unreadable
ReaderGives unreadable left given keep = given ≡ Err Reply.Unreadable
ReaderGives too_large left given keep = given ≡ Err Reply.TooLarge
ReaderGives cut left given keep = (given ≡ Err Reply.Truncated) ⊎ (given ≡ Err Reply.Read)

-- the text is read so and in no other way, and a reader of it gives just that
pub record IsReadOnlyAs (head_only : Bool) (text : List ℕ) (new : SourceState) (parse : ReplyParse) : Type 0 where
  pub reads : ParsesAsReply head_only text new parse
  pub alone : (other : ReplyParse) → ParsesAsReply head_only text new other → other ≡ parse
  pub gives : (left : List ℕ) (given : Result Heard HeardFault) (keep : Bool)
      → FindsAnswer head_only text (input_state left new) given keep → given ≢ Err Reply.NoMemory
      → ReaderGives parse left given keep

-- The reply to an answer is read as what the answer says, whatever follows it, and what follows stays.
abbrev pub RepliesAreHeard : Type 0
RepliesAreHeard =
    (answer : Answer) (style : Style) (rest : List ℕ) (new : SourceState)
    → HasLawfulValues answer → FitsMethod answer style.head
    → IsReadOnlyAs style.head (reply answer style ++ rest) new (reply_read answer style rest)
