-- A text is read in one way, as a reply.
use Rattle.std.specs.Prelude.{◌≡◌, ◌≢◌, ℕ, ◌+◌, ◌<◌, ◌⊎◌, Bool, List}
use Rattle.httparse.specs.Grammar.{ResponseHead, print_response}
use Rattle.http_wire.specs.Fronts.{line_feeds, max_fields, IsRefused, IsTooLong, IsUnfinished, ReadsHead, responses}
use Rattle.http_wire.specs.States.{SourceState, input_state}
use Rattle.upload_client.specs.AnswerText.{TellsHeard, TellsMisplaced, HasFramingFault, HasLongBody, HasCutReplyBody}
use Rattle.upload_client.specs.declared.heard.Heard.{Heard}
use Rattle.http_wire.specs.declared.responses.body.FramingFault.TheVariants as Fault

-- what a text holds first: a reply of which this is heard, whether it keeps the connection, and then rest; one that is
-- unreadable, by its head or behind it; one that is too large; or a prefix of one
pub data ReplyParse : Type 0 where
  heard : Heard → Bool → List ℕ → ReplyParse
  refused : ReplyParse
  unreadable : ReplyParse
  too_large : ReplyParse
  cut : ReplyParse

-- The text is read so, as the reply to a HEAD or to another request, if the source is left as new.
abbrev pub ParsesAsReply : Bool → List ℕ → SourceState → ReplyParse → Type 0
ParsesAsReply head_only text new (heard what keep rest) = TellsHeard head_only text (input_state rest new) what keep
ParsesAsReply head_only text new refused = IsRefused responses text
ParsesAsReply head_only text new unreadable =
    HasFramingFault head_only text Fault.Unreadable
    ⊎ ((rest : List ℕ) × TellsMisplaced head_only text (input_state rest new))
ParsesAsReply head_only text new too_large =
    IsTooLong responses text ⊎ (HasFramingFault head_only text Fault.TooLarge ⊎ HasLongBody head_only text)
ParsesAsReply head_only text new cut = IsUnfinished responses text ⊎ HasCutReplyBody head_only text

-- A text is read in one way, but that its head may be refused too; and it is not if it begins with one of at most 66
-- lines.
pub record RepliesAreUnambiguous : Type 0 where
  pub one : (head_only : Bool) (text : List ℕ) (new : SourceState) (parse other : ReplyParse)
      → ParsesAsReply head_only text new parse → ParsesAsReply head_only text new other → parse ≢ refused
      → other ≢ refused → parse ≡ other
  pub refused_head : (text : List ℕ) (head : ResponseHead) (rest : List ℕ) → ReadsHead responses text head rest
      → IsRefused responses text → max_fields + 2 < line_feeds (print_response head)
