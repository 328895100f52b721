-- A text is read in one way, as a request.
use Rattle.std.specs.Prelude.{◌≡◌, ◌≢◌, ℕ, ◌+◌, ◌<◌, List, []}
use Rattle.httparse.specs.Grammar.{RequestHead, print_request}
use Rattle.upload_service.specs.declared.ask.Ask.{Ask}
use Rattle.http_wire.specs.Fronts.{line_feeds, max_fields, ReadsHead, requests}
use Rattle.http_wire.specs.declared.fault.Bad.{Bad}
use Rattle.http_wire.specs.declared.fault.Bad.TheVariants.{Head}
use Rattle.upload_wire.specs.RequestText.{IsBad, IsTruncated, ReadsOne}
use Rattle.upload_wire.specs.declared.request.Style.{Style}

-- what a text holds first: a request and then rest, something bad, a prefix of a request, or nothing
pub data RequestParse : Type 0 where
  request : Ask → Style → List ℕ → RequestParse
  bad : Bad → RequestParse
  cut : RequestParse
  nothing : RequestParse

-- the text is read so
abbrev pub ParsesAsRequest : ℕ → List ℕ → RequestParse → Type 0
ParsesAsRequest max_body text (request ask style rest) = ReadsOne max_body text rest ask style
ParsesAsRequest max_body text (bad why) = IsBad max_body text why
ParsesAsRequest max_body text cut = IsTruncated max_body text
ParsesAsRequest max_body text nothing = text ≡ []

-- Under one limit a text is read in one way, but that its head may be refused too; and it is not if it begins with
-- one of at most 66 lines.
pub record RequestsAreUnambiguous : Type 0 where
  pub one : (max_body : ℕ) (text : List ℕ) (parse other : RequestParse) → ParsesAsRequest max_body text parse
      → ParsesAsRequest max_body text other → parse ≢ bad Head → other ≢ bad Head → parse ≡ other
  pub refused : (max_body : ℕ) (text : List ℕ) (head : RequestHead) (rest : List ℕ) → ReadsHead requests text head rest
      → IsBad max_body text Head → max_fields + 2 < line_feeds (print_request head)
