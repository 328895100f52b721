-- A text is read in one way, as a head and as a body.
use Rattle.std.specs.Prelude.{◌≡◌, ℕ, ◌+◌, ◌<◌, List, ◌++◌}
use Rattle.http_wire.specs.Fronts.{Words, ReadsHead, IsRefused, IsTooLong, IsUnfinished, line_feeds, max_fields}
use Rattle.http_wire.specs.Body.{IsBodyText, IsBadBody, IsCutBody}
use Rattle.http_wire.specs.declared.body.Framing.{Framing}
use Rattle.http_wire.specs.declared.fault.Bad.{Bad}

-- ---- heads

-- what a text begins with: a head and then rest, too many bytes without one, or nothing that is one yet
pub data HeadParse (w : Words) : Type 0 where
  head : w.Head → List ℕ → HeadParse w
  long : HeadParse w
  unfinished : HeadParse w

-- the text begins so
abbrev pub BeginsWith : (w : Words) → List ℕ → HeadParse w → Type 0
BeginsWith w text (head h rest) = ReadsHead w text h rest
BeginsWith w text long = IsTooLong w text
BeginsWith w text unfinished = IsUnfinished w text

-- A text begins in one way. It may be refused too, but not if it begins with a head of at most 66 lines; one with
-- more has empty ones in front.
pub record HeadsAreUnambiguous (w : Words) : Type 0 where
  pub one : (text : List ℕ) (parse other : HeadParse w) → BeginsWith w text parse
      → BeginsWith w text other → parse ≡ other
  pub refused : (text : List ℕ) (h : w.Head) (rest : List ℕ) → ReadsHead w text h rest → IsRefused w text
      → max_fields + 2 < line_feeds (w.print h)

-- ---- bodies

-- what stands behind a head: a whole body and then rest, one that is refused, or a prefix of one
pub data BodyParse : Type 0 where
  whole : List ℕ → List ℕ → BodyParse
  refused : Bad → BodyParse
  cut : BodyParse

-- the text is a whole body of that framing, and then rest
pub record BeginsWithBody (framing : Framing) (text body rest : List ℕ) : Type 0 where
  pub message : List ℕ
  pub split : text ≡ message ++ rest
  pub written : IsBodyText framing message body

-- the text is read so, as a body of that framing
abbrev pub IsReadAs : Framing → List ℕ → BodyParse → Type 0
IsReadAs framing text (whole body rest) = BeginsWithBody framing text body rest
IsReadAs framing text (refused why) = IsBadBody framing text why
IsReadAs framing text cut = IsCutBody framing text

-- under one framing, which has the limit, a text is read in one way
abbrev pub BodiesAreUnambiguous : Type 0
BodiesAreUnambiguous =
    (framing : Framing) (text : List ℕ) (parse other : BodyParse)
    → IsReadAs framing text parse → IsReadAs framing text other → parse ≡ other
