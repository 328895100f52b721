-- Entries that are run through a service again.
use Rattle.std.specs.Prelude.{◌≡◌, ℕ, ◌≤◌, max, List, [], ◌∷◌, ◌++◌, length, Option, Some, None}
use Rattle.upload_names.specs.ByteRange.{Span}
use Rattle.upload_service.specs.declared.ask.Extent.{Extent}
use Rattle.upload_service.specs.declared.ask.Extent.TheVariants.{Absent, Given}
use Rattle.upload_service.specs.declared.ask.Ask.{Ask}
use Rattle.upload_service.specs.declared.ask.Ask.TheVariants as asks
use Rattle.upload_service.specs.Machine.{State, Turn}
use Rattle.upload_service.specs.Run.{Exchange, Run, NeverBefore}
use Rattle.upload_service.specs.Headline.{Headline}
use Rattle.upload_journal.specs.declared.body.BodyFile.{BodyFile}
use Rattle.upload_journal.specs.declared.body.KeptBody.{KeptBody}
use Rattle.upload_journal.specs.declared.body.KeptBody.TheVariants.{Here, InFiles}
use Rattle.upload_journal.specs.declared.entries.KeptAsk.{KeptAsk}
use Rattle.upload_journal.specs.declared.entries.KeptAsk.TheVariants as kept
use Rattle.upload_journal.specs.declared.entries.KeptExchange.{KeptExchange}
use Rattle.upload_journal.specs.declared.entries.Entry.{Entry}
use Rattle.upload_journal.specs.declared.entries.Entry.TheVariants.{Exchange as Kept, NumbersUpTo, MomentsUpTo}
use Rattle.upload_journal.specs.Short.{told_of}
use Rattle.upload_journal.specs.Restart.{NeverAfter}

-- Below, `stands n bytes` says that these bytes stand under the number n.

-- the bytes of these files, one part behind another, each of its length
abbrev pub Joins : (ℕ → List ℕ → Type 0) → List BodyFile → List ℕ → Type 0
Joins stands [] bytes = bytes ≡ []
Joins stands (file ∷ files) bytes =
    (front : List ℕ) × (rest : List ℕ) × (bytes ≡ front ++ rest) × stands file.number front × (length front ≡ file.len)
    × Joins stands files rest

-- the whole body
abbrev pub IsBodyOf : (ℕ → List ℕ → Type 0) → KeptBody → List ℕ → Type 0
IsBodyOf stands (Here body) bytes = bytes ≡ body
IsBodyOf stands (InFiles files) bytes = Joins stands files bytes

abbrev pub extent_of : Option Span → Extent
extent_of None = Absent
extent_of (Some range) = Given range

-- the request that is kept so
abbrev pub IsAskOf : (ℕ → List ℕ → Type 0) → KeptAsk → Ask → Type 0
IsAskOf stands (kept.Opening name) ask = ask ≡ asks.Opening name
IsAskOf stands (kept.Single name digest body) ask =
    (bytes : List ℕ) × IsBodyOf stands body bytes × (ask ≡ asks.Single name (Some digest) bytes)
IsAskOf stands (kept.Mount name digest source) ask = ask ≡ asks.Mount name digest source
IsAskOf stands (kept.Chunk name at range body) ask =
    (bytes : List ℕ) × IsBodyOf stands body bytes × (ask ≡ asks.Chunk name at (extent_of range) bytes)
IsAskOf stands (kept.Close name at range digest body) ask =
    (bytes : List ℕ) × IsBodyOf stands body bytes × (ask ≡ asks.Close name at (extent_of range) (Some digest) bytes)

-- The entry stands for this exchange: it has the request, with its whole body, the secret, the moment, and the answer
-- in short.
pub record IsExchangeOf (stands : ℕ → List ℕ → Type 0) (entry : KeptExchange) (x : Exchange) : Type 0 where
  pub ask : IsAskOf stands entry.ask x.ask
  pub secret : x.secret ≡ entry.secret
  pub now : x.now ≡ entry.now
  pub answer : told_of x.answer ≡ Some entry.answer

-- how far a replay has come: the service, the moment of the last exchange, and up to which moment answers may have
-- been given
pub record Point : Type 0 where
  pub state : State
  pub last : ℕ
  pub upto : ℕ

-- the numbers up to n are used up
abbrev pub used_up : ℕ → State → State
used_up n s = record s { issued = max s.issued n }

-- an exchange is one more turn, at no earlier moment than the one before
pub record Exchanged (old : Point) (x : Exchange) (new : Point) : Type 0 where
  pub turn : Turn old.state x.ask x.secret x.now x.answer new.state
  pub later : old.last ≤ x.now
  pub last : new.last ≡ x.now
  pub upto : new.upto ≡ old.upto

-- what an entry does
abbrev pub Applies : (ℕ → List ℕ → Type 0) → Point → Entry → Point → Type 0
Applies stands old (Kept entry) new = (x : Exchange) × IsExchangeOf stands entry x × Exchanged old x new
Applies stands old (NumbersUpTo n) new = new ≡ record old { state = used_up n old.state }
Applies stands old (MomentsUpTo m) new = new ≡ record old { upto = max old.upto m }

-- what entries do, one after another
abbrev pub Replays : (ℕ → List ℕ → Type 0) → Point → List Entry → Point → Type 0
Replays stands old [] new = new ≡ old
Replays stands old (entry ∷ entries) new = (mid : Point) × Applies stands old entry mid × Replays stands mid entries new

-- The exchanges that entries stand for. Numbers that are used up begin a run of their own, so there are none of these.
abbrev pub StandFor : (ℕ → List ℕ → Type 0) → List Entry → List Exchange → Type 0
StandFor stands [] xs = xs ≡ []
StandFor stands (Kept entry ∷ entries) [] = ⊥
StandFor stands (Kept entry ∷ entries) (x ∷ xs) = IsExchangeOf stands entry x × StandFor stands entries xs
StandFor stands (NumbersUpTo n ∷ entries) xs = ⊥
StandFor stands (MomentsUpTo m ∷ entries) xs = StandFor stands entries xs

-- no entry uses numbers up
abbrev pub UsesNoneUp : List Entry → Type 0
UsesNoneUp [] = Unit {0}
UsesNoneUp (Kept entry ∷ entries) = UsesNoneUp entries
UsesNoneUp (NumbersUpTo n ∷ entries) = ⊥
UsesNoneUp (MomentsUpTo m ∷ entries) = UsesNoneUp entries

-- a run of exactly what the entries stand for, at moments that don't fall, of which the headline holds
pub record IsRunOf (stands : ℕ → List ℕ → Type 0) (old : Point) (entries : List Entry) (new : Point) : Type 0 where
  pub exchanges : List Exchange
  pub stand_for : StandFor stands entries exchanges
  pub run : Run old.state exchanges new.state
  pub never_before : NeverBefore old.last exchanges
  pub headline : Headline old.state exchanges new.state
  -- the last moment is that of the last exchange, and the moments that were promised are kept
  pub never_after : NeverAfter new.last exchanges
  pub upto : old.upto ≤ new.upto
