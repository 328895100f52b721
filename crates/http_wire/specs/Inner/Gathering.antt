-- A text that is gathered before it is written.
use Rattle.std.specs.Prelude.{◌≡◌, ℕ, Bool, true, false, List, ◌++◌}
use Rattle.http_wire.specs.States.{SinkState}
use Rattle.http_wire.specs.Writing.{TookAll, TookFront}

-- the bytes that were not written yet, and whether a write failed
pub record Held : Type 0 where
  pub bytes : List ℕ
  pub failed : Bool

abbrev pub GatheredUnless : Bool → SinkState → SinkState → List ℕ → List ℕ → Type 0
GatheredUnless true start now bytes text = TookFront start now text
GatheredUnless false start now bytes text = (written : List ℕ) × TookAll start now written × (text ≡ written ++ bytes)

-- Since the start the text was put: the sink took all but the bytes that are held, or a prefix of it and a write
-- failed.
abbrev pub Gathered : SinkState → SinkState → Held → List ℕ → Type 0
Gathered start now held text = GatheredUnless held.failed start now held.bytes text

-- a call put a text: it takes what was gathered before it to that with the text behind
abbrev pub Puts : SinkState → Held → SinkState → Held → List ℕ → Type 0
Puts old held new after text =
    (start : SinkState) (before : List ℕ) → Gathered start old held before → Gathered start new after (before ++ text)
