-- A text that is gathered before it is written.
use Rattle.std.proofs.Common.{arith, rules}
use Rattle.std.proofs.Common.{◌≡◌, ℕ, Bool, true, false, List, [], ◌++◌, append_assoc}
use Rattle.std.specs.Prelude.{Result, Ok, Err, ⊤, is_ok, is_err, OnErr}
use Rattle.std.proofs.lemmas.List.{append-nil}
use Rattle.http_wire.specs.declared.writing.WriteFault.{WriteFault}
use Rattle.http_wire.specs.States.{SinkState}
use Rattle.http_wire.specs.Writing.{Wrote}
use Rattle.http_wire.specs.Inner.Gathering.{Held, GatheredUnless, Gathered}
use Rattle.http_wire.proofs.WritingLemmas.{takes_none, wrote_more}

-- what is held is written, and more behind it
pub write_held : (start now new : SinkState) (held : Held) (text more : List ℕ) (r : Result ⊤ WriteFault)
    → held.failed ≡ false → Gathered start now held text → Wrote now new (held.bytes ++ more) r
    → Wrote start new (text ++ more) r
write_held start now new held text more r f h w = search (rules, arith, append_assoc, wrote_more)

-- a text that was written is gathered, with nothing held
pub gathered_after : (start new : SinkState) (text bytes : List ℕ) (b : Bool) (r : Result ⊤ WriteFault) → b ≡ is_err r
    → bytes ≡ [] → Wrote start new text r → GatheredUnless b start new bytes text
gathered_after start new text bytes b (Ok u) e none w = search (rules, arith, append-nil)
gathered_after start new text bytes b (Err fault) e none w = search (rules, arith)

pub given_err : {A E : Type 0} {P : Type 0} (r : Result A E) → is_ok r ≡ false → OnErr r P → P
given_err (Ok x) h p = absurd (cc)
given_err (Err e) h p = p

-- a gatherer that has nothing yet
pub gathered_none : (start : SinkState) (held : Held) → held ≡ record { bytes = []; failed = false }
    → Gathered start start held []
gathered_none start held e = search (rules, arith, takes_none)

-- once a write has failed, whatever is put behind goes nowhere
pub gathered_failed : (start now : SinkState) (held : Held) (text more : List ℕ) → held.failed ≡ true
    → Gathered start now held text → Gathered start now held (text ++ more)
gathered_failed start now held text more f h = search (rules, arith, append_assoc)
