-- Bytes of a body, moved a part at a time.
use Rattle.std.proofs.Common.{ℕ, ◌+◌, ◌<◌, List, ◌++◌, length, ap, ◌∙◌, arith, append_assoc}
use Rattle.std.proofs.Common.{length-append, rules}
use Rattle.std.specs.Prelude.{Err}
use Rattle.http_wire.specs.States.{SourceState, InputState}
use Rattle.http_wire.specs.Reading.{Gave}
use Rattle.http_wire.specs.declared.fault.BodyFault.{BodyFault}
use Rattle.http_wire.specs.declared.fault.BodyFault.TheVariants as Fault
use Rattle.http_wire.specs.Inner.BodyReading.{Moved, MovedNone, MovedNothing, MovedAll, ReadsPart, ReadsBytes}
use Rattle.http_wire.specs.Inner.BodyReading.{BodyState}
use Rattle.http_wire.proofs.GaveLemmas.{gave_as, gave_after}

pub moved_both : (a b c : BodyState) (n m : ℕ) → Moved a b n → Moved b c m → Moved a c (n + m)
moved_both a b c n m first then =
    let counted = first.counted in
    let more = then.counted in
    let gave =
    gave_after a.input b.input c.input.source first.bytes (then.bytes ++ c.input.held) first.gave then.gave in
    record {
      bytes = first.bytes ++ then.bytes;
      gave = gave_as (append_assoc first.bytes then.bytes c.input.held) gave;
      joined = then.joined ∙ ap (λ t. t ++ then.bytes) first.joined ∙ append_assoc a.body first.bytes then.bytes;
      counted = omega (arith, counted, more, length-append first.bytes then.bytes);
    }

pub none_after : (a b : BodyState) (c : SourceState) (n : ℕ) → Moved a b n → MovedNone b.input c → MovedNone a.input c
none_after a b c n first none = record {
  text = first.bytes ++ none.text;
  gave = gave_after a.input b.input c first.bytes none.text first.gave none.gave;
}

-- nothing more came behind the parts
all_moved : (a b c : BodyState) (n count : ℕ) → Moved a b n → MovedNothing b c → n < count → MovedAll a c count
all_moved a b c n count first end few = record {
  moved = n + 0;
  bytes = moved_both a b c n 0 first end.0;
  few = omega (arith, few);
  none_left = end.1;
}

-- a fault of a part, behind the parts before it
pub bytes_fault : (a b c : BodyState) (n left count : ℕ) (e : BodyFault) → Moved a b n → n < count
    → ReadsPart b c left (Err e) → ReadsBytes a c count (Err e)
bytes_fault a b c n left count Fault.Truncated first few end = (all_moved a b c n count first end.0 few, end.1)
bytes_fault a b c n left count Fault.Read first few end = all_moved a b c n count first end few
bytes_fault a b c n left count Fault.NoMemory first few none = none_after a b c.input.source n first none

-- fewer than so many bytes came
pub record StopsBefore (old : InputState) (new : SourceState) (count : ℕ) : Type 0 where
  pub text : List ℕ
  pub gave : Gave old new text
  pub short : length text < count

pub stops : (old new : BodyState) (n : ℕ) → MovedAll old new n → StopsBefore old.input new.input.source n
stops old new n m = search (rules, arith, length-append)
