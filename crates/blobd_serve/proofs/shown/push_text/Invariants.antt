use Rattle.std.proofs.Common.{◌≡◌, ◌++◌, take}
use Rattle.std.specs.List.{flat_map}
use Rattle.blobd_serve.specs.Shown.{shown_byte}
use Rattle.blobd_serve.proofs.shown.push_text.Given as goal

-- the bytes so far were shown behind what the line had
abbrev pub invariant-loop-byte : goal.invariant-loop-byte
invariant-loop-byte l = l.line.items ≡ l.initial.line.items ++ flat_map shown_byte (take l.byte-index l.text)
