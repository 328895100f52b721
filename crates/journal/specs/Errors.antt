-- Why an error came.
use Rattle.std.specs.Prelude.{false, IsTrue, ⊤}
use Rattle.journal.specs.declared.error.Error.{Error}
use Rattle.journal.specs.declared.error.Error.TheVariants.{Closed, NotAJournal, OtherVersion, OtherParameters}
use Rattle.journal.specs.declared.error.Error.TheVariants.{TooLong, NoMemory, Disk, Machine}

-- by what each comes: the journal isn't open, the file begins otherwise, it is too long, a call of the disk failed, or
-- the machine refused a record. Want of memory has no cause that could be told.
abbrev pub Because : (closed other long disk machine : Type 0) → Error → Type 0
Because closed other long disk machine Closed = closed
Because closed other long disk machine NotAJournal = other
Because closed other long disk machine OtherVersion = other
Because closed other long disk machine OtherParameters = other
Because closed other long disk machine TooLong = long
Because closed other long disk machine NoMemory = ⊤
Because closed other long disk machine (Disk _) = disk
Because closed other long disk machine (Machine _) = machine

abbrev pub Never : Type 0
Never = IsTrue false

-- Why no batch was added, or no room made: the journal isn't open, or the file would be too long, and then nothing has
-- changed; or a call of the disk failed. There is no other cause.
abbrev pub WhyNot : (closed long disk unchanged : Type 0) → Error → Type 0
WhyNot closed long disk unchanged Closed = closed × unchanged
WhyNot closed long disk unchanged TooLong = long × unchanged
WhyNot closed long disk unchanged (Disk _) = disk
WhyNot closed long disk unchanged _ = Never

-- a call of the disk failed
abbrev pub OnlyDisk : Type 0 → Error → Type 0
OnlyDisk disk = WhyNot Never Never disk ⊤

-- a call of the disk failed, memory is short, or the machine refused a record
abbrev pub OnlyReplay : Type 0 → Type 0 → Error → Type 0
OnlyReplay disk machine = Because Never Never Never disk machine
