-- Words that make no push, or no compaction, make no command.
use Rattle.std.proofs.Common.{◌≡◌, ℕ, List, length, Option, MatchOption, Some, None, codes, inl, inr, true, false, arith, rules}
use Rattle.std.specs.Borrow.{Bor}
use Rattle.blobd_words.specs.declared.words.Command.{Command}
use Rattle.blobd_words.specs.declared.words.Command.TheVariants.{Once, Serve, Push, Status, Compact, Help, Version}
use Rattle.blobd_words.specs.Size.{WritesSize}
use Rattle.blobd_words.specs.Words.{IsCompaction, Makes, word_at}

pub no_size : (words : List (Bor (List ℕ))) → word_at words 0 ≡ codes "push" → length words ≡ 5
    → ((size : ℕ) → ¬ (WritesSize (word_at words 4) size)) → (command : Command) → ¬ (Makes words command)
no_size words push five none Once h = let one = h.0 in omega (arith, one, five)
no_size words push five none (Serve addr None) h = let two = h.2 in omega (arith, two, five)
no_size words push five none (Serve addr (Some count)) h = let three = h.2.0 in omega (arith, three, five)
no_size words push five none (Push addr name file chunk) (word, addressed, inl few, named, filed) =
    let four = few.0 in omega (arith, four, five)
no_size words push five none (Push addr name file chunk) (word, addressed, inr sized, named, filed) = none chunk sized.1
no_size words push five none (Status path false) h = let two = h.1 in omega (arith, two, five)
no_size words push five none (Status path true) h = let three = h.1 in omega (arith, three, five)
no_size words push five none (Compact path dry keep) h = absurd (search (rules, push, h.0))
no_size words push five none Help h = let one = h.0 in omega (arith, one, five)
no_size words push five none Version h = let one = h.0 in omega (arith, one, five)

none_made : (words : List (Bor (List ℕ))) → word_at words 0 ≡ codes "compact"
    → ((command : Command) → ¬ (IsCompaction words command)) → (command : Command) → ¬ (Makes words command)
none_made words first none (Compact path dry keep) h = none (Compact path dry keep) h.1
none_made words first none Once h = absurd (search (rules, first, h.1))
none_made words first none (Serve addr count) h = absurd (search (rules, first, h.0))
none_made words first none (Push addr name file chunk) h = absurd (search (rules, first, h.0))
none_made words first none (Status path json) h = absurd (search (rules, first, h.0))
none_made words first none Help h = absurd (search (rules, first, h.1))
none_made words first none Version h = absurd (search (rules, first, h.1))

made : (words : List (Bor (List ℕ))) → word_at words 0 ≡ codes "compact" → (command : Command)
    → IsCompaction words command → Makes words command
made words first (Compact path dry keep) is = (first, is)
made words first Once is = absurd is
made words first (Serve addr count) is = absurd is
made words first (Push addr name file chunk) is = absurd is
made words first (Status path json) is = absurd is
made words first Help is = absurd is
made words first Version is = absurd is

-- words of which the first says that they make a compaction make nothing else
pub compacts : (words : List (Bor (List ℕ))) → word_at words 0 ≡ codes "compact" → (result : Option Command)
    → MatchOption result ((command : Command) → ¬ (IsCompaction words command)) (IsCompaction words)
    → MatchOption result ((command : Command) → ¬ (Makes words command)) (Makes words)
compacts words first None none = none_made words first none
compacts words first (Some command) is = made words first command is
