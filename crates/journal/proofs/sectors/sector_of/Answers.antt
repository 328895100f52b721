use Rattle.std.proofs.Common.{◌≡◌, ◌++◌, ◌+◌, ℕ, List, take, length, arith, length-append, rules}
use Rattle.std.proofs.lemmas.List.{take_at}
use Rattle.std.proofs.lemmas.Slice.{take-put_mid}
use borrow.Rule.Slice.PartMut.{put_mid}
use Rattle.journal.proofs.sectors.sector_of.Goals as goal

-- two parts that are written one behind the other
two_parts : (k : ℕ) (rest front back one two : List ℕ) → front ≡ one → back ≡ two
    → take (length one + length two) (put_mid (length one) k (front ++ rest) back) ≡ one ++ two
two_parts k rest front back one two is then = search (rules, arith, take-put_mid, length-append, take_at)

pub returns : goal.returns
returns c = search (rules, arith, two_parts)
