-- What comes back of a file that ends before batches that count.
use Rattle.std.proofs.lemmas.Grind.{common_steps}
use Rattle.std.proofs.Common.{◌≡◌, ℕ, ◌+◌, ◌<◌, ◌≤◌, List, [], ◌++◌, length, take, drop, slice_index, Some}
use Rattle.std.proofs.Common.{sym, ◌∙◌, ap, arith, length-take, length-drop}
use Rattle.std.proofs.lemmas.List.{drop-drop, take_all}
use Rattle.sqlite_disk.specs.Disk.{Torn}
use Rattle.journal.specs.Format.{Kept, sector, whole, number_in, sum_in, sum_here, span, next, staged, behind}
use Rattle.journal.specs.Format.{batches, stored}
use Rattle.journal.specs.Mending.{ComesBack, IsMended, head_at}
use Rattle.journal.specs.Reads.{EndsAt}
use Rattle.journal.proofs.Places.{same_front, same_back, take_within}
use Rattle.journal.proofs.Listing.{there, behind_there, same_head, sum_goes_on, next_open, batches_some, staged_less}
use Rattle.journal.proofs.Commit.{behind_line, first_at_end}

-- what stands before the end stays, and what it stands for comes first
module _ (file : List ℕ) (end count : ℕ) (begins : sector ≤ end) (ends : EndsAt file end count) (c : List ℕ)
    (torn : Torn end (sector + sector) file c) where
  front : take end c ≡ take end file
  front = same_front end (sector + sector) file c torn end (omega arith) ends.within

  line_long : length (take sector file) ≡ sector
  line_long = omega (arith, length-take sector file, ends.within)

  pub line_stays : take sector c ≡ take sector file
  line_stays =
      sym (take_within c 0 sector end begins) ∙ ap (λ (l : List ℕ). take sector l) front
      ∙ take_within file 0 sector end begins

  pub stored_first : stored c ≡ stored file ++ batches count (drop end c)
  stored_first =
      let on : 0 + length (stored file) ≡ count = omega (arith, ends.count_is) in
      ap (batches 0) (behind_line (take sector file) ends.body [] c end line_long (front ∙ ends.front))
      ∙ ends.lie (drop end c) ∙ ap (λ (n : ℕ). stored file ++ batches n (drop end c)) on

  pub mended : ComesBack end count file c → IsMended file c
  mended back = record {
    end = end;
    count = count;
    ends = ends;
    others = torn;
    back = back;
    all =
        stored_first ∙ ap (λ (l : List Kept). stored file ++ l) (batches_some count (drop end c) back.found back.is);
  }

-- a gate that is opened before a batch that was shut in
pub reopened : (old new : List ℕ) (end count : ℕ) (found : Kept × List ℕ) → staged count (drop end old) ≡ Some found
    → Torn end sector old new → slice_index new end ≡ 1 → next count (drop end new) ≡ Some found
reopened old new end count found is torn open_gate =
    grind (
      arith,
      staged_less count (drop end old) found is,
      length-drop end old,
      next_open count (drop end new) (first_at_end new end ∙ open_gate),
      first_at_end new end,
      drop-drop sector end new,
      same_back end sector old new torn,
      drop-drop sector end old,
    )

-- the head of a batch stays as its gate is opened
pub head_stays : (old new : List ℕ) (end count : ℕ) (found : Kept × List ℕ) → staged count (drop end old) ≡ Some found
    → Torn end sector old new → head_at new end ≡ head_at old end
head_stays old new end count found is torn = grind (arith, common_steps, staged_less, same_back, length-drop)

-- a batch behind its head, whatever its records are
pub behind_head : (number : ℕ) (head file : List ℕ) → (number_in head ≡ number) × (sum_in head ≡ sum_here head)
    → take 32 file ≡ head → span head ≤ length file → behind number file ≡ Some (there file)
behind_head number head file whole_head is fits =
    let same = same_head file head (is ∙ sym (take_all 32 head
    (omega (arith, ap length is, length-take 32 file)))) in
    behind_there number file (same.number ∙ whole_head.0) (sum_goes_on file head same whole_head.1)
    (omega (arith, fits, ap (λ (n : ℕ). whole (32 + n)) same.len))

-- a head that is written behind an open gate
pub headed_again : (old new : List ℕ) (end number : ℕ) (head : List ℕ)
    → (number_in head ≡ number) × (sum_in head ≡ sum_here head) → Torn (end + sector) sector old new → slice_index old end ≡ 1 → end < length old
    → take 32 (drop (end + sector) new) ≡ head → end + sector + span head ≤ length old
    → next number (drop end new) ≡ Some (there (drop (end + sector) new))
headed_again old new end number head same torn open_gate low is fits =
    next_open number (drop end new) (first_at_end new end ∙ torn.below end low (omega arith) ∙ open_gate)
    ∙ ap (behind number) (drop-drop sector end new)
    ∙ behind_head number head (drop (end + sector) new) same is
    (omega (arith, fits, torn.no_shorter, length-drop (end + sector) new))
