-- What a crash leaves in each step of a commit.
use Rattle.std.proofs.Common.{◌≡◌, ◌≢◌, inl, inr, ℕ, ◌+◌, ◌-◌, ◌<◌, ◌≤◌, ◌^◌, max, List, [], ◌∷◌, rules}
use Rattle.std.proofs.Common.{◌++◌, length, take, drop, slice_index, Some, None, sym, ◌∙◌, ap, subst}
use Rattle.std.proofs.Common.{arith, append_assoc, length-append, length-take, length-drop, take-append-drop}
use Rattle.std.proofs.Common.{get_or-drop, get_or-take}
use Rattle.std.proofs.lemmas.Bool.{cases_eq}
use Rattle.std.proofs.lemmas.List.{take_at, drop_at, append-nil, nil_from_length, drop-drop, drop-take}
use Rattle.std.proofs.Math.Seq.{take-add}
use Rattle.sqlite_disk.specs.Disk.{Holds, Torn, Follows}
use Rattle.journal.specs.Format.{Kept, sector, whole, number_of, number_bytes, head, number_in, time_in, length_in}
use Rattle.journal.specs.Format.{numbers, sum_of, sum_in, sum_here, span, records, behind, next, batches, stored, Lie, Rests, IsBeforeOrAfter}
use Rattle.journal.specs.Gate.{IsStaged}
use Rattle.journal.specs.Reads.{EndsAt}
use Rattle.journal.proofs.Reading.{length-number_bytes, number_of-number_bytes}
use Rattle.journal.proofs.Listing.{is_whole, there, behind_there, next_open, next_shut, batches_none, lie_more}
use Rattle.journal.proofs.Places.{same_front, same_back, held, take_within}
use Rattle.journal.proofs.Tears.{holds_still}

-- the first line, and then what stands behind it
pub behind_line : (line body rest file : List ℕ) (end : ℕ) → length line ≡ sector → take end file ≡ line ++ body →
    drop sector file ≡ body ++ drop end file
behind_line line body rest file end long front =
    ap (λ (l : List ℕ). drop sector l) (sym (take-append-drop end file) ∙ ap (λ (l : List ℕ). l ++ drop end file)
    front ∙ append_assoc line body (drop end file))
    ∙ drop_at line (body ++ drop end file) sector long

pub first_at_end : (file : List ℕ) (end : ℕ) → slice_index (drop end file) 0 ≡ slice_index file end
first_at_end file end = search (rules, arith, get_or-drop, slice_index)

-- a file at rest by its parts, and from them
pub record Parts (line : List ℕ) (all : List Kept) (end : ℕ) (file : List ℕ) : Type 0 where
  pub body : List ℕ
  pub front : take end file ≡ line ++ body
  pub line_long : length line ≡ sector
  pub lie : Lie 0 body all

pub parts : (line : List ℕ) (all : List Kept) (end len : ℕ) (file : List ℕ) → Rests line all end len file → Parts line
    all end file
parts line all end len file rests = record {
  body = drop sector (take end file);
  front =
      sym (take-append-drop sector (take end file)) ∙ ap (λ (l : List ℕ). l ++ drop sector (take end file))
      (take_within file 0 sector end rests.begins ∙ rests.front);
  line_long =
      ap length (sym rests.front) ∙ (let e : length (take sector file) ≡ sector = omega
      (arith, length-take sector file, rests.begins, rests.within, rests.there) in e);
  lie = rests.lie;
}

pub rests_of : (line : List ℕ) (all : List Kept) (end len : ℕ) (file : List ℕ) → Parts line all end file → end < len →
    len ≤ length file → slice_index file end ≢ 1 → Rests line all end len file
rests_of line all end len file p within there shut =
    grind (
      arith,
      length-append line p.body,
      length-take end file,
      drop_at line p.body sector p.line_long,
      take_within file 0 sector end,
      take_at line p.body sector p.line_long,
    )

pub stored_rests : (line : List ℕ) (all : List Kept) (end len : ℕ) (file : List ℕ) → Rests line all end len file →
    stored file ≡ all
stored_rests line all end len file rests =
    let p = parts line all end len file rests in
    let none : next (0 + length all) (drop end file) ≡ None = next_shut (0 + length all) (drop end file)
    (λ is. rests.shut (sym (first_at_end file end) ∙ is)) in
    ap (batches 0) (behind_line line p.body [] file end p.line_long p.front) ∙ p.lie (drop end file)
    ∙ ap (λ (l : List Kept). all ++ l) (batches_none (0 + length all) (drop end file) none) ∙ append-nil all

pub zero_shuts : (file : List ℕ) (gate : ℕ) → slice_index file gate ≡ 0 → slice_index file gate ≢ 1
zero_shuts file gate none is = let never : 0 ≡ 1 = sym none ∙ is in absurd (omega (arith, never))

pub first_held : (file : List ℕ) (at : ℕ) (bytes : List ℕ) → Holds file at bytes → 0 < length bytes → slice_index file
    at ≡ slice_index bytes 0
first_held file at bytes holds some = search (rules, arith, slice_index)

-- a write behind the gate leaves what the file stands for
pub still_rests : (line : List ℕ) (all : List Kept) (end len at n : ℕ) (old new : List ℕ) → end < at → Torn at n old
    new → Rests line all end len old → Rests line all end len new
still_rests line all end len at n old new past torn rests =
    let p = parts line all end len old rests in
    rests_of line all end len new (record {
      body = p.body;
      front = same_front at n old new torn end (omega arith) (omega (arith, rests.within, rests.there)) ∙ p.front;
      line_long = p.line_long;
      lie = p.lie;
    }) rests.within (omega (arith, rests.there, torn.no_shorter))
    (λ is. rests.shut (sym (torn.below end (omega (arith, rests.within, rests.there)) past) ∙ is))

pub all_rest : (line : List ℕ) (all : List Kept) (end len at n : ℕ) (old new : List ℕ → Type 0) → end < at → Follows
    (Torn at n) old new
    → ((c : List ℕ) → old c → Rests line all end len c) → (c : List ℕ) → new c → Rests line all end len c
all_rest line all end len at n old new past follows each c left =
    let from = follows c left in
    still_rests line all end len at n from.0 c past from.2 (each from.0 from.1)

pub numbers_long : (number time len : ℕ) → length (numbers number time len) ≡ 24
numbers_long number time len = simp (length-append, length-number_bytes)

pub head_long : (number time len : ℕ) → length (head number time len) ≡ 32
head_long number time len = simp (length-append, numbers_long, length-number_bytes)

sum_fits : (bytes : List ℕ) → sum_of bytes < 2 ^ 64
unfolding sum_of
sum_fits bytes = omega arith

-- the head and the records of a batch, and whatever fills their last sector
module _ (number time : ℕ) (bytes pad : List ℕ) (number_fits : number < 2 ^ 64) (time_fits : time < 2 ^ 64)
    (long : length bytes < 2 ^ 64) where
  abbrev it : List ℕ
  it = (head number time (length bytes) ++ bytes) ++ pad

  abbrev behind_head : List ℕ
  behind_head = bytes ++ pad

  eight : (n : ℕ) → length (number_bytes n) ≡ 8
  eight = length-number_bytes

  abbrev all_numbers : List ℕ
  all_numbers = numbers number time (length bytes)

  abbrev sum : ℕ
  sum = sum_of all_numbers

  -- what stands behind each of its numbers
  abbrev from_sum : List ℕ
  from_sum = number_bytes sum ++ behind_head

  abbrev from_length : List ℕ
  from_length = number_bytes (length bytes) ++ from_sum

  abbrev from_time : List ℕ
  from_time = number_bytes time ++ from_length

  in_front : it ≡ all_numbers ++ from_sum
  in_front = simp append_assoc

  split : it ≡ number_bytes number ++ from_time
  split = simp (in_front, append_assoc)

  -- a number at the front is read, and what follows it
  read_off : (at n : ℕ) (rest : List ℕ) → n < 2 ^ 64 → drop at it ≡ number_bytes n ++ rest
      → (number_of (take 8 (drop at it)) ≡ n) × (drop (at + 8) it ≡ rest)
  read_off at n rest fits is = (
    ap (λ (l : List ℕ). number_of (take 8 l)) is ∙ ap number_of (take_at (number_bytes n) rest 8 (eight n))
        ∙ number_of-number_bytes n fits,
    sym (drop-drop 8 at it) ∙ ap (λ (l : List ℕ). drop 8 l) is ∙ drop_at (number_bytes n) rest 8 (eight n),
  )

  off_number : (number_in it ≡ number) × (drop 8 it ≡ from_time)
  off_number = read_off 0 number from_time number_fits split

  off_time : (time_in it ≡ time) × (drop 16 it ≡ from_length)
  off_time = read_off 8 time from_length time_fits off_number.1

  off_length : (length_in it ≡ length bytes) × (drop 24 it ≡ from_sum)
  off_length = read_off 16 (length bytes) from_sum long off_time.1

  off_sum : (sum_in it ≡ sum) × (drop 32 it ≡ behind_head)
  off_sum = read_off 24 sum behind_head (sum_fits all_numbers) off_length.1

  sum_is : sum_in it ≡ sum_here it
  sum_is = off_sum.0 ∙ ap sum_of (sym (ap (λ (l : List ℕ). take 24 l) in_front
      ∙ take_at all_numbers from_sum 24 (numbers_long number time (length bytes))))

  body_is : take (length_in it) (drop 32 it) ≡ bytes
  body_is = ap (λ (l : List ℕ). take (length_in it) l) off_sum.1 ∙ take_at bytes pad (length_in it) (sym off_length.0)

  pub behind_written : length it ≡ whole (32 + length bytes) → behind number it ≡ Some ((time, records bytes), [])
  behind_written padded =
      let span_is : span it ≡ whole (32 + length bytes) = ap (λ (n : ℕ). whole (32 + n)) off_length.0 in
      let nothing : drop (span it) it ≡ [] = nil_from_length (drop (span it) it)
      (omega (arith, span_is, padded, length-drop (span it) it)) in
      behind_there number it off_number.0 sum_is (omega (arith, span_is, padded)) ∙
      (λ i. Some ((off_time.0 i, records (body_is i)), nothing i))

-- a batch that was written behind a gate, and then a shut gate behind it
module _ (gate number time : ℕ) (bytes first second : List ℕ) (number_fits : number < 2 ^ 64)
    (time_fits : time < 2 ^ 64) (long : length bytes < 2 ^ 64) where
  abbrev width : ℕ
  width = whole (32 + length bytes)

  abbrev after_it : ℕ
  after_it = gate + sector + width

  module _ (holds : Holds first (gate + sector) (head number time (length bytes) ++ bytes))
      (torn : Torn after_it sector first second) (fits : after_it + sector ≤ length second)
      (gate_shut : slice_index second after_it ≢ 1) where
    abbrev text : List ℕ
    text = head number time (length bytes) ++ bytes

    text_long : length text ≡ 32 + length bytes
    text_long = cc (length-append (head number time (length bytes)) bytes, head_long number time (length bytes))

    still : Holds second (gate + sector) text
    still = search (rules, arith, holds_still, is_whole, text_long)

    abbrev place : List ℕ
    place = drop (gate + sector) second

    pub headed : take 32 place ≡ head number time (length bytes)
    headed =
        sym (take_within place 0 32 (length text) (omega (arith, text_long)))
        ∙ ap (λ (l : List ℕ). take 32 l) (held second (gate + sector) text still)
        ∙ take_at (head number time (length bytes)) bytes 32 (head_long number time (length bytes))

    abbrev fills : ℕ
    fills = width - length text

    region : take width place ≡ text ++ take fills (drop (length text) place)
    region =
        let w = is_whole (32 + length bytes) in
        let sum : width ≡ length text + fills = omega (arith, text_long, w.no_less) in
        ap (λ (n : ℕ). take n place) sum ∙ take-add (length text) fills place ∙ ap
        (λ (l : List ℕ). l ++ take fills (drop (length text) place)) (held second (gate + sector) text still)

    region_long : length (take width place) ≡ width
    region_long = omega (arith, length-take width place, length-drop (gate + sector) second, fits)

    pub staged : IsStaged gate after_it number (time, records bytes) second
    staged = search (rules, arith, region, behind_written, region_long, is_whole)

-- the gate of a batch that is in its place
module _ (line : List ℕ) (old : List Kept) (gate len after_it : ℕ) (added : Kept) (file : List ℕ)
    (rests : Rests line old gate len file) (stage : IsStaged gate after_it (length old) added file) (c : List ℕ)
    (torn : Torn gate sector file c) where
  length_same : length c ≡ length file
  length_same = omega (arith, torn.no_shorter, torn.no_longer, stage.within, stage.after)

  front_same : take gate c ≡ take gate file
  front_same = same_front gate sector file c torn gate (omega arith) (omega (arith, rests.within, rests.there))

  back_same : drop (gate + sector) c ≡ drop (gate + sector) file
  back_same = same_back gate sector file c torn (omega (arith, stage.within, stage.after))

  abbrev wide : ℕ
  wide = after_it - gate

  abbrev part : List ℕ
  part = take wide (drop gate c)

  part_behind : drop sector part ≡ take (after_it - (gate + sector)) (drop (gate + sector) file)
  part_behind =
      let sum : wide ≡ sector + (after_it - (gate + sector)) = omega (arith, stage.after) in
      ap (λ (n : ℕ). drop sector (take n (drop gate c))) sum ∙ drop-take sector (after_it - (gate + sector))
      (drop gate c)
      ∙ ap (λ (l : List ℕ). take (after_it - (gate + sector)) l) (drop-drop sector gate c ∙ back_same)

  -- an open gate adds the batch
  pub if_open : slice_index c gate ≡ 1 → Rests line (old ++ added ∷ []) after_it (after_it + sector) c
  if_open open_gate =
      let sum : after_it ≡ gate + wide = omega (arith, stage.after) in
      let part_long : length part ≡ wide = omega
      (arith, length-take wide (drop gate c), length-drop gate c, length_same, stage.within, stage.after) in
      let first_is : slice_index part 0 ≡ 1 = get_or-take wide (drop gate c) 0 0 (omega (arith, stage.after)) ∙
      first_at_end c gate ∙ open_gate in
      let found : next (length old) part ≡ Some (added, []) = next_open (length old) part first_is ∙ ap
      (behind (length old)) part_behind ∙ stage.is in
      let p = parts line old gate len file rests in
      rests_of line (old ++ added ∷ []) after_it (after_it + sector) c (record {
        body = p.body ++ part;
        front =
            ap (λ (n : ℕ). take n c) sum ∙ take-add gate wide c ∙ ap (λ (l : List ℕ). l ++ part)
            (front_same ∙ p.front) ∙ append_assoc line p.body part;
        line_long = p.line_long;
        lie =
            lie_more 0 p.body part old added p.lie
            (let e : length old ≡ 0 + length old = omega arith in subst (λ (n : ℕ). next n part ≡ Some (added, [])) e
            found);
      }) (omega arith) (omega (arith, length_same, stage.within))
      (λ it. stage.shut (sym (torn.above after_it (omega (arith, stage.within)) (omega (arith, stage.after))) ∙
      it))

  -- any other gate adds nothing
  pub if_shut : slice_index c gate ≢ 1 → Rests line old gate len c
  if_shut shut =
      let p = parts line old gate len file rests in
      rests_of line old gate len c (record {
        body = p.body;
        front = front_same ∙ p.front;
        line_long = p.line_long;
        lie
            = p.lie;
      })
      rests.within (omega (arith, length_same, rests.there)) shut

  pub before_or_after : IsBeforeOrAfter old added c
  before_or_after = elim (cases_eq (slice_index c gate) 1) [
    | inl open_gate ↦ inr (stored_rests line (old ++ added ∷ []) after_it (after_it + sector) c (if_open open_gate))
    | inr shut ↦ inl (stored_rests line old gate len c (if_shut shut))
  ]

pub rests_longer : (line : List ℕ) (all : List Kept) (end len len2 : ℕ) (file : List ℕ) → Rests line all end len file
    → end < len2 → len2 ≤ length file → Rests line all end len2 file
rests_longer line all end len len2 file rests within there = search (rules, arith, there)

-- a whole commit: from a batch that lies behind its gate to what the write of the gate left
module _ (line : List ℕ) (old : List Kept) (end len count time : ℕ) (bytes items staged_file now : List ℕ)
    (rests : Rests line old end len staged_file)
    (stage : IsStaged end (end + sector + whole (32 + length bytes)) count (time, records bytes) staged_file)
    (count_is : count ≡ length old) (same : bytes ≡ items)
    (torn : Torn end sector staged_file now) where
  stage_here : IsStaged end (end + sector + whole (32 + length bytes)) (length old) (time, records items) staged_file
  stage_here = search (rules, arith)

  pub either : IsBeforeOrAfter old (time, records items) now
  either = search (rules, arith, before_or_after, stage_here)

  pub committed : slice_index now end ≡ 1 → (behind_it len2 : ℕ) → behind_it ≡ end + sector + whole
      (32 + length bytes) → len2 ≡ max len (behind_it + sector)
      → Rests line (old ++ (time, records items) ∷ []) behind_it len2 now
  committed open_gate behind_it len2 place longer =
      let done = if_open line old end len (end + sector + whole (32 + length bytes)) (time, records items) staged_file
      rests stage_here now torn open_gate in
      rests_longer line (old ++ (time, records items) ∷ []) behind_it (behind_it + sector) len2 now
      (subst (λ (n : ℕ). Rests line (old ++ (time, records items) ∷ []) n (n + sector) now) (sym place) done)
      (omega (arith, longer)) (omega (arith, longer, place, rests.there, stage.within, torn.no_shorter))

-- what the write of the gate leaves behind it
pub staged_still : (gate next number : ℕ) (kept : Kept) (old new : List ℕ) → Torn gate sector old new → IsStaged gate
    next number kept old → IsStaged gate next number kept new
staged_still gate next number kept old new torn staged = search (rules, arith, same_back)

-- the file still begins with its line
pub front_stays : (line : List ℕ) (all : List Kept) (end len at : ℕ) (old new : List ℕ) → Rests line all end len old
    → end ≤ at → Torn at sector old new → take sector new ≡ line
front_stays line all end len at old new rests past torn =
    same_front at sector old new torn sector (omega (arith, rests.begins))
    (omega (arith, rests.begins, rests.within, rests.there))
    ∙ rests.front

-- at the shut gate the batches end
pub ends_at : (line : List ℕ) (all : List Kept) (end len count : ℕ) (file : List ℕ) → Rests line all end len file
    → stored file ≡ all → count ≡ length all → EndsAt file end count
ends_at line all end len count file rests is counted = record {
  body = drop sector (take end file);
  front =
      sym (take-append-drop sector (take end file))
      ∙ ap (λ (l : List ℕ). l ++ drop sector (take end file)) (take_within file 0 sector end rests.begins);
  lie = subst (λ (l : List Kept). Lie 0 (drop sector (take end file)) l) (sym is) rests.lie;
  none = next_shut count (drop end file) (λ open_is. rests.shut (sym (first_at_end file end) ∙ open_is));
  count_is = counted ∙ ap length (sym is);
  within = omega (arith, rests.within, rests.there);
}

-- a file at rest, of what another one stands for
pub still_kept : (line : List ℕ) (all : List Kept) (end len : ℕ) (file left : List ℕ) → Rests line all end len file
    → Rests line all end len left → Rests line (stored file) end len left
still_kept line all end len file left rests there = grind (arith, stored_rests line all end len file rests)

pub kept_alone : (line : List ℕ) (all : List Kept) (end len : ℕ) (file left : List ℕ) → Rests line all end len file
    → left ≡ file → Rests line (stored file) end len left
kept_alone line all end len file left rests same =
    still_kept line all end len file left rests (subst (λ (f : List ℕ). Rests line all end len f) (sym same) rests)

pub one_more : (line : List ℕ) (old : List Kept) (added : Kept) (end len : ℕ) (file : List ℕ) {count : ℕ}
    → count ≡ length old → Rests line (old ++ added ∷ []) end len file → count + 1 ≡ length (stored file)
one_more line old added end len file counted rests =
    cc (stored_rests line (old ++ added ∷ []) end len file rests, length-append old (added ∷ []))
