-- What the bytes that were read say of the file.
use Rattle.std.proofs.Common.{◌≡◌, ◌≢◌, inl, inr, ℕ, ◌+◌, ◌-◌, ◌<◌, ◌≤◌, List, [], rules}
use Rattle.std.proofs.Common.{◌∷◌, ◌++◌, length, take, drop, get_or, slice_index, Option, Some, None, refl, sym, ◌∙◌}
use Rattle.std.proofs.Common.{ap, subst, arith, append_assoc, length-append, length-drop, length-take}
use Rattle.std.proofs.Common.{get_or-take, get_or-drop}
use Rattle.std.proofs.lemmas.List.{drop-drop, ext_get_or, append-nil, take_all}
use Rattle.sqlite_disk.specs.Disk.{Holds}
use Rattle.journal.specs.Format.{Kept, sector, whole, number_of, time_in, length_in, span}
use Rattle.journal.specs.Format.{records, next, staged, batches, stored, Lie}
use Rattle.journal.specs.Reads.{EndsAt, IsHead, IsNoHead, headed, FindsBatch, FindsSize, FindsStaged}
use Rattle.journal.specs.declared.head.Head.{Head}
use Rattle.std.proofs.Math.Seq.{take-add}
use Rattle.journal.specs.Machine.{Runs, RunsRecords}
use Rattle.journal.proofs.Reading.{first_found, first_short}
use Rattle.journal.proofs.Places.{take_within, held}
use Rattle.journal.proofs.Listing.{SameHead, same_head, sum_goes_on}
use Rattle.journal.proofs.Listing.{span_some, behind_there, behind_other, behind_changed, behind_short, next_open, next_shut}
use Rattle.journal.proofs.Listing.{next_none, next_short, batches_some, batches_none, lie_more, next_front}

-- a part of the bytes that stand in a file
pub part_held : (file : List ℕ) (at : ℕ) (bytes : List ℕ) (k n : ℕ) → Holds file at bytes → k + n ≤ length bytes →
    take n (drop (at + k) file) ≡ take n (drop k bytes)
part_held file at bytes k n holds fits =
    let left_is : length (take n (drop (at + k) file)) ≡ n = omega
    (arith, length-take n (drop (at + k) file), length-drop (at + k) file, holds.within) in
    let right_is : length (take n (drop k bytes)) ≡ n = omega
    (arith, length-take n (drop k bytes), length-drop k bytes) in
    ext_get_or 0 (take n (drop (at + k) file)) (take n (drop k bytes)) (left_is ∙ sym right_is) (λ i low.
    let below : i < n = omega (arith, left_is) in
    let on : at + k + i ≡ at + (k + i) = omega arith in
    get_or-take n (drop (at + k) file) i 0 below ∙ get_or-drop (at + k) file i 0 ∙ ap (λ (m : ℕ). get_or file m 0) on
    ∙ holds.each (k + i) (omega arith)
    ∙ sym (get_or-drop k bytes i 0) ∙ sym (get_or-take n (drop k bytes) i 0 below))

-- the records of a batch that ends here
module _ (file : List ℕ) (at end : ℕ) (fits : end ≤ length file) where
  region_long : length (drop at (take end file)) ≡ end - at
  region_long = omega (arith, length-drop at (take end file), length-take end file)

  pub part_tiny : end - at < 8 → FindsSize (take end file) at None
  part_tiny tiny = first_short (drop at (take end file)) (omega (arith, region_long))

  module _ (head : List ℕ) (holds : Holds file at head) (eight : length head ≡ 8) (inside : at + 8 ≤ end) where
    size_is : number_of (take 8 (drop at (take end file))) ≡ number_of head
    size_is =
        let here : at + 0 ≡ at = omega arith in
        ap number_of (take_within file at 8 end inside) ∙ ap (λ (n : ℕ). number_of (take 8 (drop n file))) (sym here)
        ∙ ap number_of (part_held file at head 0 8 holds (omega arith)) ∙ ap (λ (n : ℕ). number_of (take n head))
        (sym eight) ∙ ap number_of (take_all (length head) head (omega arith))

    pub part_past : end - (at + 8) < number_of head → FindsSize (take end file) at None
    part_past past = first_short (drop at (take end file)) (omega (arith, region_long, size_is))

    pub found_size : at + 8 + number_of head ≤ end → FindsSize (take end file) at (Some (number_of head))
    found_size whole_there =
        let region = take end file in
        let on : at + (8 + number_of head) ≡ at + 8 + number_of head = omega arith in
        first_found (drop at region) (take (number_of head) (drop (at + 8) region)) (number_of head) size_is
        (omega (arith, region_long)) (ap (λ (l : List ℕ). take (number_of head) l) (drop-drop 8 at region))
        ∙ ap (λ (l : List ℕ). Some (take (number_of head) (drop (at + 8) region), l))
        (drop-drop (8 + number_of head) at region ∙ ap (λ (n : ℕ). drop n region) on)

-- the head of a batch
module _ (file : List ℕ) (at number : ℕ) where
  behind_gate : drop sector (drop at file) ≡ drop (at + sector) file
  behind_gate = drop-drop sector at file

  pub none_near : length file - at < sector + sector → next number (drop at file) ≡ None
  none_near near = next_short number (drop at file) (omega (arith, length-drop at file))

  pub none_staged : length file - at < sector + sector → staged number (drop at file) ≡ None
  none_staged near = behind_short number (drop sector (drop at file))
      (let some = span_some (drop sector (drop at file)) in
      omega (arith, some, length-drop sector (drop at file), length-drop at file))

  gate_is : slice_index (drop at file) 0 ≡ slice_index file at
  gate_is = let here : at + 0 ≡ at = omega arith in get_or-drop at file 0 0 ∙ ap (λ (n : ℕ). slice_index file n) here

  byte_is : (gate : List ℕ) → Holds file at gate → 0 < length gate → slice_index file at ≡ slice_index gate 0
  byte_is gate holds some = search (rules, arith, slice_index)

  pub none_shut : (gate : List ℕ) → Holds file at gate → 0 < length gate → slice_index gate 0 ≢ 1 → next number
      (drop at file) ≡ None
  none_shut gate holds some shut = search (rules, arith, next_shut, byte_is, gate_is)

  pub none_number : (bytes : List ℕ) → Holds file (at + sector) bytes → length bytes ≡ 8 → number_of bytes ≢ number
      → staged number (drop at file) ≡ None
  none_number bytes holds eight other =
      let there = ap (λ (l : List ℕ). number_of (take 8 l)) behind_gate
      ∙ ap (λ (n : ℕ). number_of (take n (drop (at + sector) file))) (sym eight)
      ∙ ap number_of (held file (at + sector) bytes holds) in
      behind_other number (drop sector (drop at file)) (λ is. other (sym there ∙ is))

  module _ (head : List ℕ) (holds : Holds file (at + sector) head) (long : length head ≡ 32) where
    here : SameHead (drop sector (drop at file)) head
    here =
        let on : at + sector + 0 ≡ at + sector = omega arith in
        same_head (drop sector (drop at file)) head
        (ap (λ (l : List ℕ). take 32 l) (behind_gate ∙ ap (λ (n : ℕ). drop n file) (sym on))
        ∙ part_held file (at + sector) head 0 32 holds (omega arith))

    pub none_headed : IsNoHead number (length file - at - sector) head → staged number (drop at file) ≡ None
    none_headed (inl other) =
        behind_other number (drop sector (drop at file)) (λ is. other (sym here.number ∙ is))
    none_headed (inr (inl changed)) =
        behind_changed number (drop sector (drop at file)) (λ is. changed (sum_goes_on head (drop sector (drop at file))
        (record { number = sym here.number; time = sym here.time; len = sym here.len; sum = sym here.sum; numbers = sym here.numbers }) is))
    none_headed (inr (inr past)) =
        behind_short number (drop sector (drop at file))
        (omega (
          arith,
          past,
          ap (λ (n : ℕ). whole (32 + n)) here.len,
          length-drop sector (drop at file),
          length-drop at file,
        ))

    pub found_staged : (it : Head) → IsHead number head it → at + sector + whole (32 + it.len) ≤ length file
        → staged number (drop at file) ≡ Some (headed file at it)
    found_staged it is fits =
        let place = drop sector (drop at file) in
        let sized : length_in place ≡ it.len = here.len ∙ sym is.len_is in
        let timed : time_in place ≡ it.time = here.time ∙ sym is.time_is in
        let span_is : span place ≡ whole (32 + it.len) = ap (λ (n : ℕ). whole (32 + n)) sized in
        let inside : span place ≤ length place = omega
        (arith, span_is, length-drop sector (drop at file), length-drop at file) in
        let body : take (length_in place) (drop 32 place) ≡ take it.len (drop (at + sector + 32) file) =
        ap (λ (n : ℕ). take n (drop 32 place)) sized ∙ ap (λ (l : List ℕ). take it.len (drop 32 l)) behind_gate ∙ ap
        (λ (l : List ℕ). take it.len l) (drop-drop 32 (at + sector) file) in
        let rest : drop (span place) place ≡ drop (at + sector + whole (32 + it.len)) file =
        ap (λ (n : ℕ). drop n place) span_is ∙ ap (λ (l : List ℕ). drop (whole (32 + it.len)) l) behind_gate ∙ drop-drop
        (whole (32 + it.len)) (at + sector) file in
        behind_there number place (here.number ∙ is.number_is) (sum_goes_on place head here is.sum_is) inside
        ∙ (λ i. Some ((timed i, records (body i)), rest i))

  pub finds_open : (gate : List ℕ) → Holds file at gate → 0 < length gate → slice_index gate 0 ≡ 1
      → (found : Option Head) → FindsStaged file at number found → FindsBatch file at number found
  finds_open gate h1 h2 h3 found h4 = search (rules, arith, next_none, next_open, gate_is, byte_is)

-- a run goes on by one record, and by one batch
pub records_more : {M : Type 0} (steps : M → ℕ → List ℕ → M → Type 0) (time : ℕ) (old mid new : M)
    (done : List (List ℕ)) (bytes : List ℕ)
    → RunsRecords steps time old done mid → steps mid time bytes new → RunsRecords steps time old (done ++ bytes ∷ [])
    new
records_more {M} steps time old mid new [] bytes run step = (new, subst (λ m. steps m time bytes new) run step, refl)
records_more {M} steps time old mid new (r ∷ done) bytes run step =
    search (rules, arith, records_more steps time run.0 mid new done bytes run.2 step)

pub runs_more : {M : Type 0} (steps : M → ℕ → List ℕ → M → Type 0) (old mid new : M) (done : List Kept) (kept : Kept)
    → Runs steps old done mid → RunsRecords steps kept.0 mid kept.1 new → Runs steps old (done ++ kept ∷ []) new
runs_more {M} steps old mid new [] kept run step = search (rules, arith)
runs_more {M} steps old mid new (k ∷ done) kept run step =
    search (rules, arith, runs_more steps run.0 mid new done kept run.2 step)

-- what has been read of a file: these batches, up to here
pub record HasRead (file : List ℕ) (done : List Kept) (at : ℕ) : Type 0 where
  pub body : List ℕ
  pub front : take at file ≡ take sector file ++ body
  pub lie : Lie 0 body done
  pub all : stored file ≡ done ++ batches (length done) (drop at file)

pub read_more : (file : List ℕ) (done : List Kept) (at behind_it : ℕ) (kept : Kept) → HasRead file done at → at ≤
    behind_it → behind_it ≤ length file
    → next (length done) (drop at file) ≡ Some (kept, drop behind_it file) → HasRead file (done ++ kept ∷ []) behind_it
read_more file done at behind_it kept read from within is =
    let wide = behind_it - at in
    let on : at + wide ≡ behind_it = omega arith in
    let one_more : length (done ++ kept ∷ []) ≡ length done + 1 = length-append done (kept ∷ []) in
    let there_is = next_front (length done) (drop at file) (kept, drop behind_it file) is wide
    (omega (arith, length-drop at file, length-drop behind_it file)) in
    record {
      body = read.body ++ take wide (drop at file);
      front =
          ap (λ (n : ℕ). take n file) (sym on) ∙ take-add at wide file ∙ ap
          (λ (l : List ℕ). l ++ take wide (drop at file)) read.front
          ∙ append_assoc (take sector file) read.body (take wide (drop at file));
      lie = lie_more 0 read.body (take wide (drop at file)) done kept read.lie
          (let e : length done ≡ 0 + length done = omega arith in subst
          (λ (n : ℕ). next n (take wide (drop at file)) ≡ Some (kept, [])) e there_is);
      all =
          read.all ∙ ap (λ (l : List Kept). done ++ l)
          (batches_some (length done) (drop at file) (kept, drop behind_it file) is)
          ∙ sym (append_assoc done (kept ∷ []) (batches (length done + 1) (drop behind_it file)))
          ∙ ap (λ (n : ℕ). (done ++ kept ∷ []) ++ batches n (drop behind_it file)) (sym one_more);
    }

pub read_all : (file : List ℕ) (done : List Kept) (at count : ℕ) → HasRead file done at → count ≡ length done → at ≤
    length file → next count (drop at file) ≡ None
    → (stored file ≡ done) × EndsAt file at count
read_all file done at count read counted within none = search (rules, arith, batches_none, append-nil)
