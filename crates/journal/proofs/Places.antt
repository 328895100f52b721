-- What a write leaves, by its parts.
use Rattle.std.proofs.Common.{◌≡◌, ℕ, ◌+◌, ◌<◌, ◌≤◌, List, length, take, drop, sym, ◌∙◌, arith, length-take}
use Rattle.std.proofs.Common.{length-drop, get_or-take, get_or-drop}
use Rattle.std.proofs.lemmas.List.{ext_get_or}
use Rattle.sqlite_disk.specs.Disk.{Holds, Torn}

module _ (at n : ℕ) (old new : List ℕ) (torn : Torn at n old new) where
  pub same_front : (end : ℕ) → end ≤ at → end ≤ length old → take end new ≡ take end old
  same_front end le within =
      ext_get_or 0 (take end new) (take end old) (omega (arith, length-take end new, length-take end old)) (λ i low.
      let below : i < end = omega (arith, length-take end new) in
      get_or-take end new i 0 below ∙ torn.below i (omega arith) (omega arith) ∙ sym (get_or-take end old i 0 below))

  pub same_back : at + n ≤ length old → drop (at + n) new ≡ drop (at + n) old
  same_back within =
      grind (
        arith,
        ext_get_or 0 (drop (at + n) new) (drop (at + n) old) (omega (arith, length-drop (at + n) new, length-drop (at + n) old)),
        length-drop (at + n) new,
        length-drop (at + n) old,
        get_or-drop (at + n) new,
        get_or-drop (at + n) old,
      )

-- what was written, in its place
pub held : (file : List ℕ) (at : ℕ) (bytes : List ℕ) → Holds file at bytes → take (length bytes) (drop at file) ≡ bytes
held file at bytes holds =
    let there = drop at file in
    let long : length (take (length bytes) there) ≡ length bytes = omega
    (arith, length-take (length bytes) there, length-drop at file) in
    ext_get_or 0 (take (length bytes) there) bytes long (λ i low.
    let below : i < length bytes = omega (arith, long) in
    get_or-take (length bytes) there i 0 below ∙ get_or-drop at file i 0 ∙ holds.each i below)

pub take_within : (file : List ℕ) (at n end : ℕ) → at + n ≤ end → take n (drop at (take end file)) ≡ take n
    (drop at file)
take_within file at n end fits =
    let same : length (take n (drop at (take end file))) ≡ length (take n (drop at file)) =
    omega (
      arith,
      length-take n (drop at (take end file)),
      length-drop at (take end file),
      length-take end file,
      length-take n (drop at file),
      length-drop at file,
    ) in
    ext_get_or 0 (take n (drop at (take end file))) (take n (drop at file)) same (λ i low.
    let below : i < n = omega (arith, length-take n (drop at (take end file))) in
    get_or-take n (drop at (take end file)) i 0 below ∙ get_or-drop at (take end file) i 0 ∙ get_or-take end file
    (at + i) 0 (omega arith)
    ∙ sym (get_or-drop at file i 0) ∙ sym (get_or-take n (drop at file) i 0 below))
