-- Files that are read one after another, as a loop reads them.
use Rattle.std.proofs.Common.{◌≡◌, ℕ, zero, suc, ◌-◌, ◌+◌, ◌≤◌, ◌<◌, List, [], ◌∷◌, ◌++◌, Ok, Err, refl, sym, ap}
use Rattle.std.proofs.Common.{◌∙◌, append_assoc, arith, length, take, get_or, rules}
use Rattle.std.specs.List.{flat_map}
use Rattle.std.proofs.lemmas.List.{append-nil}
use Rattle.std.proofs.lemmas.List.Concat.{flat_map-cons}
use Rattle.upload_journal.specs.declared.fault.ReadError.{ReadError}
use Rattle.upload_journal.specs.declared.fault.ReadError.TheVariants as errors
use Rattle.upload_journal.specs.declared.body.BodyFile.{BodyFile}
use Rattle.upload_journal.specs.Fields.{◌>>=◌, Read, Fails, file_text, file_at, files_of}

-- the files that were read before, and those that are still to be read
abbrev pub with_front : List BodyFile → Read (List BodyFile) → Read (List BodyFile)
with_front front read = read >>= λ x. Ok (front ++ x.0, x.1)

regroup : (front : List BodyFile) (file : BodyFile) (read : Read (List BodyFile))
    → with_front front (read >>= λ x. Ok (file ∷ x.0, x.1)) ≡ with_front (front ++ file ∷ []) read
regroup front file (Ok x) = ap (λ (files : List BodyFile). Ok (files, x.1)) (simp append_assoc)
regroup front file (Err fault) = refl

pub goes_on : (front : List BodyFile) (count i : ℕ) (bytes : List ℕ) (file : BodyFile) (after : List ℕ)
    (total : Read (List BodyFile)) → i < count → file_at bytes ≡ Ok (file, after)
    → with_front front (files_of (count - i) bytes) ≡ total
    → with_front (front ++ file ∷ []) (files_of (count - (i + 1)) after) ≡ total
unfolding files_of
goes_on front count i bytes file after total lt h so_far =
    let k : count - i ≡ suc (count - (i + 1)) = omega arith in
    let one : with_front front (files_of (count - i) bytes)
    ≡ with_front (front ++ file ∷ []) (files_of (count - (i + 1)) after) =
    rw (k, h) (regroup front file (files_of (count - (i + 1)) after)) in
    sym one ∙ so_far

pub ends : (e : ReadError) (front : List BodyFile) (count i : ℕ) (bytes : List ℕ) (total : Read (List BodyFile))
    → i < count → Fails e (file_at bytes) → with_front front (files_of (count - i) bytes) ≡ total → Fails e total
unfolding files_of
ends errors.NoMemory front count i bytes total lt h so_far = tt
ends (errors.Fault fault) front count i bytes total lt h so_far =
    let k : count - i ≡ suc (count - (i + 1)) = omega arith in
    let one : with_front front (files_of (count - i) bytes) ≡ Err fault = rw (k, h) refl in
    sym so_far ∙ one

pub is_done : (front : List BodyFile) (count i : ℕ) (bytes : List ℕ) (total : Read (List BodyFile)) → count ≤ i
    → with_front front (files_of (count - i) bytes) ≡ total → total ≡ Ok (front, bytes)
unfolding files_of
is_done front count i bytes total le so_far = search (rules, arith, append-nil)

-- ---- files that are written one after another

pub texts_next : (files : List BodyFile) (i : ℕ) (d : BodyFile) → i < length files
    → flat_map file_text (take (i + 1) files) ≡ flat_map file_text (take i files) ++ file_text (get_or files i d)
texts_next [] i d lt = absurd (omega arith)
texts_next (file ∷ files) zero d lt = flat_map-cons file_text file [] ∙ append-nil (file_text file)
texts_next (file ∷ files) (suc i) d lt =
    search (rules, arith, flat_map-cons, append_assoc, texts_next files i d (omega arith))
