-- What a hash holds of segments that grow.
use Rattle.std.proofs.Common.{◌≡◌, ◌≤◌, ◌++◌, ◌-◌, ℕ, List, [], length, take, drop, arith, append-nil}
use Rattle.std.proofs.Common.{Option, Some, None, rules}
use Rattle.std.proofs.lemmas.List.{append_assoc, nil_from_length, take-take}
use Rattle.std.proofs.Math.Seq.{take-length}
use Rattle.upload_names.specs.declared.digest.Algorithm.{Algorithm as By}
use Rattle.upload_bytes.specs.declared.prefix_hash.PrefixHash.{PrefixHash}
use Rattle.upload_bytes.specs.declared.hashing.Hashing.{Hashing}
use Rattle.upload_bytes.specs.Hashing.{StandsBy}
use Rattle.std.specs.List.{concat}
use Rattle.upload_bytes.specs.Segments.{Parts, whole}
use Rattle.upload_bytes.specs.Prefixes.{HoldsPrefix, HoldsIfAny}
use Rattle.std.specs.Prelude.{Result, Ok, Err, IfOk}
use Rattle.std.specs.declared.io.Error.{Error}
use Rattle.upload_bytes.specs.declared.filing.PrefixFile.{PrefixFile}
use Rattle.upload_bytes.specs.Spools.{HasPrefix, HasIfAny}
use Rattle.upload_bytes.proofs.Parts.{concat-take_rest}

-- it took in all behind those that it held
pub holds_all : (by : By) (base : List ℕ) (settled : List (List ℕ)) (held : ℕ) (new : Hashing)
    → StandsBy by new ((base ++ concat (take held settled)) ++ concat (take (length settled - held) (drop held settled)))
    → HoldsPrefix by base settled (record { running = new; held = length settled })
holds_all by base settled held new rest = search (rules, arith, append_assoc, concat-take_rest, take-length)

-- and so did a file
pub has_all : (parts : List (List ℕ)) (held : ℕ) (new : Result (List ℕ) Error)
    → IfOk new
    (λ file. file ≡ concat (take held parts) ++ concat (take (length parts - held) (drop held parts)))
    → HasPrefix parts (record { file = new; held = length parts })
has_all parts held (Ok file) rest = search (rules, arith, concat-take_rest, take-length)
has_all parts held (Err error) rest = search (rules, arith)

-- a prefix of the segments is one of more of them
pub holds_of_more : (by : By) (base : List ℕ) (old new : List (List ℕ)) (hash : PrefixHash)
    → take (length old) new ≡ old → length old ≤ length new → HoldsPrefix by base old hash → HoldsPrefix by base new hash
holds_of_more by base old new hash front longer h = search (rules, arith, take-take)

-- and so it is of the parts of a body, if a hash holds some
pub any_of_more : (old new : List (List ℕ)) (hash : Option PrefixHash) → take (length old) new ≡ old
    → length old ≤ length new → HoldsIfAny hash old → HoldsIfAny hash new
any_of_more old new None front longer h = tt
any_of_more old new (Some hash) front longer (by, h) = (by, holds_of_more by [] old new hash front longer h)

-- and of a file, if there is one
pub filed_of_more : (old new : List (List ℕ)) (file : Option PrefixFile) → take (length old) new ≡ old
    → length old ≤ length new → HasIfAny file old → HasIfAny file new
filed_of_more old new None front longer h = tt
filed_of_more old new (Some file) front longer h = search (rules, arith, take-take)

-- the first body, if no segment is small, is all that stays as it is
pub settled_first : (old new : Parts) (body : List ℕ) → length (whole old) ≡ 0 → whole new ≡ whole old ++ body
    → length new.tail ≡ 0 → new.base ++ concat new.settled ≡ body
settled_first old new body none more no_tail =
    cc (append-nil (concat new.settled), nil_from_length new.tail no_tail, nil_from_length (whole old) none)
