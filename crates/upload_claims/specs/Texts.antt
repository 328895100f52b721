-- Changes: the one text of each, and what a text is read as.
use Rattle.std.specs.Prelude.{ℕ, zero, suc, ◌<◌, ◌^◌, ◌==◌, List, [], ◌∷◌, ◌++◌, length, Result, Ok, Err, IsTrue}
use Rattle.std.specs.Prelude.{if◌then◌else◌}
use Rattle.std.specs.List.{flat_map}
use Rattle.std.specs.Int.{w32, w64, to_be_bytes}
use Rattle.upload_names.specs.NamePass.{is_name}
use Rattle.upload_names.specs.Digest.{IsDigest, digest_text}
use Rattle.upload_claims.specs.declared.fault.RecordFault.{RecordFault}
use Rattle.upload_claims.specs.declared.fault.RecordFault.TheVariants.{UnknownChange, Trailing}
use Rattle.upload_claims.specs.declared.change.Change.{Change}
use Rattle.upload_claims.specs.declared.change.Change.TheVariants.{NumbersUpTo, MomentsUpTo, LapsedBefore, Began, Took}
use Rattle.upload_claims.specs.declared.change.Change.TheVariants.{Seen, Closed, Stored, Laid, Joined, Has}
use Rattle.upload_claims.specs.Fields.{◌>>=◌, Read, both, made, byte_at, number_at, name_at, digest_at, reference_at}
use Rattle.upload_claims.specs.Fields.{stretch_at, measured, stretch_text, IsReference, IsStretch}

-- ---- texts: the kind of the change in one byte, and its fields

abbrev pub change_text : Change → List ℕ
change_text (NumbersUpTo n) = 1 ∷ to_be_bytes w32 n
change_text (MomentsUpTo m) = 2 ∷ to_be_bytes w64 m
change_text (LapsedBefore m) = 3 ∷ to_be_bytes w64 m
change_text (Began at name now) = 4 ∷ (at ++ (measured name ++ to_be_bytes w64 now))
change_text (Took at now from s) = 5 ∷ (at ++ (to_be_bytes w64 now ++ (to_be_bytes w64 from ++ stretch_text s)))
change_text (Seen at now) = 6 ∷ (at ++ to_be_bytes w64 now)
change_text (Closed at digest end) = 7 ∷ (at ++ (measured (digest_text digest) ++ to_be_bytes w64 end))
change_text (Stored digest s) = 8 ∷ (measured (digest_text digest) ++ stretch_text s)
change_text (Laid digest) = 9 ∷ measured (digest_text digest)
change_text (Joined digest from s) = 10 ∷ (measured (digest_text digest) ++ (to_be_bytes w64 from ++ stretch_text s))
change_text (Has name digest) = 11 ∷ (measured name ++ measured (digest_text digest))

-- how many there are, in one byte, and their texts one after another
abbrev pub changes_text : List Change → List ℕ
changes_text changes = length changes ∷ flat_map change_text changes

-- ---- what has a text

abbrev pub IsChange : Change → Type 0
IsChange (NumbersUpTo n) = n < 2 ^ 32
IsChange (MomentsUpTo m) = m < 2 ^ 64
IsChange (LapsedBefore m) = m < 2 ^ 64
IsChange (Began at name now) = IsReference at × (IsTrue (is_name name) × (now < 2 ^ 64))
IsChange (Took at now from s) = IsReference at × ((now < 2 ^ 64) × ((from < 2 ^ 64) × IsStretch s))
IsChange (Seen at now) = IsReference at × (now < 2 ^ 64)
IsChange (Closed at digest end) = IsReference at × (IsDigest digest × (end < 2 ^ 64))
IsChange (Stored digest s) = IsDigest digest × IsStretch s
IsChange (Laid digest) = IsDigest digest
IsChange (Joined digest from s) = IsDigest digest × ((from < 2 ^ 64) × IsStretch s)
IsChange (Has name digest) = IsTrue (is_name name) × IsDigest digest

-- ---- reading

unfoldable pub began_at : List ℕ → Read Change
began_at bytes = made (λ p. Began p.0 p.1.0 p.1.1) (both reference_at (both name_at (number_at w64))) bytes

unfoldable pub took_at : List ℕ → Read Change
took_at bytes =
    made (λ p. Took p.0 p.1.0 p.1.1.0 p.1.1.1)
    (both reference_at (both (number_at w64) (both (number_at w64) stretch_at))) bytes

unfoldable pub seen_at : List ℕ → Read Change
seen_at bytes = made (λ p. Seen p.0 p.1) (both reference_at (number_at w64)) bytes

unfoldable pub closed_at : List ℕ → Read Change
closed_at bytes = made (λ p. Closed p.0 p.1.0 p.1.1) (both reference_at (both digest_at (number_at w64))) bytes

unfoldable pub stored_at : List ℕ → Read Change
stored_at bytes = made (λ p. Stored p.0 p.1) (both digest_at stretch_at) bytes

unfoldable pub joined_at : List ℕ → Read Change
joined_at bytes = made (λ p. Joined p.0 p.1.0 p.1.1) (both digest_at (both (number_at w64) stretch_at)) bytes

unfoldable pub has_at : List ℕ → Read Change
has_at bytes = made (λ p. Has p.0 p.1) (both name_at digest_at) bytes

-- a change of this kind
unfoldable pub fields_at : ℕ → List ℕ → Read Change
fields_at kind bytes =
    if kind == 1 then made NumbersUpTo (number_at w32) bytes
    else if kind == 2 then made MomentsUpTo (number_at w64) bytes
    else if kind == 3 then made LapsedBefore (number_at w64) bytes
    else if kind == 4 then began_at bytes
    else if kind == 5 then took_at bytes
    else if kind == 6 then seen_at bytes
    else if kind == 7 then closed_at bytes
    else if kind == 8 then stored_at bytes
    else if kind == 9 then made Laid digest_at bytes
    else if kind == 10 then joined_at bytes
    else if kind == 11 then has_at bytes
    else Err UnknownChange

unfoldable pub change_at : List ℕ → Read Change
change_at bytes = do
  kind ← byte_at bytes
  fields_at kind.0 kind.1

-- so many changes, one after another
unfoldable pub changes_at : ℕ → List ℕ → Read (List Change)
changes_at zero bytes = Ok ([], bytes)
changes_at (suc n) bytes = do
  x ← change_at bytes
  xs ← changes_at n x.1
  Ok (x.0 ∷ xs.0, xs.1)

-- what a whole text is read as
unfoldable pub changes_of : List ℕ → Result (List Change) RecordFault
changes_of text = do
  count ← byte_at text
  xs ← changes_at count.0 count.1
  if length xs.1 == 0 then Ok xs.0 else Err Trailing
