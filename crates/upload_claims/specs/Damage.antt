-- What a start makes of the records of a batch: the claims, and which records aren't whole.
use Rattle.std.specs.Prelude.{◌≡◌, ℕ, ◌+◌, List, [], ◌∷◌, ◌++◌, length, Some, Result, Ok, Err}
use Rattle.std.specs.List.{AllByRecursion, flat_map}
use Rattle.upload_claims.specs.declared.fault.RecordFault.{RecordFault}
use Rattle.upload_claims.specs.declared.address.Address.{Address}
use Rattle.upload_claims.specs.declared.claimed.Damage.{Damage}
use Rattle.upload_claims.specs.declared.change.Change.{Change}
use Rattle.upload_claims.specs.Texts.{changes_text}
use Rattle.upload_claims.specs.Records.{sum, record_text, IsRecord, Found, record_at, body_in, span_of, next, records_in}

-- the changes of the records that were read
abbrev pub changes_told : List (Result (List Change) RecordFault) → List Change
changes_told [] = []
changes_told (Ok changes ∷ rs) = changes ++ changes_told rs
changes_told (Err fault ∷ rs) = changes_told rs

-- the others, the first of which stands at this address
abbrev pub damages : Address → List (Result (List Change) RecordFault) → List Damage
damages a [] = []
damages a (Ok changes ∷ rs) = damages (next a) rs
damages a (Err fault ∷ rs) = record { at = a; fault = fault } ∷ damages (next a) rs

-- ---- records that are written one after another

abbrev pub Written : Type 0
Written = List Change × List ℕ

-- from this address on
abbrev pub batch_text : Address → List Written → List ℕ
batch_text a [] = []
batch_text a (w ∷ ws) = record_text a w.0 w.1 ++ batch_text (next a) ws

-- the address after them
abbrev pub behind : Address → List Written → Address
behind a [] = a
behind a (w ∷ ws) = behind (next a) ws

-- as what a record is read
abbrev pub written_as : Address → List Change → List ℕ → Found
written_as a changes body = record {
  changes = changes;
  body_at = 25 + length (changes_text changes);
  body_len = length body;
  body_sum = sum a [] body;
}

abbrev pub AreRecords : List Written → Type 0
AreRecords ws = AllByRecursion (λ w. IsRecord w.0 w.1) ws

-- a record is read at its address, whatever stands after it, and its body is what was written
pub record RecordsAreReadBack : Type 0 where
  pub found : (a : Address) (changes : List Change) (body rest : List ℕ) → IsRecord changes body
      → record_at a (record_text a changes body ++ rest) ≡ Ok (written_as a changes body)
  pub body : (a : Address) (changes : List Change) (body rest : List ℕ) → IsRecord changes body
      → body_in a (written_as a changes body) (record_text a changes body ++ rest) ≡ Ok body
  pub span : (a : Address) (changes : List Change) (body rest : List ℕ) → IsRecord changes body
      → span_of (record_text a changes body ++ rest) ≡ Some (length (record_text a changes body))

-- a batch of which one record isn't whole, which stands between these
abbrev pub broken_text : Address → List Written → List ℕ → List Written → List ℕ
broken_text a ws bytes vs = batch_text a ws ++ (bytes ++ batch_text (next (behind a ws)) vs)

-- it is none of those that are written for its place, and still tells how many bytes it has
pub record IsBroken (a : Address) (bytes rest : List ℕ) (fault : RecordFault) : Type 0 where
  pub read : record_at a (bytes ++ rest) ≡ Err fault
  pub span : span_of (bytes ++ rest) ≡ Some (length bytes)

pub record BatchesAreReadBack : Type 0 where
  -- of whole records all changes are read
  pub claims : (a : Address) (ws : List Written) → AreRecords ws
      → changes_told (records_in a (batch_text a ws)) ≡ flat_map (λ w. w.0) ws
  pub damage : (a : Address) (ws : List Written) → AreRecords ws → damages a (records_in a (batch_text a ws)) ≡ []
  -- with one that isn't whole no others are lost, and it is named
  pub claims_left : (a : Address) (ws : List Written) (bytes : List ℕ) (vs : List Written) (fault : RecordFault)
      → AreRecords ws → AreRecords vs → IsBroken (behind a ws) bytes (batch_text (next (behind a ws)) vs) fault
      → changes_told (records_in a (broken_text a ws bytes vs)) ≡ flat_map (λ w. w.0) ws ++ flat_map (λ v. v.0) vs
  pub damage_found : (a : Address) (ws : List Written) (bytes : List ℕ) (vs : List Written) (fault : RecordFault)
      → AreRecords ws → AreRecords vs → IsBroken (behind a ws) bytes (batch_text (next (behind a ws)) vs) fault
      → damages a (records_in a (broken_text a ws bytes vs)) ≡ record { at = behind a ws; fault = fault } ∷ []
