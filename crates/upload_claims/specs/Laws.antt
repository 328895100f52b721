-- What holds of the claims that are folded from a journal.
use Rattle.std.specs.Prelude.{◌≡◌, ℕ, ◌<◌, Bool, true, false, List, [], ◌∷◌, length, map as list_map, IsTrue, ◌||◌}
use Rattle.std.specs.Prelude.{Some}
use Rattle.std.specs.FinMap as map
use Rattle.upload_names.specs.Digest.{Digest}
use Rattle.upload_service.specs.declared.limits.Limits.{Limits}
use Rattle.upload_service.specs.declared.ask.Ask.{Ask}
use Rattle.upload_service.specs.declared.ask.Ask.TheVariants as asks
use Rattle.upload_service.specs.declared.answer.Answer.{Answer}
use Rattle.upload_service.specs.Machine.{State, empty_state}
use Rattle.upload_service.specs.Run.{Run}
use Rattle.upload_service.specs.Session.{is_taken, is_stored}
use Rattle.upload_claims.specs.declared.change.Place.{Place}
use Rattle.upload_claims.specs.declared.change.Stretch.{Stretch}
use Rattle.upload_claims.specs.Claims.{Claims, nothing}
use Rattle.upload_claims.specs.Fold.{fold}
use Rattle.upload_claims.specs.Noted.{Served, body_of, changes_of, journal_of}
use Rattle.upload_claims.specs.Standing.{Disk, bytes_in, state_in, AreSized}

-- a whole blob of which it is said that it is known
abbrev pub is_known : Bool → Ask → Bool
is_known known (asks.Single name digest body) = known
is_known known other = false

-- a body with bytes that was taken is at this place, unless it is such a blob's
abbrev pub IsThere : Disk → Place → Bool → Ask → Answer → Type 0
IsThere disk place known ask answer =
    IsTrue (is_taken answer || is_stored answer) → is_known known ask ≡ false → 0 < length (body_of ask)
    → disk place ≡ body_of ask

-- the blob of this digest is claimed, with just these bytes
abbrev pub HasBytes : Disk → Claims → Digest → List ℕ → Type 0
HasBytes disk c digest body =
    (bodies : List Stretch) × (map.get c.blobs digest ≡ Some bodies) × (bytes_in disk bodies ≡ body)

-- so is a blob that is known, whose digest was asked for
abbrev pub IsKnown : Disk → Claims → Bool → Ask → Type 0
IsKnown disk c known (asks.Single name (Some digest) body) = known ≡ true → HasBytes disk c digest body
IsKnown disk c known other = Unit {0}

-- all bodies of a run are where they were noted to be
abbrev pub AreThere : Disk → Limits → Claims → List Served → Type 0
AreThere disk limits c [] = Unit {0}
AreThere disk limits c (x ∷ xs) =
    IsThere disk x.place x.known x.exchange.ask x.exchange.answer × IsKnown disk c x.known x.exchange.ask
    × AreThere disk limits (fold c (changes_of limits c x)) xs

-- The claims stand for the state, and the lengths are right.
pub record StandFor (disk : Disk) (c : Claims) (s : State) : Type 0 where
  pub state : state_in disk s.limits c ≡ s
  pub sized : AreSized disk c

-- From claims that stand for a state, and so from none for a service that has used up the numbers up to one: after each
-- run of the machine, the claims that are folded from the changes of its exchanges stand for the state after it.
pub record ClaimsAreTheState : Type 0 where
  pub run : (disk : Disk) (old : State) (c : Claims) (xs : List Served) (new : State)
      → StandFor disk c old → AreThere disk old.limits c xs → Run old (list_map (λ x. x.exchange) xs) new
      → StandFor disk (fold c (journal_of old.limits c xs)) new
  pub begins : (disk : Disk) (limits : Limits) (issued : ℕ)
      → StandFor disk (record nothing { issued = issued }) (empty_state limits issued)
