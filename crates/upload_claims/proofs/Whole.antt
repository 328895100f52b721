-- What whole runs do to claims.
use Rattle.std.proofs.Common.{◌≡◌, ℕ, List, [], ◌∷◌, None, refl, sym, ◌∙◌, subst, map as list_map}
use Rattle.std.specs.FinMap as map
use Rattle.upload_service.specs.declared.limits.Limits.{Limits}
use Rattle.upload_service.specs.Machine.{State, empty_state}
use Rattle.upload_service.specs.Run.{Run}
use Rattle.upload_claims.specs.Claims.{Claims, nothing}
use Rattle.upload_claims.specs.Fold.{fold}
use Rattle.upload_claims.specs.Noted.{Served, changes_of, journal_of}
use Rattle.upload_claims.specs.Standing.{Disk}
use Rattle.upload_claims.specs.Laws.{AreThere, ClaimsAreTheState}
use Rattle.upload_claims.proofs.Tables.{Both}
use Rattle.upload_claims.proofs.Standing.{IsUpload, IsBlob, Agrees, stand_from_agrees, agrees_from_stand}
use Rattle.upload_claims.proofs.Folding.{fold-append}
use Rattle.upload_claims.proofs.Steps.{agrees_after}

agrees_behind : (xs : List Served) (disk : Disk) (limits : Limits) (c : Claims) (s t : State) → s.limits ≡ limits
    → Agrees disk c s → AreThere disk limits c xs → Run s (list_map (λ x. x.exchange) xs) t
    → Agrees disk (fold c (journal_of limits c xs)) t
agrees_behind [] disk limits c s t same a there e = subst (Agrees disk c) (sym e) a
agrees_behind (x ∷ xs) disk limits c s t same a (there, kept, all) (mid, turn, rest) =
    let after = agrees_after disk c s x mid a there kept turn in
    let first : Agrees disk (fold c (changes_of limits c x)) mid =
    subst (λ l. Agrees disk (fold c (changes_of l c x)) mid) same after.0 in
    subst (λ d. Agrees disk d t)
    (sym (fold-append c (changes_of limits c x) (journal_of limits (fold c (changes_of limits c x)) xs)))
    (agrees_behind xs disk limits (fold c (changes_of limits c x)) mid t (after.1 ∙ same) first all rest)

nothing_agrees : (disk : Disk) (limits : Limits) (issued : ℕ)
    → Agrees disk (record nothing { issued = issued }) (empty_state limits issued)
nothing_agrees disk limits issued = record {
  uploads =
      λ at. subst (λ o. Both (IsUpload disk) o (map.get (empty_state limits issued).sessions at))
      (sym (map.get-empty _ at)) (subst (λ p. Both (IsUpload disk) None p) (sym (map.get-empty _ at)) tt);
  blobs =
      λ digest. subst (λ o. Both (IsBlob disk) o (map.get (empty_state limits issued).blobs digest))
      (sym (map.get-empty _ digest)) (subst (λ p. Both (IsBlob disk) None p) (sym (map.get-empty _ digest)) tt);
  pairs = refl;
  issued = refl;
}

pub claims_are_the_state : ClaimsAreTheState
claims_are_the_state = record {
  run = λ disk old c xs new h there run.
      stand_from_agrees disk _ new
      (agrees_behind xs disk old.limits c old new refl (agrees_from_stand disk c old h) there run);
  begins = λ disk limits issued. stand_from_agrees disk _ _ (nothing_agrees disk limits issued);
}
