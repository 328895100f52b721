-- What a close makes of the claims.
use Rattle.std.proofs.Common.{◌≡◌, ℕ, false, List, [], Option, Some, None, refl, sym, ◌∙◌, true≢false}
use Rattle.std.specs.Prelude.{is_some}
use Rattle.std.specs.FinMap as map
use Rattle.std.specs.FinMap.{FinMap}
use Rattle.upload_names.specs.Digest.{Digest, digest_cmp}
use Rattle.upload_service.specs.Machine.{Table}
use Rattle.upload_service.proofs.Keeping.Tables.{digests_total, digests_exact}
use Rattle.upload_claims.specs.declared.change.Stretch.{Stretch}
use Rattle.upload_claims.specs.declared.change.Change.TheVariants as changes
use Rattle.upload_claims.specs.Claims.{Upload, Claims}
use Rattle.upload_claims.specs.Fold.{closed, with_any, apply}
use Rattle.upload_claims.proofs.Checkpoint.{insert-insert}

none_of : {X : Type 0} (o : Option X) → is_some o ≡ false → o ≡ None
none_of None e = refl
none_of (Some x) e = absurd (true≢false e)

pub closes_nothing : (c : Claims) (at : List ℕ) (digest : Digest) (end : ℕ) (uploads : Table Upload)
    → uploads ≡ map.remove c.uploads at → is_some (closed (map.get c.uploads at) end) ≡ false
    → record c { uploads = uploads } ≡ apply c (changes.Closed at digest end)
closes_nothing c at digest end uploads left none =
    let is : closed (map.get c.uploads at) end ≡ None = none_of _ none in
    sym (λ i. record c { uploads = sym left i; blobs = with_any c.blobs digest (is i) })

pub closes_as : (c : Claims) (at : List ℕ) (digest : Digest) (end : ℕ) (uploads : Table Upload)
    (laid blobs : FinMap digest_cmp (List Stretch)) (bodies : List Stretch) → uploads ≡ map.remove c.uploads at
    → Some bodies ≡ closed (map.get c.uploads at) end → laid ≡ map.insert c.blobs digest []
    → blobs ≡ map.insert laid digest bodies
    → record c { uploads = uploads; blobs = blobs } ≡ apply c (changes.Closed at digest end)
closes_as c at digest end uploads laid blobs bodies left is first last =
    let over : blobs ≡ map.insert c.blobs digest bodies =
    last ∙ (λ i. map.insert (first i) digest bodies)
    ∙ insert-insert digests_total digests_exact c.blobs digest [] bodies in
    (λ i. record c { uploads = left i; blobs = over i })
    ∙ (λ i. record c { uploads = map.remove c.uploads at; blobs = with_any c.blobs digest (is i) })
