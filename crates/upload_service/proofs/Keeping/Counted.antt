-- How many blobs the two trees hold together.
use Rattle.std.proofs.Common.{◌≡◌, ℕ, ◌+◌, suc, List, [], ◌∷◌, length, false, refl, ap, length-append, map as list_map}
use Rattle.std.specs.List.{IsDistinct, AllByRecursion}
use Rattle.std.specs.FinMap as map
use Rattle.std.specs.Map.{keys_of}
use Rattle.upload_names.specs.Digest.{Digest}
use Rattle.upload_service.specs.declared.stock.Item.{Item}
use Rattle.upload_service.specs.Machine.{same, same_digest}
use Rattle.upload_service.specs.Kept.Stock.{rows, stocked, sha256_digest, sha512_digest}
use Rattle.upload_service.proofs.Keeping.Kept.{len_distinct}
use Rattle.upload_service.proofs.Keeping.Tables.{digests_total, digests_exact}

abbrev Items : Type 0
Items = List (List ℕ × Item)

apart_512 : (k : List ℕ) (fs : Items) → AllByRecursion (λ y. same k y ≡ false) (keys_of fs)
    → AllByRecursion (λ y. same_digest (sha512_digest k) y ≡ false)
    (keys_of (list_map (λ e. (sha512_digest e.0, e.1)) fs))
apart_512 k [] h = h
apart_512 k (f ∷ fs) h = (h.0, apart_512 k fs h.1)

apart_both : (k : List ℕ) (fs : Items)
    → AllByRecursion (λ y. same_digest (sha256_digest k) y ≡ false)
    (keys_of (list_map (λ e. (sha512_digest e.0, e.1)) fs))
apart_both k [] = tt
apart_both k (f ∷ fs) = (refl, apart_both k fs)

apart_256 : (k : List ℕ) (es fs : Items) → AllByRecursion (λ y. same k y ≡ false) (keys_of es)
    → AllByRecursion (λ y. same_digest (sha256_digest k) y ≡ false) (keys_of (rows es fs))
apart_256 k [] fs h = apart_both k fs
apart_256 k (e ∷ es) fs h = (h.0, apart_256 k es fs h.1)

distinct_512 : (fs : Items) → IsDistinct same (keys_of fs)
    → IsDistinct same_digest (keys_of (list_map (λ e. (sha512_digest e.0, e.1)) fs))
unfolding IsDistinct
distinct_512 [] h = h
distinct_512 (f ∷ fs) h = (apart_512 f.0 fs h.0, distinct_512 fs h.1)

distinct_rows : (es fs : Items) → IsDistinct same (keys_of es) → IsDistinct same (keys_of fs)
    → IsDistinct same_digest (keys_of (rows es fs))
unfolding IsDistinct
distinct_rows [] fs h g = distinct_512 fs g
distinct_rows (e ∷ es) fs h g = (apart_256 e.0 es fs h.0, distinct_rows es fs h.1 g)

length_512 : (fs : Items) → length {A = Digest × Item} (list_map (λ e. (sha512_digest e.0, e.1)) fs) ≡ length fs
length_512 [] = refl
length_512 (f ∷ fs) = ap suc (length_512 fs)

length_256 : (es : Items) → length {A = Digest × Item} (list_map (λ e. (sha256_digest e.0, e.1)) es) ≡ length es
length_256 [] = refl
length_256 (e ∷ es) = ap suc (length_256 es)

length_rows : (es fs : Items) → length (rows es fs) ≡ length es + length fs
length_rows es fs = simp (length-append, list_map, length_256, length_512)

pub len_blobs : (es fs : Items) → IsDistinct same (keys_of es) → IsDistinct same (keys_of fs)
    → map.len (stocked es fs).blobs ≡ length es + length fs
len_blobs es fs h g = simp (len_distinct, digests_total, digests_exact, distinct_rows, length_rows)
