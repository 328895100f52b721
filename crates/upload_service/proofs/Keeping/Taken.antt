-- A session whose bytes are taken out: they are put back, or it leaves.
use Rattle.std.proofs.Common.{◌≡◌, ℕ, List, Bool, true, false, Option, Some, None, refl, sym, ◌∙◌, ap, cond}
use Rattle.std.specs.Cmp.Lexicographic.{nat_list_cmp_total}
use Rattle.std.specs.FinMap as map
use Rattle.upload_service.specs.Machine.{Session, Table, same}
use Rattle.upload_service.proofs.Keeping.Swept.{keys_exact}
use Rattle.upload_service.proofs.Keeping.Tables.{eq_from_same}

pub put_back_same : (m : Table Session) (k : List ℕ) (was other : Session) → map.get m k ≡ Some was
    → map.insert (map.insert m k other) k was ≡ m
put_back_same m k was other has = map.same_map nat_list_cmp_total keys_exact _ _ (λ q.
    map.get-insert nat_list_cmp_total (map.insert m k other) k was q
    ∙ ap (cond (same q k) (Some was)) (map.get-insert nat_list_cmp_total m k other q)
    ∙ at q (same q k) refl)
  where
    at : (q : List ℕ) (b : Bool) → same q k ≡ b → cond b (Some was) (cond b (Some other) (map.get m q)) ≡ map.get m q
    at q true e = sym has ∙ ap (map.get m) (sym (eq_from_same q k e))
    at q false e = refl

pub taken_leaves : (m : Table Session) (k : List ℕ) (other : Session)
    → map.remove (map.insert m k other) k ≡ map.remove m k
taken_leaves m k other = map.same_map nat_list_cmp_total keys_exact _ _ (λ q.
    map.get-remove nat_list_cmp_total (map.insert m k other) k q
    ∙ ap (cond (same q k) None) (map.get-insert nat_list_cmp_total m k other q)
    ∙ later (same q k) (Some other) (map.get m q)
    ∙ sym (map.get-remove nat_list_cmp_total m k q))
  where
    later : (b : Bool) (y z : Option Session) → cond b None (cond b y z) ≡ cond b None z
    later true y z = refl
    later false y z = refl
