-- By which codes a proof tells the values apart.
use Rattle.std.specs.Prelude.{ℕ, List, refl}
use Rattle.std.specs.Coded.{Coded, code_by, coded×, coded_ℕ, coded_list}
use Rattle.std.specs.FinMap as map
use Rattle.std.specs.FinSet as set
use Rattle.std.specs.FinSet.{FinSet}
use Rattle.std.specs.FinMap.{FinMap}
use Rattle.std.specs.Prelude.{◌≡◌, Bool, true, false}
use Rattle.std.specs.Coded.{coded_bool}
use Rattle.upload_names.specs.Digest.{Digest, digest_cmp}
use Rattle.upload_names.specs.declared.digest.Algorithm.{Algorithm}
use Rattle.upload_names.specs.declared.digest.Algorithm.TheVariants as algorithms
use Rattle.upload_service.specs.declared.limits.Limits.{Limits}
use Rattle.upload_service.specs.Machine.{Session, Table, State, pair_cmp}

abbrev pub bytes_code : Coded (List ℕ)
bytes_code = coded_list coded_ℕ

abbrev pub session_code : Coded Session
session_code = code_by (List ℕ × (List ℕ × ℕ)) (coded× bytes_code (coded× bytes_code coded_ℕ))
    (λ s. (s.name, (s.received, s.seen))) (λ p. record { name = p.0; received = p.1.0; seen = p.1.1 }) (λ _. refl)

abbrev pub to_bool : Algorithm → Bool
to_bool algorithms.Sha256 = false
to_bool algorithms.Sha512 = true

abbrev pub from_bool : Bool → Algorithm
from_bool false = algorithms.Sha256
from_bool true = algorithms.Sha512

pub back : (a : Algorithm) → from_bool (to_bool a) ≡ a
back algorithms.Sha256 = refl
back algorithms.Sha512 = refl

abbrev pub digest_code : Coded Digest
digest_code =
    code_by (Bool × List ℕ) (coded× coded_bool bytes_code) (λ d. (to_bool d.algorithm, d.bytes))
    (λ p. record { algorithm = from_bool p.0; bytes = p.1 })
    (λ d i. record { algorithm = back d.algorithm i; bytes = d.bytes })

abbrev pub pair_code : Coded (List ℕ × Digest)
pair_code = coded× bytes_code digest_code

abbrev pub limits_code : Coded Limits
limits_code = code_by (ℕ × (ℕ × (ℕ × ℕ))) (coded× coded_ℕ (coded× coded_ℕ (coded× coded_ℕ coded_ℕ)))
    (λ l. (l.max_blob, (l.max_body, (l.max_open, l.max_idle))))
    (λ p. record { max_blob = p.0; max_body = p.1.0; max_open = p.1.1.0; max_idle = p.1.1.1 }) (λ _. refl)

abbrev pub state_code : Coded State
state_code =
    code_by (Limits × (ℕ × (Table Session × (FinMap digest_cmp (List ℕ) × FinSet pair_cmp))))
    (coded× limits_code (coded× coded_ℕ
    (coded× (map.code bytes_code session_code) (coded× (map.code digest_code bytes_code) (set.code pair_code)))))
    (λ s. (s.limits, (s.issued, (s.sessions, (s.blobs, s.pairs)))))
    (λ p. record { limits = p.0; issued = p.1.0; sessions = p.1.1.0; blobs = p.1.1.1.0; pairs = p.1.1.1.1 })
    (λ _. refl)
