-- By which code a proof tells two points of a replay apart. Nobody needs it to believe what a replay does.
use Rattle.std.specs.Prelude.{ℕ, refl}
use Rattle.std.specs.Coded.{Coded, code_by, coded×, coded_ℕ}
use Rattle.upload_service.specs.Machine.{State}
use Rattle.upload_service.specs.Codes.{state_code}
use Rattle.upload_journal.specs.Replay.{Point}

abbrev pub point_code : Coded Point
point_code =
    code_by (State × (ℕ × ℕ)) (coded× state_code (coded× coded_ℕ coded_ℕ)) (λ p. (p.state, (p.last, p.upto)))
    (λ q. record { state = q.0; last = q.1.0; upto = q.1.1 }) (λ _. refl)
