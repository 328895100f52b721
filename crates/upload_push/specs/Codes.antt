-- By which code a proof tells two worlds apart.
use Rattle.std.specs.Prelude.{ℕ, List, refl}
use Rattle.std.specs.Coded.{Coded, code_by, coded×, coded_ℕ, coded_list}
use Rattle.upload_service.specs.Codes.{bytes_code, state_code}
use Rattle.upload_service.specs.Machine.{State}
use Rattle.upload_push.specs.World.{World}
use Rattle.upload_push.specs.declared.world.Event.{Event}
use Rattle.upload_push.specs.contracts.world.Event as event

abbrev pub world_code : Coded World
world_code =
    code_by (State × (List ℕ × (ℕ × List Event)))
    (coded× state_code (coded× bytes_code (coded× coded_ℕ (coded_list event.the_row.coded))))
    (λ w. (w.service, (w.secret, (w.now, w.events))))
    (λ p. record { service = p.0; secret = p.1.0; now = p.1.1.0; events = p.1.1.1 })
    (λ _. refl)
