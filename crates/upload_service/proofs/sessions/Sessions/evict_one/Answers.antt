use Rattle.std.proofs.Common.{sym, ◌∙◌, ap}
use Rattle.std.specs.Prelude.{is_some}
use Rattle.upload_service.proofs.Keeping.Swept.{with_received, received_same}
use Rattle.upload_service.proofs.sessions.Sessions.evict_one.Goals as goal

pub returns : goal.returns
returns g c =
    received_same _ _ _ c.in-Some.session.now _ c.in-Some.ensures.value
    (((c.get_mut.follows.holds (with_received c.in-Some.session.now c.evict.new.self)).3
    (ap is_some (sym c.in-Some.ensures.value))).0) c.evict.ensures
    ∙ c.self.view_is
