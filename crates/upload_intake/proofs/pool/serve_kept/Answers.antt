use denote.Param.Send.{sendable}
use Rattle.std.proofs.Common.{ℕ, List, ◌≤◌, sym, subst}
use Rattle.upload_service.specs.Machine.{State}
use Rattle.upload_keeper.specs.Log.{Step, exchanges_of, last_moment}
use Rattle.upload_keeper.specs.Safety.{Leads}
use Rattle.upload_intake.proofs.pool.serve_kept.Goals as goal

-- what the workers are made of may cross to their threads
pub scoped-requires : goal.scoped-requires
scoped-requires g c =
    let made = c.in-Ok.ensures in
    record {
      at = λ a. (
        made.of_one_call,
        (
          made.seats,
          (
            made.servers,
            (
              made.log,
              (
                subst (λ (y : ℕ × List Step × State). Leads (g.K.Keeping.start c.args.kept.keeping)
                    (g.K.Keeping.kept c.args.kept.keeping) (last_moment y.0 (exchanges_of y.1)) y.2)
                    (λ i. (sym made.since i, sym made.log i, sym made.service i)) c.requires.leads,
                (
                  c.requires.waiting,
                  (
                    subst (λ (y : ℕ × List Step). last_moment y.0 (exchanges_of y.1)
                        ≤ g.K.Keeping.last c.args.kept.keeping) (λ i. (sym made.since i, sym made.log i))
                        c.requires.begun,
                    (
                      c.requires.come_back,
                      (
                        (
                          search sendable depth 20,
                          search sendable depth 20,
                          search sendable depth 20,
                          search sendable depth 20,
                          search sendable depth 20,
                          search sendable depth 20,
                          search sendable depth 20,
                        ),
                        (
                          search sendable depth 20,
                          search sendable depth 20,
                          search sendable depth 20,
                          search sendable depth 20,
                          search sendable depth 20,
                          search sendable depth 20,
                          search sendable depth 20,
                        ),
                      ),
                    ),
                  ),
                ),
              ),
            ),
          ),
        ),
      );
    }
