use Rattle.std.proofs.Common.{inl, inr, refl, sym, ap, subst, ◌∙◌}
use Rattle.blobd_push.specs.Dials.{dialing_of}
use Rattle.blobd_push.specs.Pushed.{Look}
use Rattle.blobd_push.specs.Sights.{AreSeen}
use Rattle.blobd_push.proofs.PushedLines.{seen_so}
use Rattle.blobd_push.proofs.push.has_blob.Goals as goal

pub returns-in-Ok-clause-looked : goal.returns-in-Ok-clause-looked
returns-in-Ok-clause-looked g c =
    let asked = c.in-Ok-true.ensures.asked in
    let mid = c.has_blob.new.transport in
    let after = dialing_of g.D.Dials.history c.sight.new.self.wire c.sight.new.self.dials in
    let behind = dialing_of g.D.Dials.history mid.wire mid.dials in
    let seen =
    subst (λ t. AreSeen t.now c.args.name.now c.args.digest c.args.size behind c.in-Ok.sight after) asked.1.1
    c.in-Ok.ensures.seen in
    let start = dialing_of g.D.Dials.history c.args.dialer.now.wire c.args.dialer.now.dials in
    let found = sym c.in-Ok-true.field-0-test ∙ asked.2 in
    let look : Look c.args.dialer.now.host.now c.args.name.now c.args.digest start =
    record { heard = asked.0; behind = behind; asked = asked.1.0 } in (
      look,
      seen_so {start = start} c.args.size look c.in-Ok.sight c.is_blob.result after found c.is_blob.ensures seen,
    )

pub returns-in-Err-sight-clause-begun : goal.returns-in-Err-sight-clause-begun
returns-in-Err-sight-clause-begun g c =
    let asked = c.in-Ok-true.ensures.asked in
    let mid = c.has_blob.new.transport in
    let behind = dialing_of g.D.Dials.history mid.wire mid.dials in
    inr (
      record { heard = asked.0; behind = behind; asked = asked.1.0 },
      ap (λ s. dialing_of g.D.Dials.history s.wire s.dials) c.in-Err-sight.ensures.unasked,
    )

pub returns-in-Ok-false-clause-looked : goal.returns-in-Ok-false-clause-looked
returns-in-Ok-false-clause-looked g c =
    let asked = c.in-Ok-false.ensures.asked in
    let mid = c.has_blob.new.transport in
    let behind = dialing_of g.D.Dials.history mid.wire mid.dials in (
      record { heard = asked.0; behind = behind; asked = asked.1.0 },
      inl (sym (sym c.in-Ok-false.field-0-test ∙ asked.2), refl),
    )
