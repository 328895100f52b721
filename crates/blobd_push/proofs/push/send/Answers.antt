use Rattle.std.proofs.Common.{inl, inr, refl, ap, length, subst}
use Rattle.upload_push.specs.Slices.{push_under}
use Rattle.blobd_push.specs.Dials.{dialing_of}
use Rattle.blobd_push.specs.Pushed.{IsConfirmed, IsLooked}
use Rattle.blobd_push.proofs.PushedLines.{over_them}
use Rattle.blobd_push.proofs.push.send.Goals as goal

pub returns-in-Ok-true : goal.returns-in-Ok-true
returns-in-Ok-true g c =
    let looked = c.in-Ok-true.ensures.looked in
    let mid = dialing_of g.D.Dials.history c.has_blob.new.dialer.wire c.has_blob.new.dialer.dials in
    inl (
      looked.0,
      subst (λ found. IsLooked (length c.args.file.now) looked.0 found mid) c.in-Ok-true.field-0-test looked.1,
      refl,
    )

pub returns-in-Ok-false : goal.returns-in-Ok-false
returns-in-Ok-false g c =
    let looked = c.in-Ok-false.ensures.looked in
    let p = push_under c.args.digest c.args.name.now c.args.file.now c.args.chunk 5 in
    let mid = dialing_of g.D.Dials.history c.has_blob.new.dialer.wire c.has_blob.new.dialer.dials in
    let sent = c.push_under-ended.new.transport in
    let last = dialing_of g.D.Dials.history sent.wire sent.dials in
    let after = dialing_of g.D.Dials.history c.confirmed.new.dialer.wire c.confirmed.new.dialer.dials in
    let pushed =
    over_them (λ s. s.host.now) (λ s. dialing_of g.D.Dials.history s.wire s.dials)
    (λ s ask heard t h. (h.0, ap (λ t. t.now) h.1)) {p = p} c.args.dialer.now.host.now
    (ap (λ t. t.now) c.has_blob.ensures.host) c.push_under-ended.ensures in
    inr (inl (
      looked.0,
      mid,
      last,
      c.push_under-ended.result,
      subst (λ found. IsLooked (length c.args.file.now) looked.0 found mid) c.in-Ok-false.field-0-test looked.1,
      pushed.0,
      subst
          (λ h.
          IsConfirmed h c.args.name.now c.args.digest (length c.args.file.now) last c.push_under-ended.result after
          c.confirmed.result)
          pushed.1 c.confirmed.ensures,
    ))
