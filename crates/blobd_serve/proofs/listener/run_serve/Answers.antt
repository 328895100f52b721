use Rattle.std.proofs.Common.{inl, sym, ◌∙◌}
use Rattle.std.proofs.lemmas.List.{length-map}
use Rattle.blobd_serve.proofs.ServedLines.{all_new}
use Rattle.blobd_serve.proofs.listener.run_serve.Goals as goal

pub returns : goal.returns
returns g c =
    let opened = c.in-Ok.opened in
    let made = c.in-Ok.ensures in
    inl (
      opened.addr,
      _,
      _,
      length-map opened.doors.items _ ∙ sym opened.doors.ok.0 ∙ made.number,
      all_new _ opened.doors.items made.new,
      c.serve_over-status.ensures,
    )
