use Rattle.std.proofs.Common.{◌≡◌, arith, rules}
use Rattle.blobd_push.proofs.PushedLines.{no_name, outside, pushed, too_long}
use Rattle.blobd_push.proofs.push.push_over.Goals as goal

pub returns-in-Err-NotAName : goal.returns-in-Err-NotAName
returns-in-Err-NotAName g c = search (rules, arith, no_name, outside)

pub returns-in-Err-TooLong : goal.returns-in-Err-TooLong
returns-in-Err-TooLong g c = grind (arith, no_name, too_long)

pub returns : goal.returns
returns g c =
    let same : c.in-Ok.name ≡ c.args.job.name.now = c.in-Ok.ensures.value in
    pushed c.send-ended.ensures c.new-dialer.ensures.host same c.in-Ok.ensures.named
    c.hash_file-digest.ensures c.new-dialer.ensures.unconnected c.into_parts-dials.ensures.history
    _ _ _ c.print_end.ensures
