use Rattle.std.proofs.Common.{refl, arith, rules}
use Rattle.upload_push.proofs.Underway.{started, moved, fewer, ended, unasked, sent, within_file, step_says}
use Rattle.upload_push.specs.Slices.{push_under, IsLawfulPush}
use Rattle.upload_push.proofs.pushing.push_under.Goals as goal

pub asks-init : goal.asks-init
asks-init g c = started _ _ _ _ _ _ c.in-Ok.ensures refl c.new-pusher.ensures

pub returns-in-Done : goal.returns-in-Done
returns-in-Done g c = search (rules, arith, ended, step_says)

pub ask_once-requires : goal.ask_once-requires
ask_once-requires g c = within_file _ _ _ _ _ _ c.asks.invariant c.in-Ask.ensures.within

pub returns-in_default-ask_once : goal.returns-in_default-ask_once
returns-in_default-ask_once g c = unasked _ _ _ _ _ _ _ c.asks.invariant c.in_default-ask_once.ensures.unasked tt

pub asks-smaller : goal.asks-smaller
asks-smaller g c =
    let lawful : IsLawfulPush (push_under c.args.digest c.args.name.now c.args.file.now c.args.chunk c.args.tries) =
    record { size = c.requires.size; chunk_least = c.requires.chunk.0; chunk_most = c.requires.chunk.1 } in
    fewer _ _ _ _ _ _ _ c.in-Ok-ask_once.heard lawful c.asks.invariant c.in-Ask.ensures.step c.heard.ensures

pub asks-preserved : goal.asks-preserved
asks-preserved g c = search (rules, arith, moved, sent)
