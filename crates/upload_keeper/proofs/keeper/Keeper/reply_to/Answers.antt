use Rattle.std.proofs.Common.{sym, subst, refl, arith, rules}
use Rattle.std.proofs.Math.Seq.{map-set_same}
use Rattle.crossbeam_channel.specs.Claims.{view}
use Rattle.upload_keeper.specs.Kept.{KeepsSeat, outlet_of}
use Rattle.upload_keeper.specs.Log.{steps_of}
use Rattle.upload_keeper.specs.Safety.{Follows}
use Rattle.upload_keeper.specs.Served.{KeeperState}
use Rattle.upload_keeper.proofs.KeeperMoves.{sent_seat}
use Rattle.upload_keeper.proofs.Safely.{held_may_be_heard}
use Rattle.upload_keeper.proofs.keeper.Keeper.reply_to.Goals as goal

pub reply_held-requires-clause-kept : goal.reply_held-requires-clause-kept
reply_held-requires-clause-kept g c =
    let K = g.K.Keeping in
    let at = c.args.keeping.now in
    let books = c.self.inside.books in
    let f =
    subst (λ (k : KeeperState). Follows (K.start at) (K.kept at) (K.upto at) k) (sym c.self.view_is)
    c.requires in
    let kept =
    subst (λ y. KeepsSeat c.args.seat (steps_of books.log) (view books.jobs.pass) y) (sym c.index_mut.ensures.value)
    (c.self.invariant.each c.args.seat c.index_mut.result.now
    (omega (arith, c.len.ensures, c.if-seat-len.false, books.lines.ok.0))) in
    λ up alone. held_may_be_heard c.headline_holds.ensures c.args.seat (K.start at) (K.kept at) (K.upto at) _ f
    (outlet_of c.index_mut.result.now) kept.replied up alone

pub invariant_of-self : goal.invariant_of-self
invariant_of-self g c =
    sent_seat _ _ _ c.self.invariant c.args.seat
    (omega (arith, c.len.ensures, c.if-seat-len.false, c.self.inside.books.lines.ok.0)) _ _ c.index_mut.ensures.value
    c.reply_held.ensures.sent c.reply_held.ensures.done _ refl

pub returns : goal.returns
returns g c = search (rules, arith, map-set_same)
