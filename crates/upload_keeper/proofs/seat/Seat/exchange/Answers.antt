use Rattle.std.proofs.Common.{sym, ap, ◌∙◌, [], ◌∷◌, ◌++◌, arith, rules}
use Rattle.crossbeam_channel.specs.Claims.{view}
use Rattle.crossbeam_channel.specs.Ends.{sends_on, receives_on}
use Rattle.upload_keeper.specs.Passes.{line_of, whats}
use Rattle.upload_keeper.proofs.SeatMoves.{answered, unanswered, one_more_sent, whats_more, told, told_none}
use Rattle.upload_keeper.proofs.seat.Seat.exchange.Goals as goal

pub invariant_of-self-in-Some : goal.invariant_of-self-in-Some
invariant_of-self-in-Some g c = search (rules, arith, answered)

pub invariant_of-self-in-None : goal.invariant_of-self-in-None
invariant_of-self-in-None g c = search (rules, arith, unanswered)

pub returns-in-Some : goal.returns-in-Some
returns-in-Some g c = (
  sym (ap (λ o. o.gone) c.self.view_is) ∙ c.if-self.false,
  told _ _ _ _ _ _ _ _ _ _ _ _ _ _ _ _ _ _ _ c.self.view_is
      (ap (λ s. line_of (sends_on s)) c.send.ensures.line)
      (ap (λ s. line_of (receives_on s)) c.take.ensures.line)
      (one_more_sent _ _ _ _ c.self.invariant _ _ _ c.in_default.ensures.sent)
      (ap (λ v. whats v.taken) c.in-Some.ensures.taken.0 ∙ whats_more _ _
      ∙ ap (λ a. whats (view c.self.inside.place.replies.pass).taken ++ a ∷ []) (sym c.into_answer.ensures))
      (ap (λ o. o.gone) c.self.view_is)
      c.in_default.ensures.closing
      c.in-Some.ensures.closing,
)

pub returns-in-None : goal.returns-in-None
returns-in-None g c = (
  sym (ap (λ o. o.gone) c.self.view_is) ∙ c.if-self.false,
  told_none _ _ _ _ _ _ _ _ _ _ _ _ _ _ _ _ c.self.view_is
      (ap (λ s. line_of (sends_on s)) c.send.ensures.line)
      (ap (λ s. line_of (receives_on s)) c.take.ensures.line)
      (one_more_sent _ _ _ _ c.self.invariant _ _ _ c.in_default.ensures.sent)
      (ap (λ v. whats v.taken) c.in-None.ensures.taken)
      c.in_default.ensures.closing
      c.in-None.ensures.closing,
)
