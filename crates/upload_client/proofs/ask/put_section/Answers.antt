use Rattle.std.proofs.Common.{sym, ap, subst, ◌++◌, inl, inr}
use Rattle.http_wire.specs.Inner.Gathering.{Gathered}
use Rattle.upload_client.specs.AskText.{message_of, section_text}
use Rattle.upload_client.proofs.ask.put_section.Goals as goal

pub returns-in-Opening : goal.returns-in-Opening
returns-in-Opening g c = λ start before held. elim c.in-Opening.is [
  | inl opening ↦ subst (λ t. Gathered start (g.W.ByteSink.state c.put.new.writer) c.put.new.self (before ++ t))
      (ap (λ a. section_text (message_of a).fields) (sym opening.1)) (c.put.ensures start before held)
  | inr mount ↦ subst (λ t. Gathered start (g.W.ByteSink.state c.put.new.writer) c.put.new.self (before ++ t))
      (ap (λ a. section_text (message_of a).fields) (sym mount.3)) (c.put.ensures start before held)
]
