use Rattle.std.proofs.Common.{◌++◌, ◌∷◌, [], ℕ, subst, append_assoc}
use Rattle.std.specs.Prelude.{codes}
use Rattle.http_wire.specs.Inner.Gathering.{Gathered}
use Rattle.http_wire.specs.HeadText.{length_field}
use Rattle.upload_client.specs.AskText.{section_text}
use Rattle.upload_client.proofs.ask.put_body_fields.Goals as goal

pub returns : goal.returns
returns g c = λ body len_is start before held.
    let put = c.put-2.ensures start _ (c.put_number.ensures start _ (c.put.ensures start before held)) in
    subst (λ (n : ℕ). Gathered start (g.W.ByteSink.state c.put-2.new.writer) c.put-2.new.self
    (before ++ section_text ((codes "Content-Type", codes "application/octet-stream") ∷ length_field n ∷ [])))
    len_is
    (subst (Gathered start (g.W.ByteSink.state c.put-2.new.writer) c.put-2.new.self) (simp append_assoc) put)
