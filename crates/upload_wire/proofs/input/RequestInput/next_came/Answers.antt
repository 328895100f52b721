use Rattle.std.proofs.Common.{subst}
use Rattle.http_wire.specs.States.{input_state}
use Rattle.upload_wire.specs.RequestText.{ReadsNext}
use Rattle.upload_wire.specs.Inner.Coming.{came_in}
use Rattle.upload_wire.proofs.RequestLemmas.{reads_after}
use Rattle.upload_wire.proofs.input.RequestInput.next_came.Goals as goal

pub returns-in-Head-clause-found : goal.returns-in-Head-clause-found
returns-in-Head-clause-found g c =
    let old = input_state c.args.self.now.held (g.S.ByteSource.state c.args.source.now) in
    let mid = input_state c.next_head.new.self.held (g.S.ByteSource.state c.next_head.new.source) in
    let new = input_state c.next_body.new.self.held (g.S.ByteSource.state c.next_body.new.source) in
    reads_after c.args.self.now.max_body old mid new (came_in c.next_body.result) c.in_ok-parsed.ensures.gave
    (subst (λ n. ReadsNext n mid new (came_in c.next_body.result))
    c.in_ok-parsed.ensures.limit c.next_body.ensures.found)
