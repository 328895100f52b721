use Rattle.std.proofs.Common.{◌∙◌, sym, subst, arith, take, rules}
use Rattle.std.proofs.lemmas.Result.{err_from_is_err_and}
use Rattle.http_wire.specs.Inputs.{input_of}
use Rattle.http_wire.specs.Inner.SizeLines.{StandsAt}
use Rattle.http_wire.proofs.GaveLemmas.{gave_both}
use Rattle.http_wire.proofs.Bodies.LineReadLemmas.{bounded, front_stands, front_next, line_taken, line_broken, line_cut}
use Rattle.http_wire.proofs.chunked.read_line.Goals as goal

pub line_step-requires : goal.line_step-requires
line_step-requires g c = search (rules, arith, bounded)

pub returns-in_err-byte-clause-found : goal.returns-in_err-byte-clause-found
returns-in_err-byte-clause-found g c =
    let at = c.loop-at.at in
    let text = c.byte.new.self.buffer.now in
    let stands =
    front_stands (input_of g.S.ByteSource.state c.loop-at.input) _ text at c.loop-at.state c.byte.ensures.gave
    c.loop-at.invariant.within c.loop-at.invariant.stands in
    let p = err_from_is_err_and c.from_residual.result c.from_residual.ensures.1 in
    rw (p.1, p.2)
    (line_cut _ _ text at c.loop-at.state
    (gave_both _ _ _ _ c.loop-at.invariant.gave c.in_err-byte.ensures.gave)
    c.in_err-byte.ensures.kept.0 stands)

pub returns-in-Whole-clause-found : goal.returns-in-Whole-clause-found
returns-in-Whole-clause-found g c =
    let at = c.loop-at.at in
    let text = c.byte.new.self.buffer.now in
    let stands =
    front_stands (input_of g.S.ByteSource.state c.loop-at.input) _ text at c.loop-at.state c.byte.ensures.gave
    c.loop-at.invariant.within c.loop-at.invariant.stands in
    let there = rw c.in-Some.is at c.in_ok-byte.ensures.there in
    rw (c.take.ensures.unread, c.take.ensures.taken)
    (line_taken _ _ text (take at text) at c.in-Some.byte c.in-Whole.size
    (gave_both _ _ _ _ c.loop-at.invariant.gave c.byte.ensures.gave) (front_next text at c.in-Some.byte there)
    (c.in-Whole.ensures (take at text) stands))

pub returns-in-Broken-clause-found : goal.returns-in-Broken-clause-found
returns-in-Broken-clause-found g c =
    let at = c.loop-at.at in
    let text = c.byte.new.self.buffer.now in
    let stands =
    front_stands (input_of g.S.ByteSource.state c.loop-at.input) _ text at c.loop-at.state c.byte.ensures.gave
    c.loop-at.invariant.within c.loop-at.invariant.stands in
    let there = rw c.in-Some.is at c.in_ok-byte.ensures.there in
    line_broken _ _ text at c.in-Some.byte c.loop-at.state
    (gave_both _ _ _ _ c.loop-at.invariant.gave c.byte.ensures.gave) (front_next text at c.in-Some.byte there)
    stands (c.in-Broken.ensures (take at text) stands)

pub loop-at-preserved : goal.loop-at-preserved
loop-at-preserved g c =
    let at = c.loop-at.at in
    let text = c.byte.new.self.buffer.now in
    let stands =
    front_stands (input_of g.S.ByteSource.state c.loop-at.input) _ text at c.loop-at.state c.byte.ensures.gave
    c.loop-at.invariant.within c.loop-at.invariant.stands in
    let there = rw c.in-Some.is at c.in_ok-byte.ensures.there in
    let more = there.0 in
    let costs = c.in_ok-byte.ensures.costs in
    record {
      gave = gave_both _ _ _ _ c.loop-at.invariant.gave c.byte.ensures.gave;
      within = omega (arith, more);
      stands =
          subst (λ t. StandsAt t c.in-More.next) (sym (front_next text at c.in-Some.byte there))
          (c.in-More.ensures (take at text) stands);
      reads = λ low. let before = c.loop-at.invariant.reads (omega (arith, low)) in
          let one = costs.costs.reads (omega (arith, low, before)) in omega (arith, one, before);
      same = record {
        same_source = costs.same_source ∙ c.loop-at.invariant.same.same_source;
        same_buffer = costs.same_buffer ∙ c.loop-at.invariant.same.same_buffer;
      };
      unfailed = costs.costs.unfailed (λ e. cc) ∙ c.loop-at.invariant.unfailed;
    }
