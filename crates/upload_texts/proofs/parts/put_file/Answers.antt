use Rattle.std.proofs.Common.{◌≡◌, ◌≤◌, ◌++◌, ◌+◌, ◌-◌, List, ℕ, length, take, drop, ap, sym, subst, ◌∙◌, arith}
use Rattle.std.proofs.lemmas.List.{append-nil}
use Rattle.std.specs.Prelude.{min}
use Rattle.http_wire.specs.Inner.Gathering.{Gathered}
use Rattle.upload_bytes.specs.FileReading.{FileReading}
use Rattle.upload_texts.proofs.FileTexts.{piece_length, put_next, put_whole, put_failed}
use Rattle.upload_texts.proofs.parts.put_file.Goals as goal

pub loop-at-init : goal.loop-at-init
loop-at-init g c = record {
  within = omega arith;
  whole = ap (λ (r : FileReading). r.whole) c.read-reader.ensures;
  put = λ start text h.
      subst (Gathered start (g.W.ByteSink.state c.args.writer.now) c.args.head.now) (sym (append-nil text)) h;
}

pub loop-at-preserved : goal.loop-at-preserved
loop-at-preserved g c =
    let part : List ℕ = c.args.part.now in
    let at = c.loop-at.at in
    let most : ℕ = min 1048576 (length part - at) in
    let told : c.excerpt-excerpt.result.told ≡ take most (drop at part) =
    c.excerpt-excerpt.ensures ∙ ap (λ (r : FileReading). take r.len (drop r.at r.whole)) c.read_at.ensures
    ∙ ap (λ w. take (min 1048576 (length w - at)) (drop at w)) c.loop-at.invariant.whole in
    let count : c.len-count.result ≡ most = c.len-count.ensures ∙ ap length told ∙ piece_length part at 1048576 in
    let piece : c.excerpt-excerpt.result.told ≡ take c.len-count.result (drop at part) =
    told ∙ ap (λ n. take n (drop at part)) (sym count) in
    record {
      within = omega (arith, count, c.loop-at.invariant.within);
      whole = ap (λ (r : FileReading). r.whole) c.read_at.ensures ∙ c.loop-at.invariant.whole;
      put = λ start text h.
          put_next start (g.W.ByteSink.state c.put_excerpt.new.writer) c.put_excerpt.new.self text part at c.len-count.result
          (subst (λ t. Gathered start (g.W.ByteSink.state c.put_excerpt.new.writer) c.put_excerpt.new.self ((text ++ take at part) ++ t))
          piece (c.put_excerpt.ensures start (text ++ take at part) (c.loop-at.invariant.put start text h)));
    }

pub returns : goal.returns
returns g c = λ start before h.
    put_whole start (g.W.ByteSink.state c.loop-at.writer) c.loop-at.head before c.args.part.now c.loop-at.at
    (omega (arith, c.loop-at-test.false, c.len.ensures)) (c.loop-at.invariant.put start before h)

pub returns-then-has_failed : goal.returns-then-has_failed
returns-then-has_failed g c = λ start before h.
    put_failed start (g.W.ByteSink.state c.loop-at.writer) c.loop-at.head before c.args.part.now c.loop-at.at
    (sym c.has_failed.ensures ∙ c.if-has_failed.true) (c.loop-at.invariant.put start before h)
