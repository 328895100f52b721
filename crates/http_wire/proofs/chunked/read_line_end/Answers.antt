use Rattle.std.proofs.Common.{◌≡◌, ◌∙◌, sym, ap, arith, refl, ◌++◌, ◌∷◌, [], take, drop, inr}
use Rattle.std.proofs.lemmas.List.{take-append-drop}
use Rattle.std.proofs.lemmas.Result.{err_from_is_err_and}
use Rattle.http_wire.specs.Inputs.{input_of}
use Rattle.http_wire.proofs.GaveLemmas.{gave_as, gave_both}
use Rattle.http_wire.proofs.Bodies.LineReadLemmas.{front_kept, front_next, never_second, end_broken}
use Rattle.http_wire.proofs.Bodies.LineReadLemmas.{end_cut}
use Rattle.http_wire.proofs.chunked.read_line_end.Goals as goal

pub returns-in_default-2-clause-found : goal.returns-in_default-2-clause-found
returns-in_default-2-clause-found g c =
    let old = c.byte.new.self.buffer.now in
    let text = c.byte-2.new.self.buffer.now in
    let there = rw c.in-Some.is at c.in_ok-first.ensures.there in
    let some = there.0 in
    let first : take 1 old ≡ 13 ∷ [] =
    front_next old 0 c.in-Some.first there ∙ ap (λ b. b ∷ []) c.if-first-ne13.false in
    let kept = front_kept (input_of g.S.ByteSource.state c.byte.new.self) _ text 1 c.byte-2.ensures.gave
    (omega (arith, some)) in
    let ended = rw c.in_default-2.is at c.in_ok-second.ensures.ended in (
      end_cut _ _ text (13 ∷ []) 1
          (gave_both _ _ _ _ c.byte.ensures.gave c.byte-2.ensures.gave)
          ended.0 (kept ∙ first) (inr refl),
      ended.2,
    )

pub returns-in_err-second-clause-found : goal.returns-in_err-second-clause-found
returns-in_err-second-clause-found g c =
    let old = c.byte.new.self.buffer.now in
    let text = c.byte-2.new.self.buffer.now in
    let there = rw c.in-Some.is at c.in_ok-first.ensures.there in
    let some = there.0 in
    let first : take 1 old ≡ 13 ∷ [] =
    front_next old 0 c.in-Some.first there ∙ ap (λ b. b ∷ []) c.if-first-ne13.false in
    let kept = front_kept (input_of g.S.ByteSource.state c.byte.new.self) _ text 1 c.byte-2.ensures.gave
    (omega (arith, some)) in
    let p = err_from_is_err_and c.from_residual-in_err-second.result c.from_residual-in_err-second.ensures.1 in
    rw (p.1, p.2)
    (end_cut _ _ text (13 ∷ []) 1
    (gave_both _ _ _ _ c.byte.ensures.gave c.byte-2.ensures.gave)
    c.in_err-second.ensures.kept.0 (kept ∙ first) (inr refl))

pub returns-then-second-ne10-clause-found : goal.returns-then-second-ne10-clause-found
returns-then-second-ne10-clause-found g c =
    let old = c.byte.new.self.buffer.now in
    let text = c.byte-2.new.self.buffer.now in
    let there = rw c.in-Some.is at c.in_ok-first.ensures.there in
    let some = there.0 in
    let first : take 1 old ≡ 13 ∷ [] =
    front_next old 0 c.in-Some.first there ∙ ap (λ b. b ∷ []) c.if-first-ne13.false in
    let kept = front_kept (input_of g.S.ByteSource.state c.byte.new.self) _ text 1 c.byte-2.ensures.gave
    (omega (arith, some)) in
    let next : take 2 text ≡ (13 ∷ []) ++ c.in-Some-2.second ∷ [] =
    front_next text 1 c.in-Some-2.second (rw c.in-Some-2.is at c.in_ok-second.ensures.there)
    ∙ ap (λ t. t ++ c.in-Some-2.second ∷ []) (kept ∙ first) in
    end_broken _ _ text (13 ∷ []) 1 c.in-Some-2.second
    (gave_both _ _ _ _ c.byte.ensures.gave c.byte-2.ensures.gave)
    next (inr refl) (never_second c.in-Some-2.second c.if-second-ne10.true)

pub returns-clause-found : goal.returns-clause-found
returns-clause-found g c =
    let old = c.byte.new.self.buffer.now in
    let text = c.byte-2.new.self.buffer.now in
    let there = rw c.in-Some.is at c.in_ok-first.ensures.there in
    let some = there.0 in
    let first : take 1 old ≡ 13 ∷ [] =
    front_next old 0 c.in-Some.first there ∙ ap (λ b. b ∷ []) c.if-first-ne13.false in
    let kept = front_kept (input_of g.S.ByteSource.state c.byte.new.self) _ text 1 c.byte-2.ensures.gave
    (omega (arith, some)) in
    let next : take 2 text ≡ 13 ∷ 10 ∷ [] =
    front_next text 1 c.in-Some-2.second (rw c.in-Some-2.is at c.in_ok-second.ensures.there)
    ∙ ap (λ t. t ++ c.in-Some-2.second ∷ []) (kept ∙ first)
    ∙ ap (λ b. 13 ∷ b ∷ []) c.if-second-ne10.false in
    rw (c.take.ensures.unread, c.take.ensures.taken)
    (gave_as (ap (λ t. t ++ drop 2 text) (sym next) ∙ take-append-drop 2 text)
    (gave_both _ _ _ _ c.byte.ensures.gave c.byte-2.ensures.gave))
