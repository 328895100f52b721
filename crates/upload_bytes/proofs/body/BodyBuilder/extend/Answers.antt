use Rattle.std.proofs.Common.{◌≡◌, ◌++◌, List, ℕ, arith, rules, subst, length-append, IfSome}
use Rattle.std.specs.List.{concat}
use Rattle.std.proofs.lemmas.List.{append_assoc}
use Rattle.upload_bytes.proofs.body.BodyBuilder.extend.Goals as goal

pub invariant_of-self-in_ok-extend-2 : goal.invariant_of-self-in_ok-extend-2
invariant_of-self-in_ok-extend-2 g c =
    let before : List ℕ = concat c.self.inside.parts.items ++ c.self.inside.last in
    let all : before ++ c.args.piece.now ≡ concat c.self.inside.parts.items ++ c.extend.new.self =
    search (rules, arith, append_assoc) in
    let had : IfSome c.take-reading.result (λ bytes. bytes ≡ before) = search (rules, c.self.invariant.read) in
    record {
      holds = c.self.invariant.holds;
      has = c.self.invariant.has;
      read = subst (λ x. IfSome c.with_piece.result (λ bytes. bytes ≡ x)) all (c.with_piece.ensures before had);
      counted = search (rules, arith, length-append, all);
    }
