use Rattle.std.proofs.Common.{◌≡◌, ◌++◌, List, ℕ, arith, rules, subst, IfSome}
use Rattle.std.specs.List.{concat}
use Rattle.std.proofs.lemmas.List.{append_assoc, length-append, take-append-le}
use Rattle.std.proofs.Math.Seq.{take-length}
use Rattle.upload_bytes.proofs.Parts.{concat-push}
use Rattle.upload_bytes.proofs.Prefixes.{any_of_more, filed_of_more}
use Rattle.upload_bytes.proofs.body.BodyBuilder.roll_over.Goals as goal

pub invariant_of-self-in-Ok : goal.invariant_of-self-in-Ok
invariant_of-self-in-Ok c =
    let parts : List (List ℕ) = c.self.inside.parts.items in
    let new : List (List ℕ) = c.push.new.self.items in
    let before : List ℕ = concat parts ++ c.self.inside.last in
    let all : (before ++ c.args.front.now) ++ c.args.rest.now ≡ concat new ++ c.replace-whole.new.dest =
    search (rules, arith, concat-push, append_assoc) in
    let had : IfSome c.take-reading.result (λ bytes. bytes ≡ before) = search (rules, c.self.invariant.read) in
    record {
      holds = search (rules, arith, take-append-le, take-length, length-append, any_of_more, c.self.invariant.holds);
      has = search (rules, arith, take-append-le, take-length, length-append, filed_of_more, c.self.invariant.has);
      read =
          subst (λ x. IfSome c.with_piece-in-Ok.result (λ bytes. bytes ≡ x)) all
          (c.with_piece-in-Ok.ensures (before ++ c.args.front.now) (c.with_piece.ensures before had));
      counted = search (rules, arith, all, append_assoc);
    }

pub returns-in-Ok-push-clause-ok : goal.returns-in-Ok-push-clause-ok
returns-in-Ok-push-clause-ok c = search (rules, arith, concat-push, append_assoc)
