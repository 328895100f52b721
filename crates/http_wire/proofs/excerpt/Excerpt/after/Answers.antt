use Rattle.std.proofs.Common.{arith, rules, ◌≡◌, ◌≤◌, ◌+◌, ◌-◌, ◌∙◌, ap, sym, take, drop, length, length-take}
use Rattle.std.proofs.lemmas.List.{drop-take, drop-drop}
use Rattle.http_wire.specs.States.{ExcerptState}
use Rattle.http_wire.proofs.excerpt.Excerpt.after.Goals as goal

pub returns-clause-told : goal.returns-clause-told
returns-clause-told c =
    let at = c.self.inside.at in
    let len = c.self.inside.len in
    let of = c.self.inside.of.now in
    let count = c.args.count in
    let told : take len (drop at of) ≡ c.args.self.told = ap (λ (e : ExcerptState). e.told) c.self.view_is in
    let most : length c.args.self.told ≤ len = search (rules, arith, length-take) in
    let all : count + (len - count) ≡ len = omega (arith, most, c.requires) in
    sym (ap (take (len - count)) (drop-drop count at of))
    ∙ sym (drop-take count (len - count) (drop at of))
    ∙ ap (λ n. drop count (take n (drop at of))) all
    ∙ ap (drop count) told
