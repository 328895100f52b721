use Rattle.std.proofs.Common.{◌≡◌, ◌∙◌, sym, ap, true, false, arith, rules}
use Rattle.std.specs.Prelude.{codes, ◌||◌}
use Rattle.httparse.specs.Spans.{header_bytes}
use Rattle.http_wire.specs.Fields.{same_word, lists_close}
use Rattle.http_wire.proofs.Heads.FieldLemmas.{close-same, close-differs, or-false}
use Rattle.http_wire.proofs.fields.closes_after.Goals as goal

pub returns-then-found : goal.returns-then-found
returns-then-found c = λ fields so_far.
    let f = header_bytes c.args.head.now c.args.header in
    let same : same_word f.0 (codes "connection") ≡ true =
    ap (λ t. same_word t (codes "connection")) (sym c.of.ensures) ∙ sym c.if-is_same_word.ensures in
    let found : c.args.found ≡ true = c.if-found.true in
    found ∙ ap (λ b. b || (lists_close f.1 || false)) (sym found) ∙ close-same fields f c.args.found same so_far

pub returns-else-found : goal.returns-else-found
returns-else-found c = λ fields so_far.
    let f = header_bytes c.args.head.now c.args.header in
    let same : same_word f.0 (codes "connection") ≡ true =
    ap (λ t. same_word t (codes "connection")) (sym c.of.ensures) ∙ sym c.if-is_same_word.ensures in
    let found : c.args.found ≡ false = c.if-found.false in
    c.has_close.ensures ∙ ap lists_close c.of-else-found.ensures ∙ or-false (lists_close f.1)
    ∙ ap (λ b. b || (lists_close f.1 || false)) (sym found) ∙ close-same fields f c.args.found same so_far

pub returns-else-is_same_word : goal.returns-else-is_same_word
returns-else-is_same_word c = search (rules, arith, close-differs)
