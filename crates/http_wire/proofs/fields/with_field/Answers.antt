use Rattle.std.proofs.Common.{◌≡◌, ◌∙◌, sym, ap, subst, ◌++◌, ◌∷◌, [], true, arith, rules}
use Rattle.httparse.specs.Spans.{header_bytes}
use Rattle.http_wire.specs.Fields.{same_word, values_of}
use Rattle.http_wire.specs.Inner.FieldReading.{IsOccurrence}
use Rattle.http_wire.proofs.Heads.FieldLemmas.{values_of-same, values_of-differs}
use Rattle.http_wire.proofs.fields.with_field.Goals as goal

pub returns-then-is_same_word : goal.returns-then-is_same_word
returns-then-is_same_word c = λ fields held.
    let f = header_bytes c.args.head.now c.args.header in
    let name = c.args.name.now in
    let same : same_word f.0 name ≡ true =
    ap (λ t. same_word t name) (sym c.of.ensures) ∙ sym c.if-is_same_word.ensures in
    let value = ap (λ v. values_of name fields ++ v ∷ []) (sym c.of-then-is_same_word.ensures) in
    subst (λ values. IsOccurrence values c.one_more.result)
    (sym (values_of-same name fields f same ∙ value)) (c.one_more.ensures (values_of name fields) held)

pub returns-else-is_same_word : goal.returns-else-is_same_word
returns-else-is_same_word c = search (rules, arith, values_of-differs)
