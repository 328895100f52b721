use Rattle.std.proofs.Common.{◌≡◌, ◌+◌, ℕ, List, drop, Option, Some, None, sym, ap, ◌∙◌}
use Rattle.std.specs.Prelude.{option_and_then, position}
use Rattle.std.proofs.lemmas.List.{take_rest}
use Rattle.upload_names.specs.ByteRange.{range_of, span_of, span_round, numeral_value, is_minus}
use Rattle.upload_names.proofs.range.ByteRange.read.Goals as goal

-- the range of a text that is cut at a place
cut_at : (text : List ℕ) (place : ℕ) (o : Option ℕ) → o ≡ position is_minus text → o ≡ Some place
    → range_of text ≡ span_round text place
unfolding range_of
cut_at text place o e f = ap (option_and_then (span_round text)) (sym e ∙ f)

not_cut : (text : List ℕ) (o : Option ℕ) → o ≡ position is_minus text → o ≡ None → range_of text ≡ None
unfolding range_of
not_cut text o e f = ap (option_and_then (span_round text)) (sym e ∙ f)

pub returns-in_err-hyphen : goal.returns-in_err-hyphen
returns-in_err-hyphen c =
    cc (not_cut c.args.text.now c.first_hyphen.result c.first_hyphen.ensures c.in_err-hyphen.was)

pub returns-in_err-first : goal.returns-in_err-first
returns-in_err-first c =
    let text = c.args.text.now in
    let place = c.in_ok-hyphen.hyphen in
    c.from_residual-in_err-first.ensures
    ∙ sym (cut_at text place c.first_hyphen.result c.first_hyphen.ensures c.in_ok-hyphen.was
    ∙ ap (λ o. span_of o (numeral_value (drop (place + 1) text))) (sym c.read_number.ensures ∙ c.in_err-first.was))

pub returns-in_err-last : goal.returns-in_err-last
returns-in_err-last c =
    let text = c.args.text.now in
    let place = c.in_ok-hyphen.hyphen in
    c.from_residual-in_err-last.ensures
    ∙ sym (cut_at text place c.first_hyphen.result c.first_hyphen.ensures c.in_ok-hyphen.was
    ∙ ap (λ o. span_of o (numeral_value (drop (place + 1) text))) (sym c.read_number.ensures ∙ c.in_ok-first.was)
    ∙ ap (λ rest. span_of (Some c.in_ok-first.first) (numeral_value rest)) (sym (take_rest text (place + 1)))
    ∙ ap (λ o. span_of (Some c.in_ok-first.first) o) (sym c.read_number-2.ensures ∙ c.in_err-last.was))

pub returns : goal.returns
returns c =
    let text = c.args.text.now in
    let place = c.in_ok-hyphen.hyphen in
    sym (cut_at text place c.first_hyphen.result c.first_hyphen.ensures c.in_ok-hyphen.was
    ∙ ap (λ o. span_of o (numeral_value (drop (place + 1) text))) (sym c.read_number.ensures ∙ c.in_ok-first.was)
    ∙ ap (λ rest. span_of (Some c.in_ok-first.first) (numeral_value rest)) (sym (take_rest text (place + 1)))
    ∙ ap (λ o. span_of (Some c.in_ok-first.first) o) (sym c.read_number-2.ensures ∙ c.in_ok-last.was))
