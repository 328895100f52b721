use Rattle.std.proofs.Common.{◌≡◌, ◌<◌, List, ℕ, length, sym, false}
use Rattle.std.proofs.Common.{arith, rules}
use Rattle.std.proofs.lemmas.List.{take_all}
use Rattle.std.specs.Prelude.{◌==◌}
use Rattle.upload_names.proofs.RangeFacts.{digits_more, value_more, numeral_value-digits, numeral_value-other}
use Rattle.upload_names.proofs.range.read_number.Goals as goal

pub loop-digit-preserved : goal.loop-digit-preserved
loop-digit-preserved c = search (rules, arith, digits_more, value_more)

pub returns-then-not-is_ascii_digit : goal.returns-then-not-is_ascii_digit
returns-then-not-is_ascii_digit c =
    cc (numeral_value-other c.args.digits.now c.loop-digit.digit-index c.loop-digit-test.true
    (sym c.if-not-is_ascii_digit.ensures.value))

-- a text that isn't empty
filled : (text : List ℕ) → false ≡ (length text == 0) → 0 < length text
filled text e = grind (arith, e)

pub returns : goal.returns
returns c = search (rules, arith, take_all, numeral_value-digits, filled)
