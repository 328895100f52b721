use Rattle.std.proofs.Common.{◌≡◌, ◌<◌, ◌≤◌, List, ℕ, length, true, false, arith, rules}
use Rattle.upload_names.specs.Name.{IsName, IsInGrammar, longest_name}
use Rattle.upload_names.specs.NamePass.{is_in_grammar}
use Rattle.upload_names.proofs.NameFacts.{is_in_grammar-true, IsInGrammar-from, is_name-true, IsUtf8-in_grammar}
use Rattle.upload_names.proofs.name.RepoName.read.Goals as goal

-- a text that fails the pass isn't of the grammar
outside : (text : List ℕ) → is_in_grammar text ≡ false → IsInGrammar text → ⊥
outside text fails g = cc (is_in_grammar-true text g)

named : (text : List ℕ) → is_in_grammar text ≡ true → length text ≤ 255 → IsName text
named text passes short = record { in_grammar = IsInGrammar-from text passes; short = short }

not_long : (text : List ℕ) → length text ≤ 255 → longest_name < length text → ⊥
not_long text short long = omega arith

pub returns-then-not-is_in_grammar-clause-not_a_name : goal.returns-then-not-is_in_grammar-clause-not_a_name
returns-then-not-is_in_grammar-clause-not_a_name c = search (rules, arith, outside)

pub returns-then-not-is_in_grammar-clause-too_long : goal.returns-then-not-is_in_grammar-clause-too_long
returns-then-not-is_in_grammar-clause-too_long c = search (rules, arith, outside)

pub returns-then-text-gt-LONGEST_NAME-clause-not_a_name : goal.returns-then-text-gt-LONGEST_NAME-clause-not_a_name
returns-then-text-gt-LONGEST_NAME-clause-not_a_name c = search (rules, arith, IsInGrammar-from)

pub returns-then-text-gt-LONGEST_NAME-clause-too_long : goal.returns-then-text-gt-LONGEST_NAME-clause-too_long
returns-then-text-gt-LONGEST_NAME-clause-too_long c = search (rules, arith, IsInGrammar-from)

-- a text of the grammar is ASCII, so this arm isn't reached
pub returns-in_default-clause-not_a_name : goal.returns-in_default-clause-not_a_name
returns-in_default-clause-not_a_name c = search (rules, arith, IsUtf8-in_grammar)

pub returns-in_default-clause-too_long : goal.returns-in_default-clause-too_long
returns-in_default-clause-too_long c = search (rules, arith, IsUtf8-in_grammar)

pub invariant_of-result : goal.invariant_of-result
invariant_of-result c = search (rules, arith, is_name-true, named)

pub returns-in-Ok-from_str-clause-named : goal.returns-in-Ok-from_str-clause-named
returns-in-Ok-from_str-clause-named c = search (rules, arith, named)

pub returns-in-Ok-from_str-clause-not_a_name : goal.returns-in-Ok-from_str-clause-not_a_name
returns-in-Ok-from_str-clause-not_a_name c = search (rules, arith, IsInGrammar-from)

pub returns-in-Ok-from_str-clause-too_long : goal.returns-in-Ok-from_str-clause-too_long
returns-in-Ok-from_str-clause-too_long c = search (rules, arith, not_long)

pub returns-in-Err-clause-not_a_name : goal.returns-in-Err-clause-not_a_name
returns-in-Err-clause-not_a_name c = search (rules, arith, IsInGrammar-from)

pub returns-in-Err-clause-too_long : goal.returns-in-Err-clause-too_long
returns-in-Err-clause-too_long c = search (rules, arith, not_long)

pub returns-in-Err-clause-no_memory : goal.returns-in-Err-clause-no_memory
returns-in-Err-clause-no_memory c _ = search (rules, arith, named)
