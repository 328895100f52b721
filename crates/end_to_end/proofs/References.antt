-- A reference that was read has sixteen bytes, so the place that a push has heard does.
use Rattle.std.proofs.Common.{◌≡◌, ℕ, ◌<◌, ◌==◌, true, List, [], ◌∷◌, length, arith, rules}
use Rattle.std.proofs.Common.{take, drop, Option, Some, None}
use Rattle.std.specs.Prelude.{◌&&◌, option_and_then, slice_index}
use Rattle.std.specs.List.{list_all}
use Rattle.std.proofs.lemmas.Bool.{and_parts, eqb-true}
use Rattle.std.proofs.lemmas.Bool.Decides.{nat_tests}
use Rattle.std.proofs.lemmas.List.Sums.{AllPass-from_list_all}
use Rattle.std.proofs.lemmas.Option.{none-some}
use Rattle.uuid.specs.Text.{by_index, byte_of_digits, close_brace, has_urn_prefix, is_hex_digit}
use Rattle.uuid.specs.Text.{open_brace, parsed_braced, parsed_hyphenated, parsed_simple, parsed_urn, value_of}
use Rattle.uuid.proofs.TextLemmas.{by_index_at, by_index_length}
use Rattle.upload_names.specs.Reference.{reference_of}
use Rattle.upload_client.specs.Heard.{after_front, place_in}
use Rattle.upload_client.specs.declared.heard.Heard.{Heard}
use Rattle.upload_texts.specs.Paths.{upload_path}
use Rattle.upload_push.specs.Slices.{Attempt, heard_place, place_after}
use Rattle.upload_push.specs.Steps.{place_of}
use Rattle.upload_push.proofs.Cases.{cond_case}
use Rattle.upload_push.proofs.Turns.{same_inside}
use Rattle.wire_laws.specs.WrittenAsks.{IsReference}

-- whatever was read has sixteen bytes
abbrev IsRead : Option (List ℕ) → Type 0
IsRead read = (at : List ℕ) → read ≡ Some at → IsReference at

nothing_read : IsRead None
nothing_read at is = absurd (none-some at is)

digit_small : (c : ℕ) → is_hex_digit c ≡ true → value_of c < 16
digit_small c is = grind (arith, nat_tests)

digit_at : (hex : List ℕ) → length hex ≡ 32 → list_all is_hex_digit hex ≡ true → (k : ℕ) → k < 32
    → value_of (slice_index hex k) < 16
digit_at hex long all k within = search (rules, arith, digit_small, AllPass-from_list_all)

bytes_read : (hex : List ℕ) → length hex ≡ 32 → list_all is_hex_digit hex ≡ true
    → IsReference (by_index 16 (byte_of_digits hex))
bytes_read hex long all =
    omega (arith, by_index_length 16 (byte_of_digits hex), digit_at hex long all, by_index_at 16 (byte_of_digits hex))

simple_read : (hex : List ℕ) → IsRead (parsed_simple hex)
simple_read hex = search (rules, arith, cond_case, and_parts, same_inside, bytes_read, eqb-true, nothing_read)

hyphenated_read : (s : List ℕ) → IsRead (parsed_hyphenated s)
hyphenated_read s = search (rules, arith, cond_case, simple_read, nothing_read)

braced_read : (s : List ℕ) → IsRead (parsed_braced s)
braced_read s =
    cond_case IsRead ((length s == 38) && (slice_index s 0 == open_brace) && (slice_index s 37 == close_brace))
    (parsed_hyphenated (take 36 (drop 1 s))) None
    (λ both. hyphenated_read (take 36 (drop 1 s))) (λ not. nothing_read)

urn_read : (s : List ℕ) → IsRead (parsed_urn s)
urn_read s =
    cond_case IsRead ((length s == 45) && has_urn_prefix s) (parsed_hyphenated (drop 9 s)) None
    (λ both. hyphenated_read (drop 9 s)) (λ not. nothing_read)

reference_read : (s : List ℕ) → IsRead (reference_of s)
unfolding reference_of
reference_read s =
    cond_case IsRead (length s == 32) (parsed_simple s) _ (λ a. simple_read s)
    (λ a. cond_case IsRead (length s == 36) (parsed_hyphenated s) _ (λ b. hyphenated_read s)
    (λ b. cond_case IsRead (length s == 38) (parsed_braced s) _ (λ c. braced_read s)
    (λ c. cond_case IsRead (length s == 45) (parsed_urn s) None (λ d. urn_read s) (λ d. nothing_read))))

-- ---- places

then_read : (text : Option (List ℕ)) → IsRead (option_and_then reference_of text)
then_read None = nothing_read
then_read (Some text) = reference_read text

path_read : (path : Option (List ℕ)) (name : List ℕ)
    → IsRead (elim path [ None ↦ None | Some path ↦ place_in path name ])
unfolding place_in
path_read None name = nothing_read
path_read (Some path) name = then_read (after_front (upload_path name []) path)

place_read : (name : List ℕ) (h : Heard) → IsRead (place_of name h)
place_read name h = path_read h.place name

after_read : (name : List ℕ) (heard : Option Heard) (place : Option (List ℕ)) → IsRead place
    → IsRead (place_after name heard place)
after_read name None place is = is
after_read name (Some h) place is = search (rules, arith, cond_case, place_read)

pub place_heard : (name : List ℕ) (log : List Attempt) → IsRead (heard_place name log)
place_heard name [] = nothing_read
place_heard name (e ∷ log) = after_read name e.heard (heard_place name log) (place_heard name log)
