-- A written message is a head of the grammar and a body.
use Rattle.std.proofs.Common.{◌≡◌, ℕ, ◌<◌, ◌≤◌, true, false, codes, List, [], ◌∷◌, ◌++◌, All, length, map, reverse}
use Rattle.std.proofs.Common.{refl, arith, ◌∙◌, sym, IsTrue, append_assoc, rules}
use Rattle.std.proofs.lemmas.List.{length-map}
use Rattle.std.proofs.lemmas.Bool.Decides.{nat_tests}
use Rattle.std.proofs.lemmas.List.Elements.{All-weaker, All-head, All-tail, All-map}
use Rattle.std.specs.List.{flat_map}
use Rattle.std.specs.Prelude.{IsUtf8}
use Rattle.std.specs.Char.{is_ascii_graphic}
use Rattle.httparse.specs.Grammar.{AllPass, IsToken, IsField, Field, RequestHead, crlf, print_request, print_field}
use Rattle.httparse.specs.Grammar.{is_value_byte, is_uri_byte, is_ows, skip_ows, trim_ows}
use Rattle.httparse.specs.Ascii.{crlf_bytes}
use Rattle.httparse.specs.Spans.{name_and_value}
use Rattle.httparse.proofs.TrimLemmas.{trim_ows_space, AllPass-reverse}
use Rattle.http_wire.specs.Fronts.{max_head, max_fields, ReadsHead, requests}
use Rattle.http_wire.specs.Fields.{Fields}
use Rattle.upload_client.specs.AskText.{Message, print_message, target_of, request_line, host_text, section_text}
use Rattle.http_wire.specs.HeadText as written
use Rattle.upload_texts.proofs.PlainTexts.{AllPass-cons, AllPass-weaker}

abbrev pub field_of : List ℕ × List ℕ → Field
field_of (name, value) = record { name = name; raw = 32 ∷ value; end = crlf }

-- the fields that are written, the host's in front
abbrev pub sent_fields : Message → List ℕ → Fields
sent_fields m host = (codes "Host", host) ∷ m.fields

abbrev pub head_with : List ℕ → List ℕ → Fields → RequestHead
head_with method target fields =
    record {
      blank = [];
      method = method;
      target = target;
      minor = 1;
      line_end = crlf;
      fields = map field_of fields;
      last = crlf;
    }

-- the head that is written
abbrev pub head_of : Message → List ℕ → RequestHead
head_of m host = head_with m.method (target_of m) (sent_fields m host)

pub fields_printed : (fields : Fields)
    → flat_map print_field (map field_of fields) ≡ flat_map written.print_field fields
fields_printed [] = refl
fields_printed ((name, value) ∷ fields) = rw (fields_printed fields) (simp append_assoc)

whole_head : (method target : List ℕ) (fields : Fields)
    → method ++ (codes " "
    ++ (target ++ (codes " HTTP/1.1" ++ (crlf_bytes ++ (flat_map written.print_field fields ++ crlf_bytes)))))
    ≡ print_request (head_with method target fields)
unfolding print_request
whole_head method target fields =
    rw (fields_printed fields) (joined method target (flat_map written.print_field fields))
  where
    joined : (a b c : List ℕ) → a ++ (codes " " ++ (b ++ (codes " HTTP/1.1" ++ (crlf_bytes ++ (c ++ crlf_bytes)))))
        ≡ a ++ (codes " " ++ b) ++ (codes " " ++ (codes "HTTP/1." ++ codes "1")) ++ crlf_bytes ++ (c ++ crlf_bytes)
    joined a b c = simp append_assoc

pub head_printed : (method target : List ℕ) (fields : Fields) → print_request (head_with method target fields)
    ≡ method ++ (codes " "
    ++ (target ++ (codes " HTTP/1.1" ++ (crlf_bytes ++ (flat_map written.print_field fields ++ crlf_bytes)))))
head_printed method target fields = sym (whole_head method target fields)

host_in_front : (method target host rest : List ℕ)
    → (method ++ (codes " " ++ target)) ++ (host_text host ++ (rest ++ crlf_bytes))
    ≡ method ++ (codes " " ++ (target ++ (codes " HTTP/1.1"
    ++ (crlf_bytes ++ (((codes "Host" ++ (codes ": " ++ (host ++ crlf_bytes))) ++ rest) ++ crlf_bytes)))))
host_in_front method target host rest = simp append_assoc

pub printed : (m : Message) (host : List ℕ)
    → request_line m ++ (host_text host ++ section_text m.fields) ≡ print_request (head_of m host)
printed m host =
    host_in_front m.method (target_of m) host (flat_map written.print_field m.fields)
    ∙ whole_head m.method (target_of m) (sent_fields m host)

pub printed_whole : (m : Message) (host : List ℕ) → print_message m host ≡ print_request (head_of m host) ++ m.body
printed_whole m host = search (rules, arith, printed, append_assoc)

-- what a written field is made of: its value has no white space around it
pub record IsPlainField (f : List ℕ × List ℕ) : Type 0 where
  pub name : IsToken f.0
  pub value : AllPass is_value_byte f.1
  pub kept : trim_ows (32 ∷ f.1) ≡ f.1

graphic_value : (b : ℕ) → is_ascii_graphic b ≡ true → is_value_byte b ≡ true
graphic_value b h = grind (arith, nat_tests)

graphic_ows : (b : ℕ) → is_ascii_graphic b ≡ true → is_ows b ≡ false
graphic_ows b h = grind (arith, nat_tests)

graphic_kept : (v : List ℕ) → AllPass is_ascii_graphic v → skip_ows v ≡ v
graphic_kept [] h = refl
graphic_kept (b ∷ v) h = let no = graphic_ows b (All-head (λ c. IsTrue (is_ascii_graphic c)) b v h) in rw no refl

trimmed : (v : List ℕ) → AllPass is_ascii_graphic v → trim_ows (32 ∷ v) ≡ v
trimmed v h = trim_ows_space v (graphic_kept v h) (graphic_kept (reverse v) (AllPass-reverse is_ascii_graphic v h))

-- a value of visible bytes
pub graphic_field : (name value : List ℕ) → IsToken name → AllPass is_ascii_graphic value → IsPlainField (name, value)
graphic_field name value n v = search (rules, arith, AllPass-weaker, graphic_value, trimmed)

pub values_kept : (fields : Fields) → All IsPlainField fields → map name_and_value (map field_of fields) ≡ fields
values_kept [] h = refl
values_kept ((name, value) ∷ fields) h =
    search (rules, arith, All-head, All-tail, values_kept fields (All-tail IsPlainField (name, value) fields h))

pub field_valid : (f : List ℕ × List ℕ) → IsPlainField f → IsField (field_of f)
field_valid (name, value) h = search (rules, arith, AllPass-cons)

-- what a message must keep to be read
pub record IsSendable (m : Message) (host : List ℕ) : Type 0 where
  pub method : IsToken m.method
  pub target : (0 < length (target_of m)) × AllPass is_uri_byte (target_of m)
  pub target_text : IsUtf8 (target_of m)
  pub fields : All IsPlainField (sent_fields m host)
  pub few : length (sent_fields m host) ≤ max_fields
  pub short : length (print_request (head_of m host)) ≤ max_head

pub reads_head : (m : Message) (host : List ℕ) → IsSendable m host
    → ReadsHead requests (print_message m host) (head_of m host) m.body
reads_head m host h = search (rules, arith, All-map, All-weaker, field_valid, printed_whole, length-map)
