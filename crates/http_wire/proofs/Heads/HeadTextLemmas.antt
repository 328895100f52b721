-- The text of a head, from the pieces that are put.
use Rattle.std.proofs.Common.{◌≡◌, ℕ, List, [], ◌++◌, ◌∷◌, append_assoc, arith, rules}
use Rattle.std.specs.Prelude.{false, flat_map}
use Rattle.httparse.specs.Ascii.{crlf_bytes}
use Rattle.http_wire.specs.HeadText.{closing_fields, length_field, print_field, print_head, status_line}
use Rattle.http_wire.specs.declared.status.Status.{Status}

pub bad_text : (before : List ℕ) {line : List ℕ} (status : Status) → line ≡ status_line status
    → ((before ++ line) ++ print_field (length_field 0)) ++ (flat_map print_field (closing_fields false) ++ crlf_bytes)
    ≡ before ++ print_head status (length_field 0 ∷ []) false
bad_text before status line = search (rules, arith, append_assoc)
