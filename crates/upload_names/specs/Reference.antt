-- The references of upload sessions: UUIDs of version 8 (RFC 9562, section 5.8), seen as their sixteen bytes.
use Rattle.std.specs.Prelude.{ℕ, List, ◌++◌, take, Option}
use Rattle.std.specs.Int.{w32, from_be_bytes, to_be_bytes}
use Rattle.uuid.specs.Parts.{with_version, with_variant}
use Rattle.uuid.specs.Text.{parsed, hyphenated_text, lower}
use Rattle.uuid.specs.declared.Variant.TheVariants.{RFC4122}
use Rattle.uuid.specs.declared.Version.TheVariants.{Custom}

-- The reference of a session: four bytes of its number, the highest first, and twelve bytes of a secret; over them
-- the four bits of the version (8) and the two of the variant (binary 10).
unfoldable pub reference : ℕ → List ℕ → List ℕ
reference number secret = with_version (with_variant (to_be_bytes w32 number ++ secret) RFC4122) Custom

-- the number in a reference
unfoldable pub number_of : List ℕ → ℕ
number_of at = from_be_bytes w32 (take 4 at)

-- the text of a reference: lower case digits, in groups of 8, 4, 4, 4 and 12 with hyphens between
unfoldable pub reference_text : List ℕ → List ℕ
reference_text at = hyphenated_text lower at

-- The reference that a text spells, if it spells one: with hyphens, without, in braces, or behind `urn:uuid:`, the
-- digits in either case.
unfoldable pub reference_of : List ℕ → Option (List ℕ)
reference_of text = parsed text
