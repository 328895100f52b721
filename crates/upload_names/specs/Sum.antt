-- What the kept bytes of a digest, and of its text, stand for.
use Rattle.std.specs.Prelude.{ℕ, List}
use Rattle.upload_names.specs.Digest.{Digest}
use Rattle.upload_names.specs.declared.digest.Algorithm.{Algorithm}
use Rattle.upload_names.specs.declared.digest.Algorithm.TheVariants as algorithms
use Rattle.upload_names.specs.declared.digest.Sum.{Sum}
use Rattle.upload_names.specs.declared.digest.Sum.TheVariants as sums
use Rattle.upload_names.specs.declared.digest.Text.{Text}
use Rattle.upload_names.specs.declared.digest.Text.TheVariants as texts

abbrev pub of_sum : Sum → Digest
of_sum (sums.Sha256 bytes) = record { algorithm = algorithms.Sha256; bytes = bytes }
of_sum (sums.Sha512 bytes) = record { algorithm = algorithms.Sha512; bytes = bytes }

abbrev pub to_sum : Algorithm → List ℕ → Sum
to_sum algorithms.Sha256 bytes = sums.Sha256 bytes
to_sum algorithms.Sha512 bytes = sums.Sha512 bytes

abbrev pub of_text : Text → List ℕ
of_text (texts.Sha256 bytes) = bytes
of_text (texts.Sha512 bytes) = bytes
