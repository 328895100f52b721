use Rattle.std.proofs.Common.{sym, ap, ◌∙◌}
use Rattle.std.specs.Prelude.{option_map}
use Rattle.upload_names.specs.declared.digest.Algorithm.TheVariants.{Sha256, Sha512}
use Rattle.upload_names.proofs.DigestFacts.{reads_256, reads_512, reads_none, IsDigest-read}
use Rattle.upload_names.proofs.digest.BlobDigest.read.Goals as goal

pub returns-in_err-bytes : goal.returns-in_err-bytes
returns-in_err-bytes c =
    c.from_residual.ensures
    ∙ sym (reads_256 c.args.text.now c.in-Some.digits.now c.in-Some.ensures
    ∙ ap (option_map (λ bytes. record { algorithm = Sha256; bytes = bytes }))
    (sym c.read_digits.ensures ∙ c.in_err-bytes.was))

pub invariant_of-result : goal.invariant_of-result
invariant_of-result c =
    IsDigest-read Sha256 c.in-Some.digits.now c.in_ok-bytes.bytes (sym c.read_digits.ensures ∙ c.in_ok-bytes.was)

pub returns-in-Some : goal.returns-in-Some
returns-in-Some c =
    sym (reads_256 c.args.text.now c.in-Some.digits.now c.in-Some.ensures
    ∙ ap (option_map (λ bytes. record { algorithm = Sha256; bytes = bytes }))
    (sym c.read_digits.ensures ∙ c.in_ok-bytes.was))

pub returns-in_err-digits : goal.returns-in_err-digits
returns-in_err-digits c = cc (reads_none c.args.text.now c.in_default.ensures c.in_err-digits.ensures)

pub returns-in_err-bytes-2 : goal.returns-in_err-bytes-2
returns-in_err-bytes-2 c =
    c.from_residual-in_err-bytes-2.ensures
    ∙ sym (reads_512 c.args.text.now c.in_ok-digits.digits.now c.in_ok-digits.ensures
    ∙ ap (option_map (λ bytes. record { algorithm = Sha512; bytes = bytes }))
    (sym c.read_digits-2.ensures ∙ c.in_err-bytes-2.was))

pub invariant_of-result-2 : goal.invariant_of-result-2
invariant_of-result-2 c =
    IsDigest-read Sha512 c.in_ok-digits.digits.now c.in_ok-bytes-2.bytes
    (sym c.read_digits-2.ensures ∙ c.in_ok-bytes-2.was)

pub returns : goal.returns
returns c =
    sym (reads_512 c.args.text.now c.in_ok-digits.digits.now c.in_ok-digits.ensures
    ∙ ap (option_map (λ bytes. record { algorithm = Sha512; bytes = bytes }))
    (sym c.read_digits-2.ensures ∙ c.in_ok-bytes-2.was))
