use Rattle.std.proofs.Common.{arith, rules}
use Rattle.std.proofs.lemmas.List.{append-nil}
use Rattle.upload_names.specs.Reference.{reference}
use Rattle.upload_names.proofs.ReferenceFacts.{number_of-reference}
use Rattle.upload_names.proofs.reference.UploadRef.make.Goals as goal

pub returns-clause-value : goal.returns-clause-value
unfolding reference
returns-clause-value c = search (rules, arith, append-nil)

pub returns-clause-number : goal.returns-clause-number
returns-clause-number c =
    cc (returns-clause-value c, number_of-reference c.args.number c.args.secret c.ranges.number.fits)
