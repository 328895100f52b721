use Rattle.std.proofs.Common.{arith, rules}
use Rattle.uuid.proofs.TextLemmas.{by_index_length}
use Rattle.upload_names.specs.Reference.{reference_of, reference_text}
use Rattle.upload_names.proofs.reference.UploadRef.text.Goals as goal

pub copy_from_slice-requires : goal.copy_from_slice-requires
copy_from_slice-requires c = search (rules, arith, by_index_length)

pub returns-clause-text : goal.returns-clause-text
unfolding reference_text
returns-clause-text c = search (rules, arith)

pub returns-clause-reads_back : goal.returns-clause-reads_back
unfolding reference_of
returns-clause-reads_back c = cc
