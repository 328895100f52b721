use Rattle.std.proofs.Common.{arith, rules}
use Rattle.std.proofs.lemmas.List.{take_all}
use Rattle.std.proofs.lemmas.List.Folds.{fold-map}
use Rattle.std.proofs.lemmas.List.Sums.{fold_more}
use Rattle.upload_store.proofs.numbers.past_in.Goals as goal

pub loop-file-preserved : goal.loop-file-preserved
loop-file-preserved c = search (rules, arith, fold_more)

pub returns : goal.returns
returns c = search (rules, arith, take_all, fold-map)
