use Rattle.std.proofs.Common.{arith, rules}
use Rattle.std.proofs.lemmas.Result.{err_from_is_err_and}
use Rattle.http_wire.specs.Inputs.{input_of}
use Rattle.upload_client.specs.declared.heard.HeardFault.TheVariants as Fault
use Rattle.upload_client.proofs.AnswerLemmas.{finds_after, found_after, head_fault, head_over}
use Rattle.http_wire.proofs.Heads.HeadLaws.{response_laws}
use Rattle.upload_client.proofs.answer.read_answer.Goals as goal

pub read_head-requires : goal.read_head-requires
read_head-requires g c = record { lawful = response_laws }

pub returns-in-Head-clause-found : goal.returns-in-Head-clause-found
returns-in-Head-clause-found g c = search (rules, arith, finds_after)

pub returns-in-Over-clause-found : goal.returns-in-Over-clause-found
returns-in-Over-clause-found g c =
    found_after c.args.head_only (input_of g.S.ByteSource.state c.args.input.now)
    (input_of g.S.ByteSource.state c.read_head.new.input) Fault.Truncated c.in_ok-parsed.ensures.gave
    (head_over c.args.head_only (input_of g.S.ByteSource.state c.read_head.new.input)
    (rw c.in-Over.is at c.in_ok-parsed.ensures.found))

pub returns-in-Refused-clause-found : goal.returns-in-Refused-clause-found
returns-in-Refused-clause-found g c = search (rules, arith, found_after)

pub returns-in-TooLong-clause-found : goal.returns-in-TooLong-clause-found
returns-in-TooLong-clause-found g c = search (rules, arith, found_after)

pub returns-in_err-parsed-clause-found : goal.returns-in_err-parsed-clause-found
returns-in_err-parsed-clause-found g c = search (rules, arith, err_from_is_err_and, found_after, head_fault)
