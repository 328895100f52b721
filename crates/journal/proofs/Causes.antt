-- A cause that is told of a part of a call is one of the whole.
use Rattle.std.proofs.Common.{Result, Ok, Err, IfErr, arith, rules}
use Rattle.journal.specs.declared.error.Error.{Error}
use Rattle.journal.specs.Errors.{Because, WhyNot, Never}

pub because_weaker : (closed closed2 other other2 long long2 disk disk2 machine machine2 : Type 0) →
    (closed → closed2) → (other → other2) → (long → long2) → (disk → disk2) → (machine → machine2)
    → (error : Error) → Because closed other long disk machine error → Because closed2 other2 long2 disk2 machine2 error
because_weaker closed closed2 other other2 long long2 disk disk2 machine machine2 h1 h2 h3 h4 h5 error h6 = search (rules, arith)

pub if_err_weaker : {T : Type 0} (result : Result T Error) (P Q : Error → Type 0) →
    ((error : Error) → P error → Q error) → IfErr result P → IfErr result Q
if_err_weaker (Ok x) P Q weaker given = given
if_err_weaker (Err error) P Q weaker given = weaker error given

pub never : (P : Type 0) → Never → P
never P false_is = absurd (cc false_is)

-- what follows from each cause follows
pub why_not : (closed long disk same goal : Type 0) → (closed → goal) → (long → goal) → (disk → goal) → (error : Error)
    → WhyNot closed long disk same error → goal
why_not closed long disk same goal h1 h2 h3 error h4 = search (rules, arith, never)
