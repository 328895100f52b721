-- What is told of a result, once it is known.
use Rattle.std.proofs.Common.{◌≡◌, Result, Ok, Err, IfOk, IfErr, subst}

pub told_ok : {T E : Type 0} (P : T → Type 0) (result : Result T E) (x : T) → result ≡ Ok x → IfOk result P → P x
told_ok P result x is told = subst (λ r. IfOk r P) is told

pub told_err : {T E : Type 0} (P : E → Type 0) (result : Result T E) (e : E) → result ≡ Err e → IfErr result P → P e
told_err P result e is told = subst (λ r. IfErr r P) is told
