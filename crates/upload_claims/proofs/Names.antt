-- What isn't read as a name.
use Rattle.std.proofs.Common.{◌≡◌, ℕ, List, Ok, Err, arith, rules}
use Rattle.std.proofs.lemmas.Bool.{cases_Bool}
use Rattle.upload_names.specs.Name.{IsName}
use Rattle.upload_names.proofs.NameFacts.{IsName-from}
use Rattle.upload_claims.specs.declared.fault.RecordFault.TheVariants.{BadName}
use Rattle.upload_claims.specs.Fields.{text_at, name_at}

pub no_name : (bytes text rest : List ℕ) → text_at bytes ≡ Ok (text, rest) → (IsName text → ⊥)
    → name_at bytes ≡ Err BadName
unfolding name_at
no_name bytes text rest read differs = search (rules, arith, cases_Bool, IsName-from)
