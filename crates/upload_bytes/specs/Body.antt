-- The pieces of a body.
use Rattle.std.specs.Prelude.{ℕ, List, Option, Result, ◌≡◌, ◌++◌, length, IfSome, IfOk}
use Rattle.std.specs.List.{concat}
use Rattle.std.specs.declared.io.Error.{Error}
use Rattle.upload_bytes.specs.declared.hashing.Running.{Running}
use Rattle.upload_bytes.specs.declared.body.Pieces.{Pieces}
use Rattle.upload_bytes.specs.declared.body.Behind.{Behind}
use Rattle.upload_bytes.specs.Running.{HoldsIfCarried}
use Rattle.upload_bytes.specs.Fronts.{HoldsBehind}

-- their bytes: those of the parts, and what came behind them
abbrev pub bytes_in : Pieces → List ℕ
bytes_in pieces = concat pieces.parts.items ++ pieces.last

-- The hashes that a body carries, its files, and its length are those of its bytes.
pub record IsBody (running : Option Running) (hashed : Option Behind) (written : Option (Result (List ℕ) Error)) (read : Option (List ℕ)) (len : ℕ) (bytes : List ℕ) : Type 0 where
  pub carries : HoldsIfCarried running bytes
  pub behind : HoldsBehind hashed bytes
  pub filed : IfSome written (λ outcome. IfOk outcome (λ file. file ≡ bytes))
  pub same : IfSome read (λ files. files ≡ bytes)
  pub counted : len ≡ length bytes
