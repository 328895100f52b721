-- Which parts of a body a file has.
use Rattle.std.specs.Prelude.{ℕ, List, Option, Some, None, ⊤, ◌≡◌, ◌≤◌, length, take, IfOk}
use Rattle.std.specs.List.{concat}
use Rattle.upload_bytes.specs.declared.filing.PrefixFile.{PrefixFile}

-- The file, if it could be written, has a prefix of these parts: as many of them as it says.
pub record HasPrefix (parts : List (List ℕ)) (file : PrefixFile) : Type 0 where
  pub has : IfOk file.file (λ written. written ≡ concat (take file.held parts))
  pub within : file.held ≤ length parts

-- a file, if there is one, has a prefix of these parts
abbrev pub HasIfAny : Option PrefixFile → List (List ℕ) → Type 0
HasIfAny None parts = ⊤
HasIfAny (Some file) parts = HasPrefix parts file
