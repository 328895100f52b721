-- What the journal of a data directory begins with.
use Rattle.std.specs.Prelude.{List, ℕ, ◌++◌, codes}
use Rattle.journal.specs.Format.{number_bytes}
use Rattle.upload_service.specs.declared.limits.Limits.{Limits}

-- "uploads\n", the version of the format, and the four limits, each a number in eight bytes
abbrev pub parameters_of : Limits → List ℕ
parameters_of limits =
    codes "uploads\n" ++ (number_bytes 2 ++ (number_bytes limits.max_blob ++ (number_bytes limits.max_body
    ++ (number_bytes limits.max_open ++ number_bytes limits.max_idle))))
