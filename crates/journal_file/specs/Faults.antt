-- Which fault an error of the system is, and what is told of it.
use Rattle.std.specs.Prelude.{◌≡◌, ℕ, List, Option, Some, None, codes}
use Rattle.std.specs.IoError.{error_kind}
use Rattle.std.specs.declared.io.Error.{Error}
use Rattle.std.specs.declared.io.ErrorKind.{ErrorKind}
use Rattle.std.specs.declared.io.ErrorKind.TheVariants.{NotADirectory, IsADirectory}
use Rattle.std.specs.declared.io.ErrorKind.TheVariants.{PermissionDenied, ReadOnlyFilesystem}
use Rattle.journal_file.specs.declared.fault.OpenFault.{OpenFault}
use Rattle.journal_file.specs.declared.fault.OpenFault.TheVariants.{NotAFolder, NotAFile, Denied, Locked, TooLong, Io}

abbrev pub fault_of_kind : ErrorKind → Error → OpenFault
fault_of_kind NotADirectory error = NotAFolder
fault_of_kind IsADirectory error = NotAFile
fault_of_kind PermissionDenied error = Denied
fault_of_kind ReadOnlyFilesystem error = Denied
fault_of_kind _ error = Io error

abbrev pub fault_of : Error → OpenFault
fault_of error = fault_of_kind (error_kind error) error

-- the fault has its own name if there is one
abbrev pub IsNamed : OpenFault → Type 0
IsNamed (Io error) = fault_of error ≡ Io error
IsNamed _ = Unit {0}

-- its message; that of another error is the system's
abbrev pub fault_text : OpenFault → Option (List ℕ)
fault_text NotAFolder = Some (codes "not a folder")
fault_text NotAFile = Some (codes "not a file")
fault_text Denied = Some (codes "no leave to read and write it")
fault_text Locked = Some (codes "another process has it locked")
fault_text TooLong = Some (codes "a file of 2^63 bytes or more")
fault_text (Io error) = None
