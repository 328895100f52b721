-- What is told of a text that isn't read as a name.
use Rattle.std.specs.Prelude.{List, ℕ, codes}
use Rattle.upload_names.specs.declared.name.NameFault.{NameFault}
use Rattle.upload_names.specs.declared.name.NameFault.TheVariants.{NotAName, TooLong, NoMemory}

abbrev pub name_fault_text : NameFault → List ℕ
name_fault_text NotAName = codes "not a name of a repository"
name_fault_text TooLong = codes "a name of more than 255 bytes"
name_fault_text NoMemory = codes "no memory for a name"
