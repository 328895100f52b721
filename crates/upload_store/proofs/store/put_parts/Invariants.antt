use Rattle.std.proofs.Common.{◌≡◌, ◌++◌, take, IsTrue}
use Rattle.std.specs.List.{concat}
use Rattle.bodies.specs.Body.{number_of, bytes_of, is_open}
use Rattle.upload_store.proofs.store.put_parts.Given as goal

abbrev pub invariant-loop-part : goal.invariant-loop-part
invariant-loop-part g l = record {
  written : bytes_of l.file ≡ bytes_of l.fn.file ++ concat (take l.part-index l.parts);
  number : number_of l.file ≡ number_of l.fn.file;
  is_still_open : IsTrue (is_open l.file);
}
