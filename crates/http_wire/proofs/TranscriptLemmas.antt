-- Transcripts beside what is known.
use Rattle.std.proofs.Common.{◌≡◌, ℕ, List, ◌++◌, append_assoc}
use Rattle.http_wire.specs.States.{SourceState}
use Rattle.http_wire.specs.Reading.{Gives}

stands : (old new : SourceState) (bytes input rest : List ℕ) → Gives old new bytes → input ≡ bytes ++ rest
    → old.given ++ input ≡ new.given ++ rest
stands old new bytes input rest h cut = cc (append_assoc old.given bytes rest)
