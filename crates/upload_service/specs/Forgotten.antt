-- A repository that has a blob no more. The blob goes with the last repository that had it.
use Rattle.std.specs.Prelude.{ℕ, ◌==◌, ◌&&◌, Bool, List, if◌then◌else◌}
use Rattle.std.specs.FinMap as map
use Rattle.std.specs.FinMap.{FinMap}
use Rattle.std.specs.FinSet as set
use Rattle.std.specs.FinSet.{FinSet}
use Rattle.upload_names.specs.Digest.{Digest, digest_cmp}
use Rattle.upload_service.specs.Machine.{State, same_digest, pair_cmp}

-- the pairs of a digest
abbrev pub pairs_under : FinSet pair_cmp → Digest → FinSet pair_cmp
pairs_under pairs digest = set.retain pairs (λ p. same_digest p.1 digest)

-- a repository has the blob, and no other has it
abbrev pub is_only : FinSet pair_cmp → List ℕ → Digest → Bool
is_only pairs name digest = set.contains pairs (name, digest) && (set.len (pairs_under pairs digest) == 1)

-- the blobs that are left when a repository has one of them no more
abbrev pub blobs_left : FinMap digest_cmp (List ℕ) → FinSet pair_cmp → List ℕ → Digest → FinMap digest_cmp (List ℕ)
blobs_left blobs pairs name digest = if is_only pairs name digest then map.remove blobs digest else blobs

-- the state in which a repository has a blob no more; a pair that isn't there changes nothing
abbrev pub forgotten : State → List ℕ → Digest → State
forgotten s name digest = record s {
  blobs = blobs_left s.blobs s.pairs name digest;
  pairs = set.remove s.pairs (name, digest);
}
