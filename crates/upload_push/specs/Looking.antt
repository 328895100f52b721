-- A look before a push: whether the repository has the blob already.
use Rattle.std.specs.Prelude.{◌≡◌, ◌==◌, Bool, true, false, Option, Some, None}
use Rattle.upload_service.specs.declared.ask.Ask.TheVariants.{Has}
use Rattle.upload_client.specs.declared.heard.Heard.{Heard}
use Rattle.upload_push.specs.Slices.{Push}
use Rattle.upload_push.specs.World.{World, Asked, IsLawfulWorld}
use Rattle.upload_push.specs.Promise.{IsThere}

-- a look is answered 200 (a HEAD of a blob that is there: OCI Distribution Specification 1.1, section "Checking if
-- content exists")
abbrev pub is_found : Option Heard → Bool
is_found None = false
is_found (Some h) = h.status == 200

-- The promise of a look for a push's blob over a lossy world: the world stays lawful, so that what follows has the
-- promise of a push, and a blob that was found is there.
abbrev pub LookPromise : Type 0
LookPromise =
    (p : Push) (old new : World) (first : Option Heard) → IsLawfulWorld old
    → Asked old (Has p.name p.digest true) first new
    → IsLawfulWorld new × (is_found first ≡ true → IsThere p new.service)
