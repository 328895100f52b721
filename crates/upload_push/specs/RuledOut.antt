-- What the soundness of a push and its promise rule out, shown from their claims alone.
use Rattle.std.specs.Prelude.{Ok, ◌≡◌, ℕ, List, [], ◌∷◌, ◌++◌, Option, Some, None}
use Rattle.std.specs.FinMap as map
use Rattle.upload_names.specs.Digest.{Digest}
use Rattle.upload_service.specs.declared.ask.Extent.{Extent}
use Rattle.upload_service.specs.declared.ask.Ask.{Ask}
use Rattle.upload_service.specs.declared.ask.Ask.TheVariants.{Chunk, Close}
use Rattle.upload_push.specs.Slices.{Push, Attempt, IsSound, log_of}
use Rattle.upload_push.specs.World.{World}
use Rattle.upload_push.specs.Promise.{IsQuiet, IsWorth}
use Rattle.upload_client.specs.declared.heard.Heard.{Heard}
use Rattle.upload_push.specs.declared.pusher.Outcome.TheVariants.{Pushed}

-- one request, and what was heard
abbrev pub exchange : Ask → Option Heard → Attempt
exchange ask heard = record { ask = ask; heard = heard }

pub record PushesRuleOut : Type 0 where
  -- a close behind a chunk of which nothing was heard isn't sound
  pub hasty : (p : Push) (log : List Attempt) (name at body : List ℕ) (range : Extent)
      (its_name its_at its_body : List ℕ) (its_range : Extent) (digest : Option Digest) (heard : Option Heard)
      → IsSound p (exchange (Close its_name its_at its_range digest its_body) heard
      ∷ exchange (Chunk name at range body) None ∷ log) → ⊥
  -- in the file that a push left no chunk stands twice
  pub twice : (p : Push) (heard : List (Option Heard)) (old new : World) (front chunk rest : List ℕ)
      → IsWorth p heard old new (Ok Pushed) → IsQuiet p.name old.events (log_of p heard)
      → p.file ≡ front ++ (chunk ++ rest)
      → map.get new.service.blobs p.digest ≡ Some (front ++ (chunk ++ (chunk ++ rest))) → chunk ≡ []
  -- and none is lacking
  pub lacking : (p : Push) (heard : List (Option Heard)) (old new : World) (front chunk rest : List ℕ)
      → IsWorth p heard old new (Ok Pushed) → IsQuiet p.name old.events (log_of p heard)
      → p.file ≡ front ++ (chunk ++ rest) → map.get new.service.blobs p.digest ≡ Some (front ++ rest) → chunk ≡ []
