-- What the soundness of a push and its promise rule out.
use Rattle.std.proofs.Common.{◌≡◌, ℕ, List, [], ◌∷◌, ◌++◌, length, Option, Some, None, refl, arith}
use Rattle.std.proofs.Common.{length-append, rules}
use Rattle.std.specs.Prelude.{Ok}
use Rattle.std.specs.FinMap as map
use Rattle.upload_names.specs.Digest.{Digest}
use Rattle.upload_service.specs.declared.ask.Extent.{Extent}
use Rattle.upload_service.specs.declared.ask.Ask.TheVariants.{Chunk, Close}
use Rattle.upload_push.specs.Slices.{Push, Attempt, IsSound, IsSoundAsk, log_of}
use Rattle.upload_push.specs.World.{World}
use Rattle.upload_push.specs.Promise.{IsQuiet, IsWorth}
use Rattle.upload_push.specs.RuledOut.{exchange, PushesRuleOut}
use Rattle.upload_client.specs.declared.heard.Heard.{Heard}
use Rattle.upload_push.specs.declared.pusher.Outcome.TheVariants.{Pushed}
use Rattle.upload_push.proofs.Turns.{same_inside}

-- the close says that all was heard of, and the chunk that something was left
hasty_ask : (p : Push) (log : List Attempt) (name at body : List ℕ)
    (range : Extent) (its_name its_at its_body : List ℕ) (its_range : Extent) (digest : Option Digest)
    → IsSoundAsk p (exchange (Chunk name at range body) None ∷ log) (Close its_name its_at its_range digest its_body)
    → IsSoundAsk p log (Chunk name at range body) → ⊥
hasty_ask p log name at body range its_name its_at its_body its_range digest h = search (rules, arith)

hasty : (p : Push) (log : List Attempt) (name at body : List ℕ) (range : Extent) (its_name its_at its_body : List ℕ)
    (its_range : Extent) (digest : Option Digest) (heard : Option Heard) → IsSound p
    (exchange (Close its_name its_at its_range digest its_body) heard ∷ exchange (Chunk name at range body) None ∷ log)
    → ⊥
hasty p log name at body range its_name its_at its_body its_range digest heard sound =
    search (rules, arith, hasty_ask)

no_bytes : (xs : List ℕ) → length xs ≡ 0 → xs ≡ []
no_bytes [] is = refl
no_bytes (x ∷ xs) is = absurd (omega (arith, is))

-- the bytes that stand there are the file
left : (p : Push) (heard : List (Option Heard)) (old new : World) (blob : List ℕ) → IsWorth p heard old new (Ok Pushed)
    → IsQuiet p.name old.events (log_of p heard) → map.get new.service.blobs p.digest ≡ Some blob
    → length p.file ≡ length blob
left p heard old new blob worth quiet is = search (rules, arith, same_inside)

twice : (p : Push) (heard : List (Option Heard)) (old new : World) (front chunk rest : List ℕ)
    → IsWorth p heard old new (Ok Pushed) → IsQuiet p.name old.events (log_of p heard)
    → p.file ≡ front ++ (chunk ++ rest)
    → map.get new.service.blobs p.digest ≡ Some (front ++ (chunk ++ (chunk ++ rest))) → chunk ≡ []
twice p heard old new front chunk rest worth quiet file is =
    grind (
      arith,
      left p heard old new,
      length-append front,
      length-append chunk rest,
      length-append chunk,
      no_bytes chunk,
    )

lacking : (p : Push) (heard : List (Option Heard)) (old new : World) (front chunk rest : List ℕ)
    → IsWorth p heard old new (Ok Pushed) → IsQuiet p.name old.events (log_of p heard)
    → p.file ≡ front ++ (chunk ++ rest) → map.get new.service.blobs p.digest ≡ Some (front ++ rest) → chunk ≡ []
lacking p heard old new front chunk rest worth quiet file is =
    grind (
      arith,
      left p heard old new,
      length-append front,
      length-append chunk rest,
      length-append front rest,
      no_bytes chunk,
    )

pub pushes_rule_out : PushesRuleOut
pushes_rule_out = record { hasty = hasty; twice = twice; lacking = lacking }
