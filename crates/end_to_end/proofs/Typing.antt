-- What the types of a pool's steps say of them.
use Rattle.std.proofs.Common.{◌≡◌, ℕ, ◌<◌, List, Option, refl, arith, rules}
use Rattle.std.specs.Prelude.{◌^◌}
use Rattle.std.specs.List.{AllByRecursion}
use Rattle.upload_names.specs.Digest.{Digest}
use Rattle.upload_service.specs.declared.answer.Answer.{Answer}
use Rattle.upload_service.specs.declared.answer.Answer.TheVariants.{Blob}
use Rattle.upload_keeper.specs.Log.{Step, exchanges_of}
use Rattle.upload_keeper.specs.Typed.{AllTyped}
use Rattle.upload_push.specs.World.{IsSecret}
use Rattle.upload_wire.proofs.Lists.{all_mapped, all_weaker}
use Rattle.wire_laws.specs.WrittenExchanges.{HasSize}
use Rattle.end_to_end.specs.Marks.{Marked, steps_in}

sized : (answer : Answer)
    → ((digest : Digest) (size : ℕ) (bytes : Option (List ℕ)) → answer ≡ Blob digest size bytes → size < 2 ^ 64)
    → HasSize answer
sized (Blob digest size bytes) fits = fits digest size bytes refl
sized other fits = tt

pub sizes_of : (ss : List Step) → AllTyped (exchanges_of ss)
    → AllByRecursion (λ (s : Step). HasSize s.exchange.answer) ss
sizes_of ss typed = search (rules, arith, all_weaker, sized, all_mapped)

abbrev pub HasSecret : Marked → Type 0
HasSecret m = IsSecret m.0.exchange.secret

pub secrets_of : (ss : List Step) → AllTyped (exchanges_of ss) → (ms : List Marked) → steps_in ms ≡ ss
    → AllByRecursion HasSecret ms
secrets_of ss typed ms is = search (rules, arith, all_weaker, all_mapped)
