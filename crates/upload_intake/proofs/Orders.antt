-- What a worker read and replied, by the order in which its jobs were taken.
use Rattle.std.proofs.Common.{◌≡◌, ℕ, List, [], ◌∷◌, map, length, refl, ap, append-nil, arith, rules}
use Rattle.upload_keeper.specs.Log.{Step}
use Rattle.upload_keeper.proofs.Orders.{runs_same}
use Rattle.upload_intake.specs.Pools.ServedPool.{Carries, of_seat, asked_and_answered, read_and_replied, asks}
use Rattle.upload_intake.specs.Determined.{ServedOrdersAreDetermined}
use Rattle.upload_wire.specs.Conversation.{WireExchange}

none_of : (steps : List Step) → asks steps ≡ [] → steps ≡ []
none_of [] e = refl
none_of (s ∷ ss) e = absurd (let l = ap length e in omega (arith, l))

-- all steps of a side are what was read and replied there
whole : (seat : ℕ) (steps : List Step) (xs : List WireExchange) → Carries seat steps xs []
    → map asked_and_answered (of_seat seat steps) ≡ map read_and_replied xs
whole seat steps xs c = search (rules, arith, none_of, append-nil)

pub orders_determined : ServedOrdersAreDetermined
orders_determined = search (rules, arith, runs_same, whole)
