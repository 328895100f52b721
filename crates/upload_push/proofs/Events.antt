-- What the world's events say of a request.
use Rattle.std.proofs.Common.{◌≡◌, ℕ, List, [], ◌∷◌, ◌++◌, length, Option, Some, None, sym, ◌∙◌, ap, subst, arith}
use Rattle.std.specs.Option.{option_to_list}
use Rattle.std.specs.Vec.Iter.{into_iter_steps, into_iter_len}
use Rattle.std.specs.declared.vec.IntoIter.{IntoIter}
use Rattle.std.proofs.Common.{Global, rules}
use Rattle.std.proofs.lemmas.List.{nil_from_length}
use Rattle.upload_service.specs.Machine.{State, Turn}
use Rattle.upload_service.specs.declared.ask.Ask.{Ask}
use Rattle.upload_service.specs.declared.answer.Answer.{Answer}
use Rattle.upload_push.specs.World.{World, world_of, Asked, AskedBy, IsDelivered}
use Rattle.upload_client.specs.declared.heard.Heard.{Heard}
use Rattle.upload_push.specs.declared.world.Event.{Event}
use Rattle.upload_push.specs.declared.world.Event.TheVariants.{Other}

-- the first of what is left, and then the rest
pub first_left : (events rest : List Event) (next : Option Event) (event : Event) → events ≡ option_to_list next ++ rest
    → next ≡ Some event → events ≡ event ∷ rest
first_left events rest next event is some = is ∙ ap (λ (o : Option Event). option_to_list o ++ rest) some

pub nothing_left : (old new : IntoIter Event Global) (next : Option Event) → into_iter_steps old next new → next ≡ None
    → into_iter_len new ≡ 0
nothing_left old new next steps none = search (rules, arith)

none_left : (rest : List Event) → length rest ≡ 0 → rest ≡ []
none_left rest e = nil_from_length rest e

pub all_left : (events rest : List Event) (next : Option Event) → events ≡ option_to_list next ++ rest → next ≡ None
    → length rest ≡ 0 → events ≡ []
all_left events rest next is none e = is ∙ ap (λ (o : Option Event). option_to_list o ++ rest) none ∙ none_left rest e

-- another client's request in front
pub other_in_front : (service mid : State) (secret : List ℕ) (now : ℕ) (events rest : List Event) (other : Ask)
    → events ≡ Other other ∷ rest → ((answer : Answer) × Turn service other secret now answer mid)
    → (ask : Ask) (heard : Option Heard) (new : World) → Asked (world_of mid secret now rest) ask heard new
    → Asked (world_of service secret now events) ask heard new
other_in_front service mid secret now events rest other is turn ask heard new later =
    let asked : List Event → Type 0 = λ es. AskedBy (world_of service secret now es) es ask heard new in
    subst asked (sym is) (turn.0, mid, turn.1, later)

-- no event is left
pub nothing_in_front : (service : State) (secret : List ℕ) (now : ℕ) (events rest : List Event)
    → events ≡ [] → length rest ≡ 0 → (ask : Ask) (heard : Option Heard) (new : World)
    → IsDelivered (world_of service secret now rest) rest ask heard new
    → Asked (world_of service secret now events) ask heard new
nothing_in_front service secret now events rest is none ask heard new delivered =
    let asked : List Event → Type 0 = λ es. AskedBy (world_of service secret now es) es ask heard new in
    let left : List Event → Type 0 = λ es. IsDelivered (world_of service secret now es) es ask heard new in
    subst asked (sym is) (subst left (none_left rest none) delivered)
