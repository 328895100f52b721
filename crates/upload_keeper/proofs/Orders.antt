-- What the order in which jobs were taken determines.
use Rattle.std.proofs.Common.{◌≡◌, ◌≢◌, ℕ, List, [], ◌∷◌, map, length, sym, refl, ap, ◌∙◌}
use Rattle.std.proofs.Common.{arith, rules}
use Rattle.upload_service.specs.declared.ask.Ask.{Ask}
use Rattle.upload_service.specs.declared.answer.Answer.{Answer}
use Rattle.upload_service.specs.declared.answer.Answer.TheVariants.{NoMemory}
use Rattle.upload_service.specs.Machine.{State, Outcome, Comes, Turn}
use Rattle.upload_service.specs.Run.{Run}
use Rattle.upload_keeper.specs.Log.{Step, exchanges_of, taken, HaveMemory}

same_turn : (old : State) (o : Outcome) (now : ℕ) (a b : Answer) (new other : State) → Comes old now o a new
    → Comes old now o b other → a ≢ NoMemory → b ≢ NoMemory → (a ≡ b) × (new ≡ other)
same_turn old o now a b new other h h1 m n = search (rules, arith)

pub turns_same : (old : State) (ask : Ask) (secret : List ℕ) (now : ℕ) (a b : Answer) (new other : State)
    → Turn old ask secret now a new → Turn old ask secret now b other → a ≢ NoMemory → b ≢ NoMemory
    → (a ≡ b) × (new ≡ other)
unfolding Turn
turns_same old ask secret now a b new other x y m n = search (rules, arith, same_turn)

-- a turn of an equal state by an equal job
turn_as : (old old' : State) (s s' : Step) (new : State) → old ≡ old' → taken s ≡ taken s'
    → Turn old s.exchange.ask s.exchange.secret s.exchange.now s.exchange.answer new
    → Turn old' s'.exchange.ask s'.exchange.secret s'.exchange.now s.exchange.answer new
turn_as old old' s s' new e same turn = search (rules, arith)

pub runs_same : (old old' new new' : State) (xs ys : List Step) → old ≡ old' → Run old (exchanges_of xs) new
    → Run old' (exchanges_of ys) new' → map taken xs ≡ map taken ys → HaveMemory xs → HaveMemory ys
    → (xs ≡ ys) × (new ≡ new')
runs_same old old' new new' [] [] e p q same m n = (refl, p ∙ e ∙ sym q)
runs_same old old' new new' [] (y ∷ ys) e p q same m n = absurd (let l = ap length same in omega (arith, l))
runs_same old old' new new' (x ∷ xs) [] e p q same m n = absurd (let l = ap length same in omega (arith, l))
runs_same old old' new new' (x ∷ xs) (y ∷ ys) e p q same m n =
    search (rules, arith, turns_same, turn_as, runs_same p.0 q.0 new new' xs ys)
