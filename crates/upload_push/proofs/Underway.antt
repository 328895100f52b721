-- A push under way over a transport.
use Rattle.std.proofs.Common.{rules}
use Rattle.std.proofs.Common.{◌≡◌, ℕ, ◌<◌, List, ◌∷◌, length, Option, Some, arith, ap, subst, sym, ◌∙◌}
use Rattle.std.specs.Prelude.{Result}
use Rattle.upload_push.proofs.Count.{Falls, turn_falls, all_within, lawful_plan, asked}
use Rattle.upload_push.specs.Steps.{Plan, PushState, turn, ask_at, standing_at, IsStepAt, IsStepOf, IsAskWithin}
use Rattle.upload_push.specs.Slices.{Push, IsLawfulPush, after_all, log_of, logged, plan_of, request, request_of, Leads}
use Rattle.upload_push.specs.Slices.{IsPush, IsEnd}
use Rattle.upload_push.proofs.AsksLeft.{asks_left}
use Rattle.upload_client.specs.declared.heard.Heard.{Heard}
use Rattle.upload_service.specs.declared.ask.Ask.{Ask}
use Rattle.upload_push.specs.declared.pusher.PushAsk.{PushAsk}
use Rattle.upload_push.specs.declared.pusher.Outcome.{Outcome}
use Rattle.upload_names.specs.Digest.{Digest}
use Rattle.upload_push.specs.declared.pusher.PushStep.{PushStep}
use Rattle.upload_push.specs.declared.pusher.PushStep.TheVariants as steps
use Rattle.upload_push.specs.declared.pusher.Phase.{Phase}
use Rattle.upload_push.specs.declared.pusher.Phase.TheVariants.{Opening, Done, GaveUp}
use Rattle.upload_push.specs.declared.pushing.PushFault.{PushFault}

-- what the loop keeps: all that was heard, and the transport's way by these requests
pub record IsUnderway {S : Type 0} (asks : S → Ask → Option Heard → S → Type 0) (p : Push) (old new : S)
    (s : PushState) : Type 0 where
  pub heard : List (Option Heard)
  pub leads : Leads asks old (log_of p heard) new
  pub stands : s ≡ record { plan = plan_of p; stand = after_all p heard }

pub step_asks : (p : Plan) (phase : Phase) (ask : PushAsk) → IsStepAt p phase (steps.Ask ask)
    → ask_at p phase ≡ Some ask
step_asks p phase ask h = search (rules, arith)

pub step_done : (p : Plan) (phase : Phase) (outcome : Outcome) → IsStepAt p phase (steps.Done outcome)
    → phase ≡ Done outcome
step_done p phase outcome h = search (rules, arith)

-- what a step says of the phase
abbrev pub Says : Phase → PushStep → Type 0
Says phase (steps.Ask ask) = Unit {0}
Says phase (steps.Done outcome) = phase ≡ Done outcome
Says phase (steps.GaveUp shown) = phase ≡ GaveUp shown.now

pub step_says : (p : Plan) (phase : Phase) (step : PushStep) → IsStepAt p phase step → Says phase step
step_says p phase step = search (rules, arith, step_done)

pub started : {S : Type 0} (asks : S → Ask → Option Heard → S → Type 0) (p : Push) (old : S) (s : PushState)
    (name : List ℕ) (digest : Digest) → name ≡ p.name → digest ≡ p.digest → s ≡ record {
      plan = record { name = name; digest = digest; size = length p.file; chunk = p.chunk };
      stand = record { phase = Opening; tries = p.tries };
    } → IsUnderway asks p old old s
started asks p old s name digest name_is digest_is is = search (rules, arith)

-- the request as the loop makes it
pub sent : {S : Type 0} (asks : S → Ask → Option Heard → S → Type 0) (p : Push) (mid new : S) (digest : Digest)
    (ask : PushAsk) (h : Option Heard) → digest ≡ p.digest → asks mid (request_of p.name digest p.file ask) h new
    → asks mid (request p ask) h new
sent asks p mid new digest ask h digest_is done = search (rules, arith)

pub within_file : {S : Type 0} (asks : S → Ask → Option Heard → S → Type 0) (p : Push) (old new : S) (s : PushState)
    (ask : PushAsk) → IsUnderway asks p old new s → IsAskWithin s.plan.size ask → IsAskWithin (length p.file) ask
within_file asks p old new s ask so_far within = search (rules, arith)

pub ask_now : (p : Push) (s : PushState) (heard : List (Option Heard)) (ask : PushAsk)
    → s ≡ record { plan = plan_of p; stand = after_all p heard } → IsStepOf s (steps.Ask ask)
    → ask_at (plan_of p) (after_all p heard).phase ≡ Some ask
ask_now p s heard ask is step = search (rules, arith, step_asks)

-- one request more
pub moved : {S : Type 0} (asks : S → Ask → Option Heard → S → Type 0) (p : Push) (old mid new : S) (s next : PushState)
    (ask : PushAsk) (h : Option Heard) → IsUnderway asks p old mid s → IsStepOf s (steps.Ask ask)
    → asks mid (request p ask) h new → next ≡ standing_at s (turn s.plan s.stand h) → IsUnderway asks p old new next
moved asks p old mid new s next ask h so_far step asked_it is =
    let now = ask_now p s so_far.heard ask so_far.stands step in
    record {
      heard = h ∷ so_far.heard;
      leads = subst (λ (a : Option PushAsk). Leads asks old (logged p a h (log_of p so_far.heard)) new) (sym now)
          (mid, so_far.leads, asked_it);
      stands = is ∙ ap (λ (t : PushState). standing_at t (turn t.plan t.stand h)) so_far.stands;
    }

-- fewer requests are left
pub fewer : {S : Type 0} (asks : S → Ask → Option Heard → S → Type 0) (p : Push) (old mid : S) (s next : PushState)
    (ask : PushAsk) (h : Option Heard) → IsLawfulPush p → IsUnderway asks p old mid s → IsStepOf s (steps.Ask ask)
    → next ≡ standing_at s (turn s.plan s.stand h) → asks_left next.plan next.stand < asks_left s.plan s.stand
unfolding Falls
fewer asks p old mid s next ask h lawful so_far step is =
    search (rules, arith, ask_now, turn_falls, lawful_plan, all_within, asked, asks_left)

pub ended : {S : Type 0} (asks : S → Ask → Option Heard → S → Type 0) (p : Push) (old new : S) (s : PushState)
    (end : Result Outcome PushFault) → IsUnderway asks p old new s → IsEnd s.stand.phase end → IsPush asks p old new end
ended asks p old new s end so_far is = search (rules, arith)

-- the transport was asked nothing more
pub unasked : {S : Type 0} (asks : S → Ask → Option Heard → S → Type 0) (p : Push) (old mid new : S) (s : PushState)
    (end : Result Outcome PushFault) → IsUnderway asks p old mid s → new ≡ mid → IsEnd s.stand.phase end
    → IsPush asks p old new end
unasked asks p old mid new s end so_far same is = search (rules, arith, ended)
