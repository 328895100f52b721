-- A push over a lossy world is one in a run: what the world's events bring is a run of its service.
use Rattle.std.proofs.Common.{◌≡◌, ℕ, inl, inr, true, arith, List, [], ◌∷◌, Option, Some, None, refl, ap, subst, sym}
use Rattle.std.proofs.Common.{rules}
use Rattle.upload_service.specs.declared.ask.Ask.{Ask}
use Rattle.upload_service.specs.declared.ask.Ask.TheVariants as asks
use Rattle.upload_service.specs.declared.answer.Answer.{Answer}
use Rattle.upload_service.specs.Machine.{State, Turn}
use Rattle.upload_client.specs.Heard.{reply_heard}
use Rattle.upload_client.specs.declared.heard.Heard.{Heard}
use Rattle.upload_push.specs.Looking.{is_found, LookPromise}
use Rattle.upload_push.specs.Promise.{Avoids, AvoidAll, others_in_front, events_left, events_after, IsQuiet}
use Rattle.upload_push.specs.Promise.{PushPromise}
use Rattle.upload_push.specs.Runs.{AskedInRun, IsHeardOf, IsHarmless, AreHarmless, IsQuietRun}
use Rattle.upload_push.specs.Slices.{Push, Attempt, IsHead, HeardStatus, Leads, IsPush, heard_place, log_of}
use Rattle.upload_push.specs.World.{World, world_with, world_later, Reaches, AskedBy, Asked, IsSecret}
use Rattle.upload_push.specs.declared.world.Event.{Event}
use Rattle.upload_push.specs.declared.world.Event.TheVariants.{Delivered, ReplyLost, NotDelivered, Other, Passes}
use Rattle.upload_push.proofs.Ends.{there_by_pair}
use Rattle.upload_push.proofs.Worth.{Laws, lawful_after, looked_pair, pair_at_end, worth_in_run}

heard_of : (answer : Answer) (heard : Option Heard) → Reaches answer heard → IsHeardOf answer heard
heard_of answer heard (inl told) = inr ((reply_heard answer).code, told)
heard_of answer heard (inr lost) = inl lost

turned : (w : World) (rest : List Event) (ask : Ask) (heard : Option Heard) (new : World) (answer : Answer)
    (mid : State) → IsSecret w.secret → Turn w.service ask w.secret w.now answer mid → Reaches answer heard
    → new ≡ world_with w mid rest → AskedInRun w.service ask heard new.service
turned w rest ask heard new answer mid is_secret turn reaches is =
    record {
      before = [];
      met = w.service;
      run = refl;
      comes = inl (record {
        secret = w.secret;
        now = w.now;
        answer = answer;
        is_secret = is_secret;
        turn =
            subst (λ (s : State). Turn w.service ask w.secret w.now answer s)
            (sym (ap (λ (x : World). x.service) is)) turn;
        reaches = heard_of answer heard reaches;
      });
    }

-- one request, by the events to come
in_run : (w : World) (events : List Event) (ask : Ask) (heard : Option Heard) (new : World) → IsSecret w.secret
    → AskedBy w events ask heard new → AskedInRun w.service ask heard new.service
in_run w (Other other ∷ events) ask heard new is_secret asked =
    let after = in_run (world_with w asked.1 events) events ask heard new is_secret asked.3 in
    record {
      before = record { ask = other; secret = w.secret; now = w.now; answer = asked.0 } ∷ after.before;
      met = after.met;
      run = (asked.1, asked.2, after.run);
      comes = after.comes;
    }
in_run w (Passes seconds ∷ events) ask heard new is_secret asked =
    in_run (world_later w seconds events) events ask heard new is_secret asked
in_run w (Delivered ∷ events) ask heard new is_secret asked =
    turned w events ask heard new asked.0 asked.1 is_secret asked.2 asked.3 asked.4
in_run w (ReplyLost ∷ events) ask heard new is_secret asked =
    turned w events ask heard new asked.0 asked.1 is_secret asked.2 (inr asked.3) asked.4
in_run w (NotDelivered ∷ events) ask heard new is_secret asked =
    record { before = []; met = w.service; run = refl; comes = inr (ap (λ (x : World). x.service) asked.1, asked.0) }
in_run w [] ask heard new is_secret asked = turned w [] ask heard new asked.0 asked.1 is_secret asked.2 asked.3 asked.4

-- its secret stays, and these events are left
record Stays (w : World) (events : List Event) (new : World) : Type 0 where
  secret : new.secret ≡ w.secret
  left : new.events ≡ events_left events

stays : (w : World) (events : List Event) (ask : Ask) (heard : Option Heard) (new : World)
    → AskedBy w events ask heard new → Stays w events new
stays w (Other other ∷ events) ask heard new asked =
    search (rules, arith, stays (world_with w asked.1 events) events ask heard new asked.3)
stays w (Passes seconds ∷ events) ask heard new asked =
    search (rules, arith, stays (world_later w seconds events) events ask heard new asked)
stays w (Delivered ∷ events) ask heard new asked = search (rules, arith)
stays w (ReplyLost ∷ events) ask heard new asked = search (rules, arith)
stays w (NotDelivered ∷ events) ask heard new asked = search (rules, arith)
stays w [] ask heard new asked = search (rules, arith)

harmless : (p : Push) (place : Option (List ℕ)) (ask : Ask) → Avoids place ask → IsHarmless p place ask
harmless p None ask avoids = tt
harmless p (Some at) ask avoids = inl avoids

-- what is served in front of it is harmless
quiet_before : (p : Push) (place : Option (List ℕ)) (w : World) (events : List Event) (ask : Ask) (heard : Option Heard)
    (new : World) (is_secret : IsSecret w.secret)
    → (asked : AskedBy w events ask heard new) → AvoidAll place (others_in_front events)
    → AreHarmless p place (in_run w events ask heard new is_secret asked).before
unfolding in_run turned
quiet_before p place w (Other other ∷ events) ask heard new is_secret asked avoid =
    search (
      rules,
      arith,
      harmless,
      quiet_before p place (world_with w asked.1 events) events ask heard new is_secret asked.3 avoid.1,
    )
quiet_before p place w (Passes seconds ∷ events) ask heard new is_secret asked avoid =
    grind (arith, quiet_before p place (world_later w seconds events) events ask heard new is_secret asked avoid)
quiet_before p place w (Delivered ∷ events) ask heard new is_secret asked avoid = tt
quiet_before p place w (ReplyLost ∷ events) ask heard new is_secret asked avoid = tt
quiet_before p place w (NotDelivered ∷ events) ask heard new is_secret asked avoid = tt
quiet_before p place w [] ask heard new is_secret asked avoid = tt

-- ---- the requests of a push

record StaysAll (old : World) (log : List Attempt) (new : World) : Type 0 where
  secret : new.secret ≡ old.secret
  left : new.events ≡ events_after old.events log

stays_all : (old new : World) (log : List Attempt) → Leads Asked old log new → StaysAll old log new
stays_all old new [] leads = search (rules, arith)
stays_all old new (e ∷ log) leads = search (rules, arith, stays, stays_all old leads.0 log leads.1)

secret_after : (old mid : World) (log : List Attempt) → IsSecret old.secret → Leads Asked old log mid
    → IsSecret mid.secret
secret_after old mid log is_secret leads = subst IsSecret (sym (stays_all old mid log leads).secret) is_secret

leads_in_run : (old new : World) (log : List Attempt) → IsSecret old.secret → Leads Asked old log new
    → Leads AskedInRun old.service log new.service
leads_in_run old new [] is_secret leads = ap (λ (w : World). w.service) leads
leads_in_run old new (e ∷ log) is_secret leads = (
  leads.0.service,
  leads_in_run old leads.0 log is_secret leads.1,
  in_run leads.0 leads.0.events e.ask e.heard new (secret_after old leads.0 log is_secret leads.1) leads.2,
)

quiet_in_run : (p : Push) (old new : World) (log : List Attempt)
    (is_secret : IsSecret old.secret) (leads : Leads Asked old log new) → IsQuiet p.name old.events log
    → IsQuietRun p log old.service new.service (leads_in_run old new log is_secret leads)
unfolding leads_in_run
quiet_in_run p old new [] is_secret leads quiet = tt
quiet_in_run p old new (e ∷ log) is_secret leads quiet =
    let A : List Event → Type 0 = λ es. AvoidAll (heard_place p.name log) (others_in_front es) in (
      quiet_before p (heard_place p.name log) leads.0 leads.0.events e.ask e.heard new
          (secret_after old leads.0 log is_secret leads.1) leads.2
          (subst A (sym (stays_all old leads.0 log leads.1).left) quiet.0),
      quiet_in_run p old leads.0 log is_secret leads.1 quiet.1,
    )

-- ---- promises

pub worth : Laws → PushPromise
worth laws p old new end lawful_push lawful push =
    let log = log_of p push.heard in
    let leads = leads_in_run old new log lawful.secret push.leads in
    let inside : IsPush AskedInRun p old.service new.service end =
    record { heard = push.heard; leads = leads; ends = push.ends } in
    let worth = worth_in_run laws p old.service new.service end lawful_push lawful.service inside in
    record {
      pushed = λ is quiet. worth.pushed is (quiet_in_run p old new log lawful.secret push.leads quiet);
      pushed_beside_others = worth.pushed_beside_others;
      already = worth.already;
      lawful = record { service = worth.lawful; secret = secret_after old new log lawful.secret push.leads };
    }

-- a look that found the blob heard a 200
found_status : (first : Option Heard) → is_found first ≡ true → HeardStatus first 200
found_status None found = grind arith
found_status (Some h) found = grind arith

-- what a look for the blob is worth
pub look_worth : Laws → LookPromise
look_worth laws p old new first lawful asked =
    let log : List Attempt = record { ask = asks.Has p.name p.digest true; heard = first } ∷ [] in
    let leads : Leads Asked old log new = (old, refl, asked) in
    let inside = leads_in_run old new log lawful.secret leads in
    let after = lawful_after laws old.service new.service log lawful.service inside in (
      record { service = after; secret = secret_after old new log lawful.secret leads },
      λ found. there_by_pair p new.service after (pair_at_end p old.service new.service log IsHead 200 (looked_pair p)
          ((refl, refl, refl), tt) inside ((p.name, p.digest, refl), found_status first found)),
    )
