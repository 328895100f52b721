-- Each request is right after what was asked and heard before it.
use Rattle.std.proofs.Common.{◌≡◌, ℕ, ◌-◌, true, false, ◌==◌, nat_lt, nat_le, if◌then◌else◌, List, []}
use Rattle.std.proofs.Common.{◌∷◌, length, Option, Some, None, refl, arith, subst, sym, inl, inr, ◌⊎◌, ◌∙◌, rules}
use Rattle.std.proofs.lemmas.Bool.{eqb-true, ne_eqb, ltb-true, ltb-false}
use Rattle.upload_push.proofs.Cases.{cond_case, cond_case_both, cond_yes, cond_no}
use Rattle.upload_push.proofs.Count.{all_within}
use Rattle.upload_push.specs.Steps.{Plan, Stand, IsOver, IsWithin, turn, turn_at, phase_answered, unheard, retry}
use Rattle.upload_push.specs.Steps.{send_from}
use Rattle.upload_push.specs.Steps.{opened, chunk_confirmed, place_of, refused_by, to_phase, chunk_end, count_to}
use Rattle.upload_push.specs.Steps.{ask_at}
use Rattle.upload_push.specs.Slices.{Push, IsLawfulPush, Attempt, after_all, log_of, logged, plan_of}
use Rattle.upload_push.specs.Slices.{heard_offset, heard_place, place_after, IsSound, LastIsAnswered, EndsRefused}
use Rattle.upload_push.specs.Slices.{AreUnheard}
use Rattle.upload_push.specs.Slices.{IsClose, IsHead}
use Rattle.upload_client.specs.declared.heard.Heard.{Heard}
use Rattle.upload_push.specs.declared.pusher.PushAsk.{PushAsk}
use Rattle.upload_push.specs.declared.pusher.PushAsk.TheVariants as asks
use Rattle.upload_push.specs.declared.pusher.Outcome.TheVariants.{Pushed, Already}
use Rattle.upload_push.specs.declared.pusher.Why.TheVariants.{Refused, BadServer, OutOfTries}
use Rattle.upload_push.specs.declared.pusher.Phase.{Phase}
use Rattle.upload_push.specs.declared.pusher.Phase.TheVariants.{Opening, Sending, Asking, Looking, Done, GaveUp}

-- what a phase says of the log
abbrev pub Tracks : Push → List Attempt → Phase → Type 0
Tracks p log Opening = Unit {0}
Tracks p log (Sending at offset) = (heard_place p.name log ≡ Some at) × (heard_offset log ≡ offset)
Tracks p log (Asking at) = heard_place p.name log ≡ Some at
Tracks p log Looking = Unit {0}
Tracks p log (Done Pushed) = LastIsAnswered IsClose 201 log
Tracks p log (Done Already) = LastIsAnswered IsHead 200 log
Tracks p log (GaveUp (Refused status code)) = EndsRefused status code log
Tracks p log (GaveUp BadServer) = Unit {0}
Tracks p log (GaveUp OutOfTries) = Unit {0}

pub Follows : Push → List Attempt → Stand → Type 0
Follows p log s = Tracks p log s.phase

pub retry_follows : (p : Push) (log : List Attempt) (s : Stand) (phase : Phase) → Tracks p log phase
    → Follows p log (retry s phase)
unfolding Follows
retry_follows p log s phase tracks = cond_case (Follows p log) (s.tries == 0) _ _ (λ is. tt) (λ not. tracks)

pub send_from_follows : (p : Push) (log : List Attempt) (at : List ℕ) (offset : ℕ)
    → heard_place p.name log ≡ Some at → heard_offset log ≡ offset → Tracks p log (send_from (plan_of p) at offset)
send_from_follows p log at offset place is = search (rules, arith, cond_case, nat_le)

pub opened_follows : (p : Push) (log : List Attempt) (place : Option (List ℕ))
    → heard_place p.name log ≡ place → heard_offset log ≡ 0 → Tracks p log (opened place)
opened_follows p log (Some at) is none = (is, none)
opened_follows p log None is none = tt

pub taken_follows : (p : Push) (log : List Attempt) (end : ℕ) (place : Option (List ℕ)) (upto : Option ℕ)
    → heard_place p.name log ≡ place → heard_offset log ≡ count_to upto → Tracks p log (chunk_confirmed end place upto)
taken_follows p log end place upto = search (rules, arith, cond_case, eqb-true)

-- what follows from one more exchange
pub Next : Push → List Attempt → Option Heard → Option PushAsk → Stand → Type 0
Next p log heard ask s = Tracks p (logged p ask heard log) s.phase

pub unheard_next : (p : Push) (log : List Attempt) (s : Stand) (phase : Phase) (heard : Option Heard) → s.phase ≡ phase
    → Tracks p log phase → (place_after p.name heard (heard_place p.name log) ≡ heard_place p.name log)
    → Next p log heard (ask_at (plan_of p) phase) (unheard s phase)
unfolding Next Follows
unheard_next p log s phase heard h1 h2 h3 = search (rules, arith, retry_follows, cond_case, nat_lt)

-- a status that is one number isn't another
pub other : (status one two : ℕ) → (status == one) ≡ true → (one ≡ two → ⊥) → (status == two) ≡ false
other status one two is differ = ne_eqb status two (λ e. differ (sym (eqb-true status one is) ∙ e))

pub chunk_next : (p : Push) (log : List Attempt) (s : Stand) (at : List ℕ) (offset : ℕ) (h : Heard)
    → Tracks p log (Sending at offset)
    → Next p log (Some h) (Some (asks.Chunk at (record { first = offset; last = chunk_end (plan_of p) offset - 1 })))
    (if h.status == 202 then to_phase s (chunk_confirmed (chunk_end (plan_of p) offset) (place_of p.name h) h.upto)
    else if h.status == 416 then retry s (send_from (plan_of p) at (count_to h.upto))
    else to_phase s (refused_by h))
unfolding Next Follows
chunk_next p log s at offset h tracks =
    search (rules, arith, cond_case, taken_follows, cond_yes, retry_follows, send_from_follows, cond_no)

pub answered_next : (p : Push) (log : List Attempt) (s : Stand) (phase : Phase) (h : Heard) → s.phase ≡ phase
    → Tracks p log phase → Next p log (Some h) (ask_at (plan_of p) phase) (phase_answered (plan_of p) s phase h)
unfolding Next Follows
answered_next p log s phase h1 h2 h3 =
    search (
      rules,
      arith,
      cond_case,
      opened_follows,
      cond_yes,
      cond_case_both,
      nat_lt,
      chunk_next,
      eqb-true,
      send_from_follows,
      cond_no,
      other,
    )

pub turn_next : (p : Push) (log : List Attempt) (s : Stand) (heard : Option Heard) → Tracks p log s.phase
    → Tracks p (logged p (ask_at (plan_of p) s.phase) heard log) (turn (plan_of p) s heard).phase
unfolding Next
turn_next p log s None tracks = unheard_next p log s s.phase None refl tracks refl
turn_next p log s (Some h) tracks = search (rules, arith, cond_case, unheard_next, cond_no, other, answered_next)

-- a log tells where its push stands
pub all_tracks : (p : Push) (heard : List (Option Heard)) → Tracks p (log_of p heard) (after_all p heard).phase
all_tracks p [] = tt
all_tracks p (h ∷ earlier) = turn_next p (log_of p earlier) (after_all p earlier) h (all_tracks p earlier)

pub sound_next : (p : Push) (log : List Attempt) (phase : Phase) (heard : Option Heard) → IsLawfulPush p
    → IsWithin (length p.file) phase → Tracks p log phase → IsSound p log
    → IsSound p (logged p (ask_at (plan_of p) phase) heard log)
sound_next p log phase heard h1 h2 h3 h4 = search (rules, arith, cond_case, nat_lt, ltb-true, ltb-false)

pub all_sound : (p : Push) (heard : List (Option Heard)) → IsLawfulPush p → IsSound p (log_of p heard)
all_sound p [] lawful = tt
all_sound p (h ∷ earlier) lawful =
    search (rules, arith, sound_next, all_within, all_tracks, all_sound p earlier lawful)

pub pushed_last : (p : Push) (heard : List (Option Heard)) → (after_all p heard).phase ≡ Done Pushed
    → LastIsAnswered IsClose 201 (log_of p heard)
pushed_last p heard is = subst (Tracks p (log_of p heard)) is (all_tracks p heard)

pub already_last : (p : Push) (heard : List (Option Heard)) → (after_all p heard).phase ≡ Done Already
    → LastIsAnswered IsHead 200 (log_of p heard)
already_last p heard is = subst (Tracks p (log_of p heard)) is (all_tracks p heard)

pub refused_last : (p : Push) (heard : List (Option Heard)) (status : ℕ) (code : Option (List ℕ))
    → (after_all p heard).phase ≡ GaveUp (Refused status code) → EndsRefused status code (log_of p heard)
refused_last p heard status code is = subst (Tracks p (log_of p heard)) is (all_tracks p heard)

-- a push to which nothing was said
abbrev Waits : Stand → Type 0
Waits s = (s.phase ≡ Opening) ⊎ (s.phase ≡ GaveUp OutOfTries)

waits_on : (p : Plan) (s : Stand) → Waits s → Waits (turn_at p s s.phase None)
waits_on p s (inl is) = search (rules, arith, cond_case)
waits_on p s (inr is) = subst (λ (phase : Phase). Waits (turn_at p s phase None)) (sym is) (inr is)

pub unheard_waits : (p : Push) (heard : List (Option Heard)) → AreUnheard heard → Waits (after_all p heard)
unheard_waits p [] none = inl refl
unheard_waits p (h ∷ earlier) none = search (rules, arith, waits_on, unheard_waits p earlier none.1)

-- once a push has ended, nothing changes it
over_at : (p : Plan) (s : Stand) (phase : Phase) (heard : Option Heard) → IsOver phase → turn_at p s phase heard ≡ s
over_at p s phase heard = search (rules, arith, cond_case)

pub over_stays : (p : Plan) (s : Stand) (heard : Option Heard) → IsOver s.phase → turn p s heard ≡ s
over_stays p s heard over = over_at p s s.phase heard over
