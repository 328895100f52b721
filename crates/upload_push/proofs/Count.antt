-- The number of requests falls.
use Rattle.std.proofs.Common.{◌≡◌, ℕ, zero, suc, ◌+◌, ◌-◌, ◌*◌, ◌<◌, ◌≤◌, min, true, false, nat_lt, nat_le}
use Rattle.std.proofs.Common.{List, [], ◌∷◌, length, Option, Some, None, refl, arith, rules}
use Rattle.std.proofs.Math.Nat.{div-mul-le_self}
use Rattle.std.proofs.lemmas.Nat.{le-div, div_below}
use Rattle.std.proofs.lemmas.Bool.{eqb-false, ltb-true, leb-true, leb-false}
use Rattle.upload_push.proofs.Cases.{cond_case}
use Rattle.upload_push.specs.Steps.{Plan, Stand, IsLawfulPlan, IsWithin, turn, phase_answered, unheard, retry}
use Rattle.upload_push.specs.Steps.{send_from}
use Rattle.upload_push.specs.Steps.{opened, chunk_confirmed, chunk_end, ask_at}
use Rattle.upload_push.specs.Slices.{Push, IsLawfulPush, chunks, most_asks, after_all, log_of, logged, plan_of}
use Rattle.upload_push.specs.Slices.{Attempt}
use Rattle.upload_push.proofs.AsksLeft.{most_in_try, left_in_try, asks_left}
use Rattle.upload_client.specs.declared.heard.Heard.{Heard}
use Rattle.upload_push.specs.declared.pusher.PushAsk.{PushAsk}
use Rattle.upload_push.specs.declared.pusher.Phase.{Phase}

-- more bytes make as many chunks or more
pub chunks_mono : (a b c : ℕ) → 1 ≤ c → a ≤ b → chunks a c ≤ chunks b c
chunks_mono a b c pos le = search (rules, arith, div-mul-le_self, le-div)

-- a chunk taken off is one fewer
pub chunks_fewer : (rest next c : ℕ) → 1 ≤ c → next + c ≡ rest → chunks next c + 1 ≤ chunks rest c
chunks_fewer rest next c pos e = search (rules, arith, div-mul-le_self, le-div)

pub chunks_none : (c : ℕ) → 1 ≤ c → chunks 0 c ≡ 0
chunks_none c pos = omega (arith, div_below (0 + (c - 1)) c 1 (omega arith) (omega arith))

pub chunks_some : (rest c : ℕ) → 1 ≤ c → 1 ≤ rest → 1 ≤ chunks rest c
chunks_some rest c pos some = le-div 1 (rest + (c - 1)) c (omega arith) (omega arith)

pub chunks_next : (size offset c : ℕ) → 1 ≤ c → offset < size
    → chunks (size - min (offset + c) size) c + 1 ≤ chunks (size - offset) c
chunks_next size offset c pos lt =
    elim (nat_le (offset + c) size)
    as (λ b. nat_le (offset + c) size ≡ b → chunks (size - min (offset + c) size) c + 1 ≤ chunks (size - offset) c) [
      | true ↦ λ is.
          let le : offset + c ≤ size = leb-true (offset + c) size is in
          let sum : (size - min (offset + c) size) + c ≡ size - offset = omega arith in
          chunks_fewer (size - offset) (size - min (offset + c) size) c pos sum
      | false ↦ λ is.
          let gt : size < offset + c = leb-false (offset + c) size is in
          let none : size - min (offset + c) size ≡ 0 = omega arith in
          let zero_chunks = chunks_none c pos in
          let some = chunks_some (size - offset) c pos (omega arith) in
          rw none (omega arith)
    ] refl

-- a number of tries, with one more
pub mul_pred : (t k : ℕ) → (t ≡ 0 → ⊥) → (t - 1) * k + k ≡ t * k
mul_pred zero k some = absurd (some refl)
mul_pred (suc t) k some = grind arith

-- a try that is taken leaves room for this phase
pub retry_left : (p : Plan) (s : Stand) (phase : Phase) → left_in_try p phase ≤ most_in_try p
    → asks_left p (retry s phase) ≤ s.tries * most_in_try p
retry_left p s phase room = search (rules, arith, cond_case, asks_left, most_in_try, mul_pred, eqb-false)

pub lawful_plan : (p : Push) → IsLawfulPush p → IsLawfulPlan (plan_of p)
lawful_plan p lawful = record { size = lawful.size; chunk_least = lawful.chunk_least; chunk_most = lawful.chunk_most }

-- each request makes what is left fall
abbrev pub asked : Option PushAsk → ℕ
asked None = 0
asked (Some ask) = 1

pub asked_once : (ask : Option PushAsk) → asked ask ≤ 1
asked_once None = omega arith
asked_once (Some ask) = omega arith

unfoldable pub Falls : Plan → Stand → Phase → Stand → Type 0
Falls p s phase next = asks_left p next + asked (ask_at p phase) ≤ s.tries * most_in_try p + left_in_try p phase

pub unheard_falls : (p : Plan) (s : Stand) (phase : Phase) → s.phase ≡ phase → IsLawfulPlan p → IsWithin p.size phase
    → Falls p s phase (unheard s phase)
unfolding Falls
unheard_falls p s phase h1 h2 h3 = search (rules, arith, retry_left, asked_once, left_in_try)

-- what is left if the server names an offset
pub send_from_left : (p : Plan) (at : List ℕ) (offset : ℕ) → IsLawfulPlan p
    → left_in_try p (send_from p at offset) ≤ chunks p.size p.chunk + 1
send_from_left p at offset lawful = grind (arith, cond_case, left_in_try, nat_le, chunks_mono)

pub opened_left : (p : Plan) (place : Option (List ℕ)) → IsLawfulPlan p
    → left_in_try p (opened place) ≤ chunks p.size p.chunk + 1
opened_left p place = search (rules, arith, chunks_mono)

pub taken_left : (p : Plan) (offset : ℕ) (place : Option (List ℕ)) (upto : Option ℕ) → IsLawfulPlan p → offset < p.size
    → left_in_try p (chunk_confirmed (chunk_end p offset) place upto) ≤ chunks (p.size - offset) p.chunk
taken_left p offset place upto = search (rules, arith, chunks_next, cond_case, left_in_try)

pub answered_falls : (p : Plan) (s : Stand) (phase : Phase) (h : Heard) → s.phase ≡ phase → IsLawfulPlan p
    → IsWithin p.size phase → Falls p s phase (phase_answered p s phase h)
unfolding Falls
answered_falls p s phase h1 h2 h3 h4 =
    grind (
      arith,
      opened_left,
      asked_once,
      cond_case,
      nat_lt,
      ltb-true,
      taken_left,
      send_from_left,
      retry_left,
      left_in_try,
    )

pub turn_falls : (p : Plan) (s : Stand) (heard : Option Heard) → IsLawfulPlan p → IsWithin p.size s.phase
    → Falls p s s.phase (turn p s heard)
turn_falls p s None lawful within = unheard_falls p s s.phase refl lawful within
turn_falls p s (Some h) lawful within = search (rules, arith, cond_case, unheard_falls, answered_falls)

-- the offset stays within the file
pub Stays : Plan → Stand → Type 0
Stays p s = IsWithin p.size s.phase

pub retry_within : (p : Plan) (s : Stand) (phase : Phase) → IsWithin p.size phase → Stays p (retry s phase)
unfolding Stays
retry_within p s phase within = search (rules, arith, cond_case)

pub send_from_within : (p : Plan) (at : List ℕ) (offset : ℕ) → IsWithin p.size (send_from p at offset)
send_from_within p at offset = search (rules, arith, cond_case, nat_le, leb-true)

pub opened_within : (p : Plan) (place : Option (List ℕ)) → IsWithin p.size (opened place)
opened_within p (Some at) = omega arith
opened_within p None = tt

pub taken_within : (p : Plan) (offset : ℕ) (place : Option (List ℕ)) (upto : Option ℕ)
    → IsWithin p.size (chunk_confirmed (chunk_end p offset) place upto)
taken_within p offset = search (rules, arith, cond_case)

pub unheard_within : (p : Plan) (s : Stand) (phase : Phase) → s.phase ≡ phase → IsWithin p.size phase
    → Stays p (unheard s phase)
unfolding Stays
unheard_within p s phase h1 h2 = search (rules, arith, retry_within)

pub answered_within : (p : Plan) (s : Stand) (phase : Phase) (h : Heard) → s.phase ≡ phase → IsWithin p.size phase
    → Stays p (phase_answered p s phase h)
unfolding Stays
answered_within p s phase h1 h2 h3 =
    search (rules, arith, cond_case, opened_within, nat_lt, taken_within, retry_within, send_from_within)

pub turn_within : (p : Plan) (s : Stand) (heard : Option Heard) → IsWithin p.size s.phase
    → IsWithin p.size (turn p s heard).phase
unfolding Stays
turn_within p s None within = unheard_within p s s.phase refl within
turn_within p s (Some h) within = search (rules, arith, cond_case, unheard_within, answered_within)

pub all_within : (p : Push) (heard : List (Option Heard)) → IsWithin (length p.file) (after_all p heard).phase
all_within p [] = tt
all_within p (h ∷ earlier) = turn_within (plan_of p) (after_all p earlier) h (all_within p earlier)

pub length-logged : (p : Push) (ask : Option PushAsk) (h : Option Heard) (log : List Attempt)
    → length (logged p ask h log) ≡ length log + asked ask
length-logged p None h log = omega arith
length-logged p (Some ask) h log = omega arith

pub counted_all : (p : Push) (heard : List (Option Heard)) → IsLawfulPush p
    → length (log_of p heard) + asks_left (plan_of p) (after_all p heard) ≤ most_asks p
unfolding Falls
counted_all p [] lawful = grind arith
counted_all p (h ∷ earlier) lawful =
    let plan = lawful_plan p lawful in
    let so_far = counted_all p earlier lawful in
    let falls = turn_falls (plan_of p) (after_all p earlier) h plan (all_within p earlier) in
    let more = length-logged p (ask_at (plan_of p) (after_all p earlier).phase) h (log_of p earlier) in
    omega (arith, so_far, falls, more)

pub counted : (p : Push) (heard : List (Option Heard)) → IsLawfulPush p → length (log_of p heard) ≤ most_asks p
counted p heard lawful = let all = counted_all p heard lawful in omega (arith, all)
