-- Sessions that fell idle, and what other requests leave of a session.
use Rattle.std.proofs.lemmas.Grind.{common_steps}
use Rattle.std.proofs.Common.{◌≡◌, ℕ, ◌+◌, ◌<◌, ◌≤◌, List, [], ◌∷◌, ◌++◌, true, false, Option, Some, None, refl}
use Rattle.std.proofs.Common.{sym, ◌∙◌, ap, ◌⊎◌, inl, inr, cond, arith, rules}
use Rattle.std.specs.Prelude.{◌||◌, ◌&&◌, IsTrue}
use Rattle.std.proofs.lemmas.Bool.{true≢false, ltb-true}
use Rattle.std.specs.FinMap as map
use Rattle.upload_names.specs.Reference.{number_of}
use Rattle.upload_service.specs.declared.limits.Limits.{Limits}
use Rattle.upload_service.specs.declared.ask.Ask.{Ask}
use Rattle.upload_service.specs.declared.answer.Answer.{Answer}
use Rattle.upload_service.specs.Machine.{same, is_idle, awake, swept, Session, State}
use Rattle.upload_service.specs.Machine.{SessionChange, AllStay, OneBegins, OneTakes, OneLeaves}
use Rattle.upload_service.specs.Machine.{sessions_with, Turn}
use Rattle.upload_service.specs.Run.{Exchange, Run, NeverBefore}
use Rattle.upload_service.specs.Session.{carries, begins, is_taken, touches, seen_of, is_late, is_lapsed}
use Rattle.upload_service.specs.Headline.{OthersLeaveIt}
use Rattle.upload_service.proofs.Keeping.Tables.{one_or_two, get-insert_same, get-insert_other, get-remove_same}
use Rattle.upload_service.proofs.Keeping.Tables.{get-remove_other, same_from_eq, same_from_ne, ne_from_same}
use Rattle.upload_service.proofs.Steps.{None≢Some, turn_fits}
use Rattle.upload_service.proofs.Effects.{and_false, FitsChange, state_with}
use Rattle.upload_service.proofs.Sweeps.{kept_or_left, was_there, idle_later}
use Rattle.upload_service.proofs.Turns.{IsNumbered, new_number, not_new}
use Rattle.upload_service.proofs.Alone.{numbered_if_lawful}
use Rattle.upload_service.proofs.Chunks.{numbered_turn}

-- a session that no request reaches from this moment on
abbrev pub IsOver : State → ℕ → List ℕ → Type 0
IsOver s now at =
    (number_of at ≤ s.issued)
    × ((session : Session) → map.get s.sessions at ≡ Some session → session.seen + s.limits.max_idle < now)

over_later : (s : State) (from now : ℕ) (at : List ℕ) → from ≤ now → IsOver s from at → IsOver s now at
over_later s from now at le over = omega arith

-- what this leaves of a table is of the table
over_by : (s t : State) (from now : ℕ) (at : List ℕ)
    → ((session : Session) → map.get t.sessions at ≡ Some session → map.get s.sessions at ≡ Some session)
    → s.issued ≤ t.issued → t.limits ≡ s.limits → from ≤ now → IsOver s from at → IsOver t now at
over_by s t from now at there le k later over = search (rules, arith)

over_with : (s : State) (ask : Ask) (secret : List ℕ) (from now : ℕ) (answer : Answer) (change : SessionChange)
    (rest : State) → FitsChange s ask secret now answer change
    → from ≤ now → (at : List ℕ) → IsOver s from at → IsOver (state_with s now change rest) now at
over_with s ask secret from now answer AllStay rest f later at over =
    omega (arith, over_by s (state_with s now AllStay rest) from now, state_with s now AllStay rest)
over_with s ask secret from now answer (OneBegins name new) rest f later at over =
    over_by s (state_with s now (OneBegins name new) rest) from now at
    (λ session e. was_there s now at session
    (sym (get-insert_other (swept s now) new _ at (not_new s secret at new f.0.is_new f.0.numbers_left over.0)) ∙ e))
    (omega arith) refl later over
over_with s ask secret from now answer (OneTakes name to got) rest f later at over =
    search (rules, arith, over_by, state_with, one_or_two, idle_later, true≢false, get-insert_other)
over_with s ask secret from now answer (OneLeaves to) rest f later at over =
    search (rules, arith, over_by, state_with, one_or_two, None≢Some, get-remove_same, get-remove_other)

over_turn : (s : State) (x : Exchange) (t : State) (from : ℕ) (at : List ℕ) → from ≤ x.now
    → Turn s x.ask x.secret x.now x.answer t → IsOver s from at → IsOver t x.now at
unfolding Turn
over_turn s x t from at later (inl did) over = search (rules, arith, over_with, turn_fits)
over_turn s x t from at later (inr lacked) over = search (rules, arith, over_later)

over_run : (x : Exchange) (xs : List Exchange) (s t : State) (from : ℕ) (at : List ℕ) → NeverBefore from (xs ++ x ∷ [])
    → Run s xs t → IsOver s from at → IsOver t x.now at
unfolding Turn
over_run x [] s t from at (later, never) e over = search (rules, arith, over_later)
over_run x (y ∷ ys) s t from at (later, never) (mid, turn, rest) over =
    search (rules, arith, over_turn, over_run x ys mid t y.now)

pub over_not_awake : (s : State) (now : ℕ) (at : List ℕ) → IsOver s now at → awake s now at ≡ None
over_not_awake s now at over = search (rules, arith, idle_later)

-- when a session was last touched is what the table says of it
pub record Tracks (s : State) (at : List ℕ) (touched : Option ℕ) : Type 0 where
  pub seen : (session : Session) → map.get s.sessions at ≡ Some session → touched ≡ Some session.seen
  pub issued : (moment : ℕ) → touched ≡ Some moment → number_of at ≤ s.issued

pub tracks_at_start : (s : State) (at : List ℕ) → IsNumbered s → Tracks s at (seen_of (map.get s.sessions at))
tracks_at_start s at h = search (rules, arith, None≢Some)

abbrev touched_by : List ℕ → Exchange → Option ℕ → Option ℕ
touched_by at x touched = cond (touches at x) (Some x.now) touched

tracks_kept : (s t : State) (x : Exchange) (at : List ℕ) (touched : Option ℕ) → touches at x ≡ false
    → ((session : Session) → map.get t.sessions at ≡ Some session → map.get s.sessions at ≡ Some session)
    → s.issued ≤ t.issued → Tracks s at touched → Tracks t at (touched_by at x touched)
tracks_kept s t x at touched apart there le tracks = search (rules, arith)

tracks_new : (t : State) (x : Exchange) (at : List ℕ) (touched : Option ℕ)
    → touches at x ≡ true → number_of at ≤ t.issued → (name received : List ℕ)
    → map.get t.sessions at ≡ Some (record { name = name; received = received; seen = x.now })
    → Tracks t at (touched_by at x touched)
tracks_new t x at touched own number name received is = search (rules, arith)

touches_none : (at : List ℕ) (x : Exchange) → begins at x.answer ≡ false → is_taken x.answer ≡ false
    → touches at x ≡ false
touches_none at x b t = (λ i. b i || (carries at x.ask && t i)) ∙ and_false (carries at x.ask)

tracks_with : (s : State) (x : Exchange) (change : SessionChange) (rest : State)
    → FitsChange s x.ask x.secret x.now x.answer change → IsNumbered s → (at : List ℕ)
    (touched : Option ℕ) → Tracks s at touched → Tracks (state_with s x.now change rest) at (touched_by at x touched)
tracks_with s x AllStay rest f h at touched tracks = search (rules, arith, tracks_kept, state_with, touches_none)
tracks_with s x (OneBegins name new) rest f h at touched tracks =
    let t : State = state_with s x.now (OneBegins name new) rest in
    elim (one_or_two at new) [
      | inl same ↦
          let n : number_of new ≡ s.issued + 1 = new_number s x.secret new f.0.is_new f.0.numbers_left in
          let m : number_of at ≡ number_of new = ap number_of same in
          tracks_new t x at touched
          (ap (λ b. b || (carries at x.ask && is_taken x.answer)) (ap (begins at) f.1 ∙ same_from_eq at new same))
          (omega arith) name [] (ap (map.get t.sessions) same ∙ get-insert_same (swept s x.now) new _)
      | inr other ↦
          tracks_kept s t x at touched
          (touches_none at x (ap (begins at) f.1 ∙ same_from_ne at new other) (ap is_taken f.1))
          (λ session q. was_there s x.now at session (sym (get-insert_other (swept s x.now) new _ at other) ∙ q))
          (omega arith) tracks
    ]
tracks_with s x (OneTakes name to got) rest f h at touched tracks =
    let t : State = state_with s x.now (OneTakes name to got) rest in
    let touches_to : touches at x ≡ (same at to && true) =
    (λ i. begins at (f.1 i) || (carries at (f.0.asked i) && is_taken (f.1 i))) in
    elim (one_or_two at to) [
      | inl same ↦
          tracks_new t x at touched (touches_to ∙ ap (λ b. b && true) (same_from_eq at to same))
          (h at f.0.found.session (ap (map.get s.sessions) same ∙ f.0.found.is_open)) name got
          (ap (map.get t.sessions) same ∙ get-insert_same s.sessions to _)
      | inr other ↦
          tracks_kept s t x at touched (touches_to ∙ ap (λ b. b && true) (same_from_ne at to other))
          (λ session q. sym (get-insert_other s.sessions to _ at other) ∙ q) (omega arith) tracks
    ]
tracks_with s x (OneLeaves to) rest f h at touched tracks =
    grind (arith, tracks_kept, state_with, touches_none, one_or_two, None≢Some, get-remove_same, get-remove_other)

tracks_turn : (s : State) (x : Exchange) (t : State) (at : List ℕ) (touched : Option ℕ) → IsNumbered s
    → Turn s x.ask x.secret x.now x.answer t → Tracks s at touched → Tracks t at (touched_by at x touched)
unfolding Turn
tracks_turn s x t at touched h (inl did) tracks = grind (arith, common_steps, tracks_with, turn_fits)
tracks_turn s x t at touched h (inr lacked) tracks = search (rules, arith, tracks_kept, touches_none)

limits_turn : (s : State) (x : Exchange) (t : State) → Turn s x.ask x.secret x.now x.answer t → t.limits ≡ s.limits
unfolding Turn
limits_turn s x t (inl did) = ap (λ q. q.limits) did.1
limits_turn s x t (inr lacked) = ap (λ q. q.limits) lacked.2

-- a late exchange finds the session over
late_is_over : (s : State) (now : ℕ) (at : List ℕ) (touched : Option ℕ) → Tracks s at touched
    → is_late s.limits.max_idle touched now ≡ true → IsOver s now at
late_is_over s now at None tracks late = absurd (true≢false (sym late))
late_is_over s now at (Some moment) tracks late = search (rules, arith, ltb-true)

pub lapsed_is_over : (limits : Limits) (at : List ℕ) (x : Exchange) (xs : List Exchange) (s t : State) (from : ℕ)
    (touched : Option ℕ) → s.limits ≡ limits → IsNumbered s → Tracks s at touched → NeverBefore from (xs ++ x ∷ [])
    → Run s xs t → is_lapsed limits.max_idle at touched xs x.now ≡ true → IsOver t x.now at
unfolding Turn
lapsed_is_over limits at x [] s t from touched m h tracks never run lapsed = search (rules, arith, late_is_over)
lapsed_is_over limits at x (y ∷ ys) s t from touched m h tracks (later, never) (mid, turn, rest) lapsed =
    elim (is_late limits.max_idle touched y.now) as (λ b. is_late limits.max_idle touched y.now ≡ b
    → (b || is_lapsed limits.max_idle at (touched_by at y touched) ys x.now) ≡ true → IsOver t x.now at) [
      | true ↦ λ late _.
          let over : IsOver s y.now at =
          late_is_over s y.now at touched tracks (ap (λ (k : Limits). is_late k.max_idle touched y.now) m ∙ late) in
          over_run x ys mid t y.now at never rest (over_turn s y mid y.now at (omega arith) turn over)
      | false ↦ λ _ more.
          lapsed_is_over limits at x ys mid t y.now (touched_by at y touched) (limits_turn s y mid turn ∙ m)
          (numbered_turn s y mid turn h) (tracks_turn s y mid at touched h turn tracks) never rest more
    ] refl lapsed

-- other requests
abbrev Stays : State → ℕ → State → List ℕ → Session → Type 0
Stays s now t at session =
    (map.get t.sessions at ≡ Some session)
    ⊎ (IsTrue (is_idle s.limits.max_idle now session) × (map.get t.sessions at ≡ None))

stays_with : (s : State) (ask : Ask) (secret : List ℕ) (now : ℕ) (answer : Answer) (change : SessionChange)
    (rest : State) → FitsChange s ask secret now answer change
    → IsNumbered s → (at : List ℕ) (session : Session) → map.get s.sessions at ≡ Some session → carries at ask ≡ false
    → Stays s now (state_with s now change rest) at session
stays_with s ask secret now answer AllStay rest f h at session e c = inl e
stays_with s ask secret now answer (OneBegins name new) rest f h at session e c =
    let there : map.get (sessions_with s now (OneBegins name new)) at ≡ map.get (swept s now) at =
    get-insert_other (swept s now) new _ at (not_new s secret at new f.0.is_new f.0.numbers_left (h at session e)) in
    elim (kept_or_left s now at) [
      | inl kept ↦ inl (there ∙ kept ∙ e)
      | inr left ↦
          let both : Some left.session ≡ Some session = sym left.was_open ∙ e in
          let is : left.session ≡ session = cc in
          inr (ap (is_idle s.limits.max_idle now) (sym is) ∙ left.idle, there ∙ left.left)
    ]
stays_with s ask secret now answer (OneTakes name to got) rest f h at session e c =
    search (rules, arith, get-insert_other, ne_from_same)
stays_with s ask secret now answer (OneLeaves to) rest f h at session e c =
    search (rules, arith, get-remove_other, ne_from_same)

pub others_leave_it : OthersLeaveIt
unfolding Turn
others_leave_it s ask secret now answer t lawful turn at session e = search (rules, arith, stays_with, turn_fits, numbered_if_lawful)
