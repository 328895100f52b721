-- What an open session has is what it received, and what a closed one takes.
use Rattle.std.proofs.lemmas.Grind.{common_steps}
use Rattle.std.proofs.Common.{◌≡◌, ℕ, ◌≤◌, List, [], ◌∷◌, ◌++◌, true, false, Option, Some, None, refl, sym, ◌∙◌, ap}
use Rattle.std.proofs.Common.{subst, ◌⊎◌, inl, inr, cond, arith, rules}
use Rattle.std.specs.Prelude.{◌||◌}
use Rattle.std.specs.FinMap as map
use Rattle.upload_names.specs.Reference.{number_of}
use Rattle.upload_service.specs.declared.ask.Ask.{Ask}
use Rattle.upload_service.specs.declared.answer.Answer.{Answer}
use Rattle.upload_service.specs.Machine.{swept, Session, State, SessionChange, AllStay, OneBegins}
use Rattle.upload_service.specs.Machine.{OneTakes, OneLeaves, issued_with, sessions_with}
use Rattle.upload_service.specs.Machine.{outcome}
use Rattle.std.specs.Prelude.{flat_map}
use Rattle.std.proofs.Common.{append_assoc}
use Rattle.std.proofs.lemmas.List.{append-nil}
use Rattle.std.proofs.lemmas.List.Elements.{filter-append}
use Rattle.upload_service.specs.Machine.{Turn}
use Rattle.upload_service.specs.Run.{Exchange, Run}
use Rattle.upload_service.specs.Session.{carries, is_same, begins, is_part, part, is_taken, is_stored, accepted_of}
use Rattle.upload_service.specs.Session.{accepted, taken, joined_chunks, bytes_of, received}
use Rattle.upload_service.proofs.Keeping.Tables.{one_or_two, get-insert_same, get-insert_other, get-remove_same}
use Rattle.upload_service.proofs.Keeping.Tables.{get-remove_other, same_from_eq, same_from_ne}
use Rattle.upload_service.proofs.Steps.{outcome_sound, None≢Some, turn_fits}
use Rattle.upload_service.proofs.Effects.{FitsChange, state_with, not_accepted}
use Rattle.upload_service.proofs.Sweeps.{kept_or_left, none_there}
use Rattle.upload_service.proofs.Turns.{IsNumbered, numbered_after, IsGone, not_new}

pub append_none : (xs : List ℕ) → xs ++ [] ≡ xs
append_none xs = append-nil xs

-- the body that this exchange gave the session
abbrev pub gave : List ℕ → Exchange → List (List ℕ)
gave at x = cond (is_part at x) (accepted x) []

pub taken-cons : (x : Exchange) (xs : List Exchange) (at : List ℕ)
    → taken (x ∷ xs) at ≡ gave at x ++ taken xs at
taken-cons x xs at = search (rules, arith)

flat_map-append : {A B : Type 0} (f : A → List B) (xs ys : List A)
    → flat_map f (xs ++ ys) ≡ flat_map f xs ++ flat_map f ys
flat_map-append f [] ys = refl
flat_map-append f (x ∷ xs) ys = cc (append_assoc (f x) (flat_map f xs) (flat_map f ys), flat_map-append f xs ys)

pub taken-append : (xs ys : List Exchange) (at : List ℕ)
    → taken (xs ++ ys) at ≡ taken xs at ++ taken ys at
taken-append xs ys at = cc (filter-append (is_part at) xs ys, flat_map-append accepted (part xs at) (part ys at))

joined-append : (xs ys : List (List ℕ)) → joined_chunks (xs ++ ys) ≡ joined_chunks xs ++ joined_chunks ys
joined-append xs ys = flat_map-append (λ chunk. chunk) xs ys

pub received-cons : (s : State) (x : Exchange) (xs : List Exchange) (at : List ℕ)
    → received s (x ∷ xs) at
    ≡ (bytes_of (map.get s.sessions at) ++ joined_chunks (gave at x)) ++ joined_chunks (taken xs at)
received-cons s x xs at = simp (taken-cons, joined-append, append_assoc)

pub received-push : (s : State) (xs : List Exchange) (x : Exchange) (at : List ℕ)
    → received s (xs ++ x ∷ []) at ≡ received s xs at ++ joined_chunks (gave at x)
received-push s xs x at = simp (taken-append, taken-cons, joined-append, append_none, append_assoc)

gave_none : (x : Exchange) (at : List ℕ) → accepted x ≡ [] → gave at x ≡ []
gave_none x at e = elim (is_part at x) as (λ b. cond b (accepted x) [] ≡ []) [ true ↦ e | false ↦ refl ]

gave_other : (x : Exchange) (at : List ℕ) → carries at x.ask ≡ false → begins at x.answer ≡ false → gave at x ≡ []
gave_other x at c b = ap (λ p. cond p (accepted x) []) (ap (λ q. q || begins at x.answer) c ∙ b)

pub gave_own : (x : Exchange) (at : List ℕ) → carries at x.ask ≡ true → gave at x ≡ accepted x
gave_own x at c = ap (λ q. cond (q || begins at x.answer) (accepted x) []) c

-- What is said of an open session after a turn: its bytes grew by what the exchange gave it, or it is gone.
abbrev Grew : State → State → List ℕ → Exchange → Type 0
Grew s t at x = bytes_of (map.get t.sessions at) ≡ bytes_of (map.get s.sessions at) ++ joined_chunks (gave at x)

kept : (s t : State) (at : List ℕ) (x : Exchange) → map.get t.sessions at ≡ map.get s.sessions at
    → gave at x ≡ [] → Grew s t at x
kept s t at x e g = cc (append_none _)

-- a reference whose number isn't issued has nothing
nothing_yet : (s : State) (at : List ℕ) (o : Option Session) → map.get s.sessions at ≡ o
    → ((session : Session) → o ≡ Some session → ⊥) → bytes_of o ≡ []
nothing_yet s at None e n = refl
nothing_yet s at (Some session) e n = absurd (n session refl)

grows_with : (s : State) (x : Exchange) (change : SessionChange) (rest : State)
    → FitsChange s x.ask x.secret x.now x.answer change → IsNumbered s → (at : List ℕ)
    → IsGone (state_with s x.now change rest) at ⊎ Grew s (state_with s x.now change rest) at x
grows_with s x AllStay rest f h at = search (rules, arith, kept, state_with, gave_none)
grows_with s x (OneBegins name new) rest f h at =
    let g : gave at x ≡ [] =
    gave_none x at (not_accepted x.ask x.answer (ap is_taken f.1) (ap is_stored f.1)) in
    let t : State = state_with s x.now (OneBegins name new) rest in
    elim (one_or_two at new) [
      | inl same ↦
          inr (ap bytes_of (ap (map.get t.sessions) same ∙ get-insert_same (swept s x.now) new _)
          ∙ sym (ap (λ c. bytes_of (map.get s.sessions at) ++ joined_chunks c) g ∙ append_none _
          ∙ nothing_yet s at (map.get s.sessions at) refl
          (λ session o. not_new s x.secret at new f.0.is_new f.0.numbers_left (h at session o) same)))
      | inr other ↦
          elim (kept_or_left s x.now at) [
            | inl still ↦ inr (kept s t at x (get-insert_other (swept s x.now) new _ at other ∙ still) g)
            | inr left ↦ inl (
              get-insert_other (swept s x.now) new _ at other ∙ left.left,
              let le : number_of at ≤ s.issued = h at left.session left.was_open in omega arith,
            )
          ]
    ]
grows_with s x (OneTakes name to got) rest f h at =
    let t : State = state_with s x.now (OneTakes name to got) rest in
    elim (one_or_two at to) [
      | inl same ↦
          let g : gave at x ≡ f.0.body ∷ [] =
          gave_own x at (ap (carries at) f.0.asked ∙ same_from_eq at to same)
          ∙ (λ i. accepted_of (f.0.asked i) (f.1 i)) in
          inr (ap bytes_of (ap (map.get t.sessions) same ∙ get-insert_same s.sessions to _)
          ∙ f.0.grown
          ∙ sym
          (ap (λ c. bytes_of (map.get s.sessions at) ++ joined_chunks c) g ∙ ap (λ b. bytes_of (map.get s.sessions at)
          ++ b) (append_none f.0.body)
          ∙ ap (λ o. bytes_of o ++ f.0.body) (ap (map.get s.sessions) same ∙ f.0.found.is_open)))
      | inr other ↦
          inr (kept s t at x (get-insert_other s.sessions to _ at other)
          (gave_other x at (ap (carries at) f.0.asked ∙ same_from_ne at to other) (ap (begins at) f.1)))
    ]
grows_with s x (OneLeaves to) rest f h at =
    elim (one_or_two at to) [
      | inl same ↦ inl (
        ap (map.get (map.remove s.sessions to)) same ∙ get-remove_same s.sessions to,
        h at f.found.session (ap (map.get s.sessions) same ∙ f.found.is_open),
      )
      | inr other ↦
          inr (kept s (state_with s x.now (OneLeaves to) rest) at x (get-remove_other s.sessions to at other)
          (gave_other x at (f.carried at ∙ same_from_ne at to other) (ap (is_same at) f.begins_none)))
    ]

-- a session that has left the table doesn't come back
gone_with : (s : State) (ask : Ask) (secret : List ℕ) (now : ℕ) (answer : Answer) (change : SessionChange)
    → FitsChange s ask secret now answer change → (at : List ℕ) → IsGone s at
    → (map.get (sessions_with s now change) at ≡ None) × (number_of at ≤ issued_with s.issued change)
gone_with s ask secret now answer AllStay f at g = g
gone_with s ask secret now answer (OneBegins name new) f at g =
    search (rules, arith, get-insert_other, not_new, none_there)
gone_with s ask secret now answer (OneTakes name to got) f at g = search (rules, arith, get-insert_other, None≢Some)
gone_with s ask secret now answer (OneLeaves to) f at g = search (rules, arith, get-remove_other, None≢Some)

pub gone_turn : (s : State) (x : Exchange) (t : State) (at : List ℕ) → Turn s x.ask x.secret x.now x.answer t
    → IsGone s at → IsGone t at
unfolding Turn
gone_turn s x t at (inl did) g = search (rules, arith, IsGone, gone_with, turn_fits)
gone_turn s x t at (inr lacked) g = subst (λ q. IsGone q at) (sym lacked.2) g

pub gone_run : (xs : List Exchange) (s t : State) (at : List ℕ) → Run s xs t → IsGone s at → IsGone t at
unfolding Turn
gone_run [] s t at e g = subst (λ q. IsGone q at) (sym e) g
gone_run (x ∷ xs) s t at (mid, turn, rest) g = gone_run xs mid t at rest (gone_turn s x mid at turn g)

pub numbered_turn : (s : State) (x : Exchange) (t : State) → Turn s x.ask x.secret x.now x.answer t
    → IsNumbered s → IsNumbered t
unfolding Turn
numbered_turn s x t (inl did) h =
    subst IsNumbered (sym did.1)
    (numbered_after s x.ask x.secret x.now (outcome s x.ask x.secret x.now) (outcome_sound s x.now x.ask x.secret) h)
numbered_turn s x t (inr lacked) h = subst IsNumbered (sym lacked.2) h

pub numbered_run : (xs : List Exchange) (s t : State) → Run s xs t → IsNumbered s → IsNumbered t
unfolding Turn
numbered_run [] s t e h = subst IsNumbered (sym e) h
numbered_run (x ∷ xs) s t (mid, turn, rest) h = numbered_run xs mid t rest (numbered_turn s x mid turn h)

grew_turn : (s : State) (x : Exchange) (t : State) (at : List ℕ) → Turn s x.ask x.secret x.now x.answer t → IsNumbered s
    → IsGone t at ⊎ Grew s t at x
unfolding Turn
grew_turn s x t at (inl did) h = search (rules, arith, IsGone, grows_with, turn_fits)
grew_turn s x t at (inr lacked) h = search (rules, arith, kept, gave_none, not_accepted)

-- THE INVARIANT: what an open session has is what it received.
pub open_is_received : (xs : List Exchange) (s t : State) (at : List ℕ) (session : Session) → Run s xs t → IsNumbered s
    → map.get t.sessions at ≡ Some session → session.received ≡ received s xs at
unfolding Turn
open_is_received [] s t at session e h is = cc (append_none _)
open_is_received (x ∷ xs) s t at session (mid, turn, rest) h is =
    grind (
      arith,
      common_steps,
      numbered_turn,
      grew_turn,
      None≢Some,
      gone_run,
      received-cons,
      open_is_received xs mid t,
    )
