-- The headline: what a session commits, what a chunk that misses does, and what a closed session takes.
use Rattle.std.proofs.Common.{◌≡◌, ◌≢◌, ℕ, ◌≤◌, List, [], ◌∷◌, ◌++◌, length, true, false, Option, Some, None}
use Rattle.std.proofs.Common.{refl, sym, ◌∙◌, ap, subst, inl, inr, arith, rules}
use Rattle.std.specs.Prelude.{◌||◌}
use Rattle.std.proofs.lemmas.Bool.{true≢false}
use Rattle.std.specs.FinMap as map
use Rattle.upload_names.specs.Reference.{number_of}
use Rattle.upload_names.specs.ByteRange.{Span}
use Rattle.upload_names.specs.Digest.{Digest}
use Rattle.upload_service.specs.declared.ask.Extent.{Extent}
use Rattle.upload_service.specs.declared.ask.Extent.TheVariants.{Given}
use Rattle.upload_service.specs.declared.answer.Refusal.TheVariants as refusals
use Rattle.upload_service.specs.declared.ask.Ask.{Ask}
use Rattle.upload_service.specs.declared.ask.Ask.TheVariants as asks
use Rattle.upload_service.specs.declared.answer.Answer.{Answer}
use Rattle.upload_service.specs.declared.answer.Answer.TheVariants as answers
use Rattle.upload_service.specs.UploadView.{Act}
use Rattle.upload_service.specs.UploadView.{answer_view}
use Rattle.upload_service.specs.Machine.{unless_idle, awake, Session, State, Outcome, Replies, SessionChange, AllStay}
use Rattle.upload_service.specs.Machine.{OneBegins, OneTakes, OneLeaves, effect, answer_of, issued_with, sessions_with}
use Rattle.upload_service.specs.Machine.{blobs_with, pairs_with, state_after, refused, Progress}
use Rattle.upload_service.specs.Machine.{body_fault, unless_fault, at_session, outcome}
use Rattle.upload_service.proofs.Keeping.Tables.{eq_from_same}
use Rattle.std.specs.List.{list_any}
use Rattle.std.proofs.lemmas.Bool.{eqb-true, false_from_ne_true}
use Rattle.upload_service.specs.Machine.{Turn, IsLawful, may_lack_memory}
use Rattle.upload_service.proofs.Claims.{CommitsItsChunks, MissedChunkChangesNothing, MisplacedOnlyThere}
use Rattle.upload_service.proofs.Claims.{ClosedTakesNothing}
use Rattle.upload_service.specs.Run.{Exchange, Run}
use Rattle.upload_service.specs.Session.{carries, received, closes_of}
use Rattle.upload_service.specs.Headline.{Aim, aim_by, aim_of, IsCommitted}
use Rattle.upload_service.proofs.Keeping.Tables.{get-remove_same, same_itself, blob-insert_same, contains-insert_same}
use Rattle.upload_service.proofs.UploadView.{named as named_session, carried}
use Rattle.upload_service.proofs.Steps.{outcome_of_view, outcome_sound, awake_is_open, turn_fits}
use Rattle.upload_service.proofs.Effects.{IsMisplaced, FitsChange, FitsStore, IsOutcome, state_with, not_closed}
use Rattle.upload_service.proofs.Effects.{closes_carried, FitsAnswer}
use Rattle.upload_service.proofs.Turns.{IsNumbered, IsGone}
use Rattle.upload_service.proofs.Alone.{numbered_if_lawful}
use Rattle.upload_service.specs.Session.{is_lapsed, seen_of}
use Rattle.upload_service.proofs.Idle.{over_not_awake, lapsed_is_over, tracks_at_start}
use Rattle.upload_service.proofs.Chunks.{append_none, gave, gave_own, received-push, gone_run}
use Rattle.upload_service.proofs.Chunks.{numbered_run, numbered_turn, open_is_received}

-- committed by a session
committed_with : (start : State) (front : List Exchange) (before : State) (x : Exchange) (change : SessionChange)
    (stored : Option (Digest × List ℕ)) (pair : Option (List ℕ × Digest)) → IsLawful start → Run start front before
    → FitsStore before x.now x.ask stored pair → (answer_view x.answer).pair ≡ pair
    → (name at : List ℕ) (range : Extent) (asked : Option Digest) (body : List ℕ) (name' : List ℕ) (digest : Digest)
    → x.ask ≡ asks.Close name at range asked body → x.answer ≡ answers.Stored name' digest
    → IsCommitted name asked
    (record { name = name'; digest = digest; blob = received start (front ++ x ∷ []) at })
    (state_with before x.now change
    (record before { blobs = blobs_with before.blobs stored; pairs = pairs_with before.pairs pair }))
unfolding Turn
committed_with start front before x change stored pair h1 h2 h3 h4 name at range asked body name' digest h5 h6 =
    search (
      rules,
      arith,
      IsNumbered,
      numbered_run,
      numbered_if_lawful,
      same_itself,
      gave,
      gave_own,
      open_is_received,
      received-push,
      append_none,
      blob-insert_same,
      contains-insert_same,
    )

pub commits_its_chunks : CommitsItsChunks
unfolding Turn
commits_its_chunks start front before x after m name at range asked body name' digest a r =
    elim m.turn [
      | inl did ↦
          subst (IsCommitted name asked
          (record { name = name'; digest = digest; blob = received start (front ++ x ∷ []) at })) (sym did.1)
          (let o : Outcome = outcome before x.ask x.secret x.now in
          let f : IsOutcome before x.ask x.secret x.now o = outcome_sound before x.now x.ask x.secret in
          committed_with start front before x (effect o).sessions (effect o).blob (effect o).pair m.lawful m.so_far
          f.store
          (ap (λ b. (answer_view b).pair) did.0 ∙ f.pair_told)
          name at range asked body name' digest a r)
      | inr lacked ↦ let no : answers.NoMemory ≡ answers.Stored name' digest = sym lacked.1 ∙ r in cc
    ]

-- a chunk that misses the offset
misses_next : (max_blob : ℕ) (upload : Progress) (r : Span) (body : List ℕ) (o : Outcome) → r.first ≢ upload.next
    → unless_fault (body_fault max_blob upload (Given r) body) o
    ≡ Replies (answers.Misplaced upload.name upload.at upload.next)
misses_next max_blob upload r body o n = search (rules, arith, false_from_ne_true, eqb-true)

missed_act : (s : State) (now : ℕ) (aim : Aim) (session : Session) → awake s now aim.at ≡ Some session
    → session.name ≡ aim.name → aim.first ≢ length session.received → (name at : List ℕ) (act : Act)
    → aim_by name at act ≡ Some aim → at_session s.limits.max_blob (awake s now at) name at act
    ≡ Replies (answers.Misplaced aim.name aim.at (length session.received))
missed_act s now aim session h1 h2 h3 name at act = search (rules, arith, named_session, misses_next)

missed : (s : State) (secret : List ℕ) (now : ℕ) (aim : Aim) (session : Session) → awake s now aim.at ≡ Some session
    → session.name ≡ aim.name → aim.first ≢ length session.received → (ask : Ask) → aim_of ask ≡ Some aim
    → outcome s ask secret now ≡ Replies (answers.Misplaced aim.name aim.at (length session.received))
missed s secret now aim session is_awake named miss ask e = search (rules, arith, outcome_of_view, missed_act)

-- a turn whose outcome hands nothing out
plain_turn : (s : State) (x : Exchange) (t : State) (answer : Answer) → Turn s x.ask x.secret x.now x.answer t
    → outcome s x.ask x.secret x.now ≡ Replies answer → may_lack_memory (Replies answer) ≡ false
    → (x.answer ≡ answer) × (t ≡ s)
unfolding Turn
plain_turn s x t answer (inl did) e plain = (did.0 ∙ ap answer_of e, did.1 ∙ ap (state_after s x.now) e)
plain_turn s x t answer (inr lacked) e plain = absurd (true≢false (sym lacked.0 ∙ ap may_lack_memory e ∙ plain))

pub missed_chunk_changes_nothing : MissedChunkChangesNothing
unfolding Turn
missed_chunk_changes_nothing start front before x after m aim aimed (session, is_awake, named) miss =
    let is_open : map.get before.sessions aim.at ≡ Some session =
    (awake_is_open before.limits.max_idle x.now (map.get before.sessions aim.at) session is_awake).0 in
    let had : session.received ≡ received start front aim.at =
    open_is_received front start before aim.at session m.so_far (numbered_if_lawful start m.lawful) is_open in
    let e : outcome before x.ask x.secret x.now
    ≡ Replies (answers.Misplaced aim.name aim.at (length (received start front aim.at))) =
    missed before x.secret x.now aim session is_awake named (λ q. miss (q ∙ ap length had)) x.ask aimed
    ∙ ap (λ b. Replies (answers.Misplaced aim.name aim.at (length b))) had in
    plain_turn before x after _ m.turn e refl

pub misplaced_only_there : MisplacedOnlyThere
unfolding Turn
misplaced_only_there start front before x after m name at next r =
    search (rules, arith, IsMisplaced, FitsAnswer, outcome_sound, open_is_received, numbered_if_lawful)

-- closed
closing_with : (s : State) (x : Exchange) (change : SessionChange) (at : List ℕ)
    → FitsChange s x.ask x.secret x.now x.answer change → IsNumbered s → closes_of at x.ask x.answer ≡ true
    → (map.get (sessions_with s x.now change) at ≡ None) × (number_of at ≤ issued_with s.issued change)
closing_with s x AllStay at f h c = absurd (true≢false (sym c ∙ f.closes_none at))
closing_with s x (OneBegins n to) at f h c = search (rules, arith, true≢false, not_closed)
closing_with s x (OneTakes n to got) at f h c = search (rules, arith, true≢false, not_closed)
closing_with s x (OneLeaves to) at f h c =
    let is : at ≡ to = eq_from_same at to (sym (f.carried at) ∙ closes_carried at x.ask x.answer c) in (
      ap (map.get (map.remove s.sessions to)) is ∙ get-remove_same s.sessions to,
      h at f.found.session (ap (map.get s.sessions) is ∙ f.found.is_open),
    )

closing_turn : (s : State) (x : Exchange) (t : State) (at : List ℕ) → Turn s x.ask x.secret x.now x.answer t
    → IsNumbered s → closes_of at x.ask x.answer ≡ true → IsGone t at
unfolding Turn
closing_turn s x t at (inl did) h c =
    subst (λ q. IsGone q at) (sym did.1)
    (closing_with s x _ at (turn_fits s x.ask x.secret x.now x.answer did.0) h c)
closing_turn s x t at (inr lacked) h c = search (rules, arith, true≢false, not_closed)

closed_is_gone : (xs : List Exchange) (s t : State) (at : List ℕ) → Run s xs t → IsNumbered s
    → list_any (λ x. closes_of at x.ask x.answer) xs ≡ true → IsGone t at
unfolding Turn
closed_is_gone [] s t at run h c = absurd (true≢false (sym c))
closed_is_gone (x ∷ xs) s t at (mid, turn, rest) h c =
    elim (closes_of at x.ask x.answer) as (λ b. closes_of at x.ask x.answer ≡ b
    → (b || list_any (λ y. closes_of at y.ask y.answer) xs) ≡ true → IsGone t at) [
      | true ↦ λ e _. gone_run xs mid t at rest (closing_turn s x mid at turn h e)
      | false ↦ λ _ later. closed_is_gone xs mid t at rest (numbered_turn s x mid turn h) later
    ] refl c

refuses_closed : (s : State) (ask : Ask) (secret : List ℕ) (now : ℕ) (at : List ℕ) → carries at ask ≡ true
    → awake s now at ≡ None → outcome s ask secret now ≡ refused refusals.NoUpload
refuses_closed s ask secret now at c none =
    let to = carried at ask c in
    outcome_of_view s ask secret now to.name at to.act to.view
    ∙ ap (λ o. at_session s.limits.max_blob o to.name at to.act) none

pub closed_takes_nothing : ClosedTakesNothing
unfolding Turn
closed_takes_nothing start front before x after m at closed c =
    let h : IsNumbered start = numbered_if_lawful start m.lawful in
    let none : awake before x.now at ≡ None =
    elim (list_any (λ y. closes_of at y.ask y.answer) front) as (λ b. list_any (λ y. closes_of at y.ask y.answer) front
    ≡ b → (b || is_lapsed start.limits.max_idle at (seen_of (map.get start.sessions at)) front x.now) ≡ true
    → awake before x.now at ≡ None) [
      | true ↦
          λ e _. ap (unless_idle before.limits.max_idle x.now) (closed_is_gone front start before at m.so_far h e).0
      | false ↦ λ _ lapsed. over_not_awake before x.now at (lapsed_is_over start.limits at x front start before 0 _ refl
          h (tracks_at_start start at h) m.never_fall m.so_far lapsed)
    ] refl closed in
    plain_turn before x after _ m.turn (refuses_closed before x.ask x.secret x.now at c none) refl
