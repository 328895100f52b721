-- A push that ends with 0 was answered over its last connection.
use Rattle.std.proofs.lemmas.Grind.{common_steps}
use Rattle.std.proofs.Common.{◌≡◌, ℕ, Bool, true, false, List, [], ◌∷◌, ◌++◌, length, refl, sym, ap, subst, ◌∙◌}
use Rattle.std.proofs.Common.{arith, rules, append-nil, append_assoc, inl, inr, ◌⊎◌, Option, Some, None}
use Rattle.std.specs.Prelude.{Result, Ok, Err, ⊤, codes}
use Rattle.std.specs.Io.KnownBytes.{Appends}
use Rattle.std.specs.Result.{result_ok}
use Rattle.std.proofs.lemmas.Bool.{and_parts, eqb-true}
use Rattle.std.proofs.lemmas.List.{nil_from_length}
use Rattle.std.proofs.lemmas.Option.{none-some}
use Rattle.upload_names.specs.Digest.{Digest}
use Rattle.upload_names.specs.declared.digest.Algorithm.TheVariants.{Sha256}
use Rattle.upload_service.specs.declared.ask.Ask.{Ask}
use Rattle.upload_service.specs.declared.ask.Ask.TheVariants.{Close, Has}
use Rattle.upload_service.specs.declared.ask.Extent.TheVariants.{Absent}
use Rattle.http_wire.specs.Writing.{Wrote}
use Rattle.http_wire.specs.declared.writing.WriteFault.{WriteFault}
use Rattle.upload_client.specs.AskText.{ask_text, wants_head}
use Rattle.upload_client.specs.TransportText.{WireState, AsksWhere, HearsBehind, ReadsReply}
use Rattle.upload_client.specs.TransportText.{awaited, refusal_in, stays_open}
use Rattle.upload_client.specs.declared.heard.Heard.{Heard}
use Rattle.upload_client.specs.declared.heard.HeardFault.{HeardFault}
use Rattle.upload_push.specs.Slices.{Push, Attempt, HeardStatus, IsClose, LastIsAnswered, Leads, request}
use Rattle.upload_push.specs.Slices.{after_all, log_of, logged, push_of}
use Rattle.upload_push.specs.declared.pusher.PushAsk.{PushAsk}
use Rattle.upload_push.specs.declared.pusher.Outcome.TheVariants.{Pushed, Already}
use Rattle.upload_push.specs.declared.pusher.Phase.{Phase}
use Rattle.upload_push.specs.declared.pusher.Phase.TheVariants as phases
use Rattle.upload_push.proofs.Sound.{pushed_last}
use Rattle.upload_push.proofs.Cases.{cond_case}
use Rattle.blobd_shared.specs.Status.{line}
use Rattle.blobd_shared.specs.Connections.{ConnEvent}
use Rattle.blobd_push.specs.Dials.{Dialing, AsksIn, Gets, GetsNone, behind_ask, dialing, history_at_end}
use Rattle.blobd_push.specs.Dials.{with_back, with_kept_back}
use Rattle.blobd_shared.specs.Connections.ConnEvent.{made, given_back}
use Rattle.blobd_push.specs.Sights.{AreSeen}
use Rattle.blobd_push.specs.declared.sight.Sight.{Sight}
use Rattle.blobd_push.specs.declared.sight.Sight.TheVariants as sights
use Rattle.blobd_push.specs.Answered.{EndsAnswered, EndsSeen, IsReply, PrintsDigest, PushesAreAnswered}
use Rattle.blobd_push.specs.Pushed.{IsLooked, IsShown, Look, PrintsPush, phase_at}

zero_one : ◌≡◌ {A = ℕ} 0 1 → ⊥
zero_one h = omega arith

blob_nothing : sights.Blob ≡ sights.Nothing → ⊥
blob_nothing h = grind arith

-- the request was written whole, since something was seen
asked_whole : (text taken : List ℕ) → (sights.Blob ≡ sights.Nothing) ⊎ (taken ≡ text) → taken ≡ text
asked_whole text taken (inl nothing) = absurd (blob_nothing nothing)
asked_whole text taken (inr is) = is

zero_three : ◌≡◌ {A = ℕ} 0 3 → ⊥
zero_three h = omega arith

-- ---- one reply

-- a refusal has another status than these
refused_else : (reply : Result Heard HeardFault) (heard : Heard) → Some heard ≡ refusal_in reply
    → (heard.status ≡ 200) ⊎ (heard.status ≡ 201) → ⊥
refused_else (Ok other) heard is ends = grind arith
refused_else (Err fault) heard is ends = absurd (none-some heard (sym is))

-- over a connection over which more can be asked no byte is held
none_held : (w : WireState) → stays_open w ≡ true → w.reader.input.held ≡ []
none_held w is = search (rules, arith, and_parts, nil_from_length, eqb-true)

-- what was written and read by an exchange that was answered so
pub record WasAnswered (old new : WireState) (ask : Ask) (status : ℕ) : Type 0 where
  pub reply : List ℕ
  pub taken : new.writer.taken ≡ old.writer.taken ++ ask_text ask old.host
  pub given : new.reader.input.source.given ≡ old.reader.input.source.given ++ reply
  pub answers : IsReply (wants_head ask) reply status

heard_whole : (old new : WireState) (ask : Ask) (heard : Heard) (status : ℕ) (reply : Result Heard HeardFault)
    → old.reader.input.held ≡ [] → new.writer.taken ≡ old.writer.taken ++ ask_text ask old.host
    → ReadsReply (wants_head ask) old.reader reply new.reader → reply ≡ Ok heard → heard.status ≡ status
    → WasAnswered old new ask status
heard_whole old new ask heard status reply held taken reads is same = search (rules, arith)

ok_of : (reply : Result Heard HeardFault) (heard : Heard) → Some heard ≡ result_ok reply
    → reply ≡ Ok heard
ok_of (Ok other) heard is = grind arith
ok_of (Err fault) heard is = absurd (none-some heard (sym is))

by_written : (old new : WireState) (ask : Ask) (heard : Heard) (status : ℕ) (written : Result ⊤ WriteFault)
    (body : Bool)
    → old.reader.input.held ≡ []
    → Wrote old.writer new.writer (ask_text ask old.host) written
    → HearsBehind (awaited written body) (wants_head ask) old (Some heard) new → heard.status ≡ status
    → (status ≡ 200) ⊎ (status ≡ 201) → WasAnswered old new ask status
by_written old new ask heard status (Ok u) body held wrote hears same ends = search (rules, arith, heard_whole, ok_of)
by_written old new ask heard status (Err fault) true held wrote hears same ends = search (rules, arith, refused_else)
by_written old new ask heard status (Err fault) false held wrote hears same ends = search (rules, arith, none-some)

by_asked : (goes : Bool) (old new : WireState) (ask : Ask) (heard : Heard) (status : ℕ) → stays_open old ≡ goes
    → AsksWhere goes old ask (Some heard) new → heard.status ≡ status → (status ≡ 200) ⊎ (status ≡ 201)
    → WasAnswered old new ask status
by_asked true old new ask heard status going asked same ends = search (rules, arith, by_written, none_held)
by_asked false old new ask heard status going asked same ends = absurd (none-some heard (sym asked.0))

-- ---- one ask of a push

-- a connection that is kept is one to the host
abbrev KeptTo : List ℕ → Option WireState → Type 0
KeptTo host None = Unit {0}
KeptTo host (Some wire) = wire.host ≡ host

gets_host : (host : List ℕ) (kept : Option WireState) (h : List ConnEvent) (wire : WireState) (behind : List ConnEvent)
    → KeptTo host kept → Gets host kept h wire behind → wire.host ≡ host
gets_host host (Some k) h wire behind to got = ap (λ (w : WireState). w.host) got.0 ∙ to
gets_host host None h wire behind to got = ap (λ (w : WireState). w.host) got.0.2

behind_to : (host : List ℕ) (h : List ConnEvent) (wire : WireState) → wire.host ≡ host
    → KeptTo host (behind_ask h wire).kept
behind_to host h wire to = search (rules, arith, cond_case)

none_to : (host : List ℕ) (kept : Option WireState) → kept ≡ None → KeptTo host kept
none_to host kept none = subst (KeptTo host) (sym none) tt

-- a history goes on from another
abbrev GoesOn : List ConnEvent → List ConnEvent → Type 0
GoesOn old new = (since : List ConnEvent) × (new ≡ old ++ since)

gets_more : (host : List ℕ) (kept : Option WireState) (h : List ConnEvent) (wire : WireState) (behind : List ConnEvent)
    → Gets host kept h wire behind → GoesOn h behind
gets_more host (Some k) h wire behind got = ([], got.1 ∙ sym (append-nil h))
gets_more host None h wire behind got = (made ∷ [], got.1)

gets_none : (host : List ℕ) (kept : Option WireState) (h behind : List ConnEvent) → GetsNone host kept h behind
    → GoesOn h behind
gets_none host kept h behind got = search (rules, arith, append-nil, append_assoc)

goes_further : (a b c : List ConnEvent) → GoesOn a b → GoesOn b c → GoesOn a c
goes_further a b c first second = search (rules, arith, append_assoc)

behind_more : (h : List ConnEvent) (wire : WireState) → GoesOn h (behind_ask h wire).history
behind_more h wire =
    cond_case (λ (s : Dialing). GoesOn h s.history) (stays_open wire) _ _ (λ _. ([], sym (append-nil h)))
    (λ _. (_, refl))

-- an ask keeps the history and the host
asks_on : (host : List ℕ) (s : Dialing) (ask : Ask) (heard : Option Heard) (t : Dialing) → KeptTo host s.kept
    → AsksIn host s ask heard t → KeptTo host t.kept × GoesOn s.history t.history
asks_on host s ask heard t to (inl (wire, new, h, got, asked, is)) =
    grind (
      arith,
      gets_host host s.kept s.history wire h to got,
      behind_to host h new,
      goes_further s.history h t.history,
      gets_more host s.kept s.history wire h got,
      behind_more h new,
    )
asks_on host s ask heard t to (inr (got, unheard, kept)) = search (rules, arith, none_to, gets_none)

all_on : (host : List ℕ) (s : Dialing) → KeptTo host s.kept → (log : List Attempt) (t : Dialing)
    → Leads (AsksIn host) s log t → KeptTo host t.kept × GoesOn s.history t.history
all_on host s to [] t leads = search (rules, arith, append-nil)
all_on host s to (e ∷ log) t leads =
    let earlier = all_on host s to log leads.0 leads.1 in
    let here = asks_on host leads.0 e.ask e.heard t earlier.0 leads.2 in
    (here.0, goes_further s.history leads.0.history t.history earlier.1 here.1)

-- at the end the connection of the last ask is given back behind all others
ends_with : (h : List ConnEvent) (wire : WireState) → history_at_end (behind_ask h wire) ≡ with_back h wire
ends_with h wire = search (rules, arith, cond_case)

-- a connection that was given back behind all others
abbrev with_end : List ConnEvent → List ℕ → Bool → List ℕ → List ConnEvent
with_end h given ended taken = h ++ given_back (record { bytes = given; ended = ended }) taken ∷ []

-- the last ask of a push was answered so
answered : (host : List ℕ) (old : List ConnEvent) (s : Dialing) (ask : Ask) (heard : Heard) (status : ℕ) (t : Dialing)
    (new : List ConnEvent)
    → GoesOn old s.history → KeptTo host s.kept → AsksIn host s ask (Some heard) t → heard.status ≡ status
    → (status ≡ 200) ⊎ (status ≡ 201) → new ≡ history_at_end t → EndsAnswered host ask status old new
answered host old s ask heard status t new from to (inr (got, unheard, kept)) same ends back =
    search (rules, arith, none-some)
answered host old s ask heard status t new from to (inl (wire, behind, h, got, asked, is)) same ends back =
    let was = by_asked (stays_open wire) wire behind ask heard status refl asked same ends in
    let on = goes_further old s.history h from (gets_more host s.kept s.history wire h got) in
    let taken = was.taken ∙ ap (λ (o : List ℕ). wire.writer.taken ++ ask_text ask o)
    (gets_host host s.kept s.history wire h to got) in
    let there : new ≡ with_back h behind = back ∙ ap history_at_end is ∙ ends_with h behind in
    let ended = behind.reader.input.source.ended in
    let given = wire.reader.input.source.given ++ was.reply in
    record {
      since = on.0;
      asked = wire.writer.taken;
      told = wire.reader.input.source.given;
      reply = was.reply;
      ended = ended;
      last =
          there ∙ ap (λ (g : List ℕ). with_end h g ended behind.writer.taken) was.given
          ∙ ap (with_end h given ended) taken
          ∙ ap (λ (o : List ConnEvent). with_end o given ended (wire.writer.taken ++ ask_text ask host)) on.1;
      answers = was.answers;
    }

-- ---- a whole push

answered_with : (host : List ℕ) (old : List ConnEvent) (s : Dialing) (ask : Ask) (heard : Option Heard) (status : ℕ)
    (t : Dialing) (new : List ConnEvent)
    → GoesOn old s.history → KeptTo host s.kept → AsksIn host s ask heard t → HeardStatus heard status
    → (status ≡ 200) ⊎ (status ≡ 201) → new ≡ history_at_end t → EndsAnswered host ask status old new
answered_with host old s ask None status t new from to asked same ends back = absurd same
answered_with host old s ask (Some h) status t new from to asked same ends back = search (rules, arith, answered)

-- the last request was one of this kind, and was answered so
by_log : (host : List ℕ) (P : Ask → Type 0) (status : ℕ) (old new : List ConnEvent) (s : Dialing)
    → GoesOn old s.history → KeptTo host s.kept → (log : List Attempt) (t : Dialing) → LastIsAnswered P status log
    → Leads (AsksIn host) s log t → (status ≡ 200) ⊎ (status ≡ 201) → new ≡ history_at_end t
    → (e : Attempt) × (rest : List Attempt) × (log ≡ e ∷ rest) × P e.ask × EndsAnswered host e.ask status old new
by_log host P status old new s from to [] t last leads ends back = absurd last
by_log host P status old new s from to (e ∷ log) t last leads ends back =
    let earlier = all_on host s to log leads.0 leads.1 in (
      e,
      log,
      refl,
      last.0,
      answered_with host old leads.0 e.ask e.heard status t new
          (goes_further old s.history leads.0.history from earlier.1) earlier.0 leads.2 last.1 ends back,
    )

-- each request of a push is one of its table
abbrev IsOwn : Push → List Attempt → Type 0
IsOwn p [] = Unit {0}
IsOwn p (e ∷ log) = (q : PushAsk) × (e.ask ≡ request p q)

own_next : (p : Push) (ask : Option PushAsk) (heard : Option Heard) (log : List Attempt) → IsOwn p log
    → IsOwn p (logged p ask heard log)
own_next p None heard log own = own
own_next p (Some q) heard log own = (q, refl)

all_own : (p : Push) (heard : List (Option Heard)) → IsOwn p (log_of p heard)
all_own p [] = tt
all_own p (h ∷ earlier) = own_next p _ h (log_of p earlier) (all_own p earlier)

-- its close is one of the file
close_of : (p : Push) (q : PushAsk) → IsClose (request p q)
    → (at : List ℕ) × (request p q ≡ Close p.name at Absent (Some p.digest) [])
close_of p q is = search (rules, arith)

closed : (host : List ℕ) (p : Push) (old new : List ConnEvent) (ask : Ask) (q : PushAsk) → ask ≡ request p q
    → IsClose ask → EndsAnswered host ask 201 old new
    → (at : List ℕ) × EndsAnswered host (Close p.name at Absent (Some p.digest) []) 201 old new
closed host p old new ask q own is ends =
    let close = close_of p q (subst IsClose own is) in
    (close.0, subst (λ (a : Ask). EndsAnswered host a 201 old new) (own ∙ close.1) ends)

-- at the end the history goes on from what it was, also by the connection that was kept
end_more : (h : List ConnEvent) (kept : Option WireState) → GoesOn h (with_kept_back h kept)
end_more h None = ([], sym (append-nil h))
end_more h (Some wire) = (_, refl)

-- the blob was seen over the last connection
seen_last : (host name : List ℕ) (digest : Digest) (size : ℕ) (old new : List ConnEvent) (s t : Dialing)
    → GoesOn old s.history → AreSeen host name digest size s sights.Blob t → new ≡ history_at_end t
    → EndsSeen host name digest size old new
seen_last host name digest size old new s t from (kept, inr (nothing, same)) back = absurd (blob_nothing nothing)
seen_last host name digest size old new s t from (kept, inl seen) back =
    let on = goes_further old s.history (history_at_end s) from (end_more s.history s.kept) in
    let here = goes_further old (history_at_end s) (history_at_end s ++ made ∷ []) on (made ∷ [], refl) in
    let there = back ∙ ap (with_kept_back t.history) kept ∙ seen.over in
    let with_events =
    there ∙ ap (λ (h : List ConnEvent). h ++ given_back seen.given seen.taken ∷ []) here.1 in
    record {
      since = here.0;
      given = seen.given;
      last =
          with_events ∙ ap (λ (t : List ℕ). (old ++ here.0) ++ given_back seen.given t ∷ [])
          (asked_whole (ask_text (Has name digest true) host) seen.taken seen.asked);
      shows = seen.seen;
    }

-- how the end of a push was answered
abbrev IsAnswered : List ℕ → Push → List ConnEvent → List ConnEvent → Option (List ℕ) → Option (List ℕ) → Type 0
IsAnswered host p old new before after =
    (PrintsDigest (codes "pushed") p.digest before after
    × ((at : List ℕ) × EndsAnswered host (Close p.name at Absent (Some p.digest) []) 201 old new))
    ⊎ (PrintsDigest (codes "already") p.digest before after × EndsSeen host p.name p.digest (length p.file) old new)

by_shown : (host : List ℕ) (p : Push) (old new : List ConnEvent) (before after : Option (List ℕ))
    (last behind : Dialing) (sight : Sight) (text : List ℕ)
    → GoesOn old last.history → AreSeen host p.name p.digest (length p.file) last sight behind
    → new ≡ history_at_end behind → PrintsPush p.digest (phase_at sight) 0 text → Appends before after (line text)
    → IsAnswered host p old new before after
by_shown host p old new before after last behind sights.Blob text from seen back told printed =
    search (rules, arith, seen_last)
by_shown host p old new before after last behind sights.Other text from seen back told printed =
    search (rules, arith, zero_one)
by_shown host p old new before after last behind sights.Nothing text from seen back told printed =
    search (rules, arith, zero_one)

by_phase : (host : List ℕ) (p : Push) (old new : List ConnEvent) (before after : Option (List ℕ)) (s : Dialing)
    (heard : List (Option Heard)) (last behind : Dialing) (phase shown : Phase) (text : List ℕ)
    → GoesOn old s.history → KeptTo host s.kept → Leads (AsksIn host) s (log_of p heard) last
    → new ≡ history_at_end behind → (after_all p heard).phase ≡ phase → IsShown host p last phase behind shown
    → PrintsPush p.digest shown 0 text → Appends before after (line text) → IsAnswered host p old new before after
by_phase host p old new before after s heard last behind (phases.Done Pushed) shown text from to leads back is shows
    told printed =
    let closing = pushed_last p heard is in
    let here = back ∙ ap history_at_end shows.1 in
    let at = by_log host IsClose 201 old new s from to (log_of p heard) last closing leads (inr refl) here in
    let own = subst (IsOwn p) at.2 (all_own p heard) in
    let said = subst (λ (q : Phase). PrintsPush p.digest q 0 text) shows.0 told in
    inl (
      subst (λ (x : List ℕ). Appends before after (line x)) said.1 printed,
      closed host p old new at.0.ask own.0 own.1 at.3 at.4,
    )
by_phase host p old new before after s heard last behind (phases.Done Already) shown text from to leads back is
    (sight, seen, same) told printed =
    grind (arith, common_steps, all_on, by_shown, goes_further)
by_phase host p old new before after s heard last behind (phases.GaveUp why) shown text from to leads back is shows
    told printed =
    search (rules, arith, zero_one)
by_phase host p old new before after s heard last behind phase shown text from to leads back is shows told printed =
    search (rules, arith)

-- behind a look that didn't find the blob the history goes on, and a connection that is kept is one to the host
sight_on : (host name : List ℕ) (digest : Digest) (size : ℕ) (s : Dialing) (sight : Sight) (t : Dialing)
    → AreSeen host name digest size s sight t → KeptTo host t.kept × GoesOn s.history t.history
sight_on host name digest size s sight t h =
    search (rules, arith, none_to, goes_further, end_more, append_assoc, append-nil)

looked_on : (host name : List ℕ) (digest : Digest) (old : List ConnEvent) (size : ℕ)
    (look : Look host name digest (dialing old)) (mid : Dialing) → IsLooked size look false mid
    → KeptTo host mid.kept × GoesOn old mid.history
looked_on host name digest old size look mid (inl (is, same)) =
    let on = asks_on host (dialing old) (Has name digest true) look.heard look.behind tt look.asked in
    subst (λ (s : Dialing). KeptTo host s.kept × GoesOn old s.history) (sym same) on
looked_on host name digest old size look mid (inr (is, sight, other, seen)) =
    let on = asks_on host (dialing old) (Has name digest true) look.heard look.behind tt look.asked in
    let more = sight_on host name digest size look.behind sight mid seen in
    (more.0, goes_further old look.behind.history mid.history on.1 more.1)

pub all_answered : PushesAreAnswered
all_answered host name file chunk old new before after (inr (three, begun)) = absurd (zero_three three)
all_answered host name file chunk old new before after (inl (inl (line, is))) = absurd (zero_one line.1)
all_answered host name file chunk old new before after (inl (inr (named, (look, inl found)))) =
    let p = push_of Sha256 name file chunk 5 in
    let on = asks_on host (dialing old) (Has p.name p.digest true) look.heard look.behind tt look.asked in
    inr (
      found.printed,
      seen_last host p.name p.digest (length p.file) old new look.behind found.behind on.1 found.found.1
          found.given_back,
    )
all_answered host name file chunk old new before after (inl (inr (named, (look, inr push)))) =
    let p = push_of Sha256 name file chunk 5 in
    let on = looked_on host p.name p.digest old (length p.file) look push.mid push.missing in
    by_phase host p old new before after push.mid push.heard push.last push.behind _ push.shown push.text on.1 on.0
    push.over push.given_back refl push.shows push.told push.printed
