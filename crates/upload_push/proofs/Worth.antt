-- The way of a push through a run of the service, and what its end is worth.
use Rattle.std.proofs.Common.{arith, rules}
use Rattle.std.proofs.Common.{refl, ◌≡◌, ℕ, inl, inr, true, List, [], ◌∷◌, Option, Some, None, subst, sym}
use Rattle.std.specs.Prelude.{Result, Ok, IsTrue}
use Rattle.upload_service.specs.declared.ask.Ask.{Ask}
use Rattle.upload_service.specs.declared.ask.Ask.TheVariants as asks
use Rattle.upload_service.specs.declared.ask.Extent.{Extent}
use Rattle.upload_service.specs.declared.ask.Extent.TheVariants.{Absent, Given}
use Rattle.upload_service.specs.declared.answer.Answer.{Answer}
use Rattle.upload_service.specs.Machine.{State, Turn, IsLawful, holds}
use Rattle.upload_service.specs.Headline.{HeadlineHolds, OthersLeaveIt}
use Rattle.upload_service.specs.Run as served
use Rattle.upload_service.specs.Run.{Run}
use Rattle.upload_service.specs.UploadView.{Act, UploadView}
use Rattle.upload_service.specs.UploadView.{upload_view}
use Rattle.upload_client.specs.Heard.{reply_heard}
use Rattle.upload_push.specs.Slices.{Push, Attempt, after_all, log_of, heard_offset, heard_place, offset_by}
use Rattle.upload_push.specs.Slices.{offset_told}
use Rattle.upload_push.specs.Slices.{offset_after, place_after, IsSound, IsSoundAsk, LastIsAnswered, IsClose, IsHead}
use Rattle.upload_push.specs.Slices.{HeardStatus, Leads, IsEnd}
use Rattle.upload_push.specs.World.{IsSecret}
use Rattle.upload_push.specs.Promise.{IsStored}
use Rattle.upload_push.specs.Runs.{IsHeardOf, IsTurn, ComesTo, AskedInRun, IsActOf, IsRequestOf, IsHarmless}
use Rattle.upload_push.specs.Runs.{AreHarmless, IsQuietRun, PushPromiseInRuns}
use Rattle.upload_client.specs.declared.heard.Heard.{Heard}
use Rattle.upload_push.specs.declared.pusher.Outcome.{Outcome}
use Rattle.upload_push.specs.declared.pusher.Outcome.TheVariants.{Pushed, Already}
use Rattle.upload_push.specs.declared.pusher.Phase.{Phase}
use Rattle.upload_push.specs.declared.pusher.Phase.TheVariants.{Done}
use Rattle.upload_push.specs.declared.pushing.PushFault.{PushFault}
use Rattle.upload_push.proofs.Sound.{all_sound, pushed_last, already_last}
use Rattle.upload_push.proofs.Turns.{lawful_turn, None≢Some, same_inside}
use Rattle.upload_service.proofs.Steps.{session_ask}
use Rattle.upload_push.proofs.Requests.{by_sound, own_act, own_close, own_head}
use Rattle.upload_push.proofs.Uploads.{IsUpload, IsKept, PlacesReadBack, others_keep, part_of_next, chunk_keeps}
use Rattle.upload_push.proofs.Uploads.{status_keeps, close_keeps, opening_keeps, has_keeps}
use Rattle.upload_push.proofs.Ends.{there_by_pair, close_leaves_pair, close_leaves_file, head_finds_pair}

-- what is known of every run of the service, and of every place that is written
pub record Laws : Type 0 where
  pub headline : HeadlineHolds
  pub others : OthersLeaveIt
  pub reads : PlacesReadBack

-- ---- what is served between its requests

lawful_run : Laws → (old : State) (xs : List served.Exchange) (new : State) → IsLawful old
    → Run old xs new → IsLawful new
lawful_run laws old [] new lawful run = subst IsLawful (sym run) lawful
lawful_run laws old (x ∷ xs) new lawful run =
    lawful_run laws run.0 xs new (lawful_turn laws.headline old x.ask x.secret x.now x.answer run.0 lawful run.1) run.2

-- a request of the push that comes late leaves its upload
act_keeps : Laws → (p : Push) (s : State) (secret : List ℕ) (now : ℕ) (at : List ℕ) (offset : ℕ) (act : Act)
    (answer : Answer) (new : State) → IsLawful s → IsActOf p act → IsUpload p.file s (Some at) offset
    → Turn s (session_ask p.name at act) secret now answer new → IsUpload p.file new (Some at) offset
act_keeps laws p s secret now at offset act answer new lawful own up turn =
    let T : Act → Type 0 = λ a. Turn s (session_ask p.name at a) secret now answer new in
    elim own [
      | inl sent ↦
          (chunk_keeps laws.reads p s now secret at offset sent.range sent.body answer new sent.part up
          (subst T sent.is turn)).0
      | inr rest ↦ elim rest [
        | inl is ↦ (status_keeps p s now secret at offset answer new up (subst T is turn)).0
        | inr is ↦ (close_keeps p s now secret at offset answer new lawful up (subst T is turn)).0
      ]
    ]

late_keeps : Laws → (p : Push) (s : State) (secret : List ℕ) (now : ℕ) (at : List ℕ) (offset : ℕ) (ask : Ask)
    (answer : Answer) (new : State) → IsLawful s → IsRequestOf p at (upload_view ask)
    → IsUpload p.file s (Some at) offset → Turn s ask secret now answer new → IsUpload p.file new (Some at) offset
late_keeps laws p s secret now at offset ask answer new lawful is up turn =
    let late = own_act p at ask is in
    act_keeps laws p s secret now at offset late.act answer new lawful late.own up
    (subst (λ a. Turn s a secret now answer new) late.is turn)

-- so does what doesn't carry its reference
harmless_keeps : Laws → (p : Push) (s : State) (x : served.Exchange) (new : State) (place : Option (List ℕ))
    (offset : ℕ) → IsLawful s → IsHarmless p place x.ask → IsUpload p.file s place offset
    → Turn s x.ask x.secret x.now x.answer new → IsUpload p.file new place offset
harmless_keeps h1 p s x new place offset h2 h3 h4 h5 = search (rules, arith, others_keep, late_keeps)

run_keeps : Laws → (p : Push) (old : State) (xs : List served.Exchange) (new : State) (place : Option (List ℕ))
    (offset : ℕ) → IsLawful old → AreHarmless p place xs → IsUpload p.file old place offset → Run old xs new
    → IsUpload p.file new place offset
run_keeps laws p old [] new place offset lawful harmless up run = search (rules, arith, IsUpload)
run_keeps laws p old (x ∷ xs) new place offset lawful harmless up run =
    search (
      rules,
      arith,
      lawful_turn,
      harmless_keeps,
      run_keeps laws p run.0 xs new place offset (lawful_turn laws.headline old x.ask x.secret x.now x.answer run.0 lawful run.1) harmless.1 (harmless_keeps laws p old x run.0 place offset lawful harmless.0 up run.1) run.2,
    )

-- ---- its own requests

-- one request of a push, by what it asks
own_keeps : Laws → (p : Push) (log : List Attempt) (s : State) (secret : List ℕ)
    (now : ℕ) (ask : Ask) (answer : Answer) (new : State) → IsSecret secret → IsLawful s → IsSoundAsk p log ask
    → IsUpload p.file s (heard_place p.name log) (heard_offset log) → Turn s ask secret now answer new
    → IsKept p ask (heard_place p.name log) (heard_offset log) answer new
own_keeps laws p log s secret now ask answer new is_secret lawful sound up turn =
    let place = heard_place p.name log in
    let offset = heard_offset log in
    let U : Option (List ℕ) → Type 0 = λ x. IsUpload p.file s x offset in
    let K : Ask → Option (List ℕ) → Type 0 = λ a x. IsKept p a x offset answer new in
    by_sound p log (λ a. Turn s a secret now answer new → K a place)
    (record {
      opening = opening_keeps laws.reads laws.others p s now secret place offset answer new is_secret lawful up;
      chunk =
          λ at range body is next own.
          subst (K (asks.Chunk p.name at (Given range) body)) (sym is)
          (chunk_keeps laws.reads p s now secret at offset range body answer new (part_of_next p offset range body next)
          (subst U is up) own);
      status =
          λ at is own.
          subst (K (asks.Status p.name at)) (sym is)
          (status_keeps p s now secret at offset answer new (subst U is up) own);
      close =
          λ at is all own.
          subst (K (asks.Close p.name at Absent (Some p.digest) [])) (sym is)
          (close_keeps p s now secret at offset answer new lawful (subst U is up) own);
      head = has_keeps p s now secret place offset p.digest true answer new up;
    })
    ask sound turn

-- ---- what its requests come to

came_lawful : Laws → (s : State) (ask : Ask) (heard : Option Heard) (new : State) → IsLawful s
    → ComesTo s ask heard new → IsLawful new
came_lawful laws s ask heard new lawful comes = search (rules, arith, lawful_turn)

-- no code that is heard says how far an upload is
told_apart : (chunk : Option (Extent × List ℕ)) (h : Heard) (code : Option (List ℕ)) (offset : ℕ)
    → offset_told chunk (record h { code = code }) offset ≡ offset_told chunk h offset
told_apart (Some chunk) h code offset = refl
told_apart None h code offset = refl

code_apart : (view : UploadView) (h : Heard) (code : Option (List ℕ)) (offset : ℕ)
    → offset_by view (record h { code = code }) offset ≡ offset_by view h offset
code_apart view h code = search (rules, arith, told_apart)

-- the upload after a request that came to this
came_kept : (p : Push) (s : State) (ask : Ask) (heard : Option Heard) (new : State)
    (place : Option (List ℕ)) (offset : ℕ) → IsUpload p.file s place offset → ComesTo s ask heard new
    → ((t : IsTurn s ask heard new) → IsKept p ask place offset t.answer new)
    → IsUpload p.file new (place_after p.name heard place) (offset_after ask heard offset)
came_kept p s ask heard new place offset up comes kept =
    let U : Option Heard → Type 0 = λ h. IsUpload p.file new (place_after p.name h place) (offset_after ask h offset) in
    elim comes [
      | inl t ↦ elim t.reaches [
        | inl lost ↦ subst U (sym lost) (kept t).0
        | inr told ↦
            let what : Heard = record (reply_heard t.answer) { code = told.0 } in
            subst U (sym told.1)
            (subst (λ (n : ℕ). IsUpload p.file new (place_after p.name (Some what) place) n)
            (sym (code_apart (upload_view ask) (reply_heard t.answer) told.0 offset)) (kept t).1)
      ]
      | inr lost ↦ subst U (sym lost.1) (subst (λ (x : State). IsUpload p.file x place offset) (sym lost.0) up)
    ]

-- the service after the requests of a push, and where the next one meets it
pub lawful_after : Laws → (old new : State) (log : List Attempt) → IsLawful old
    → Leads AskedInRun old log new → IsLawful new
lawful_after laws old new [] lawful leads = subst IsLawful (sym leads) lawful
lawful_after laws old new (e ∷ log) lawful leads =
    came_lawful laws leads.2.met e.ask e.heard new
    (lawful_run laws leads.0 leads.2.before leads.2.met (lawful_after laws old leads.0 log lawful leads.1) leads.2.run)
    leads.2.comes

lawful_met : Laws → (old mid new : State) (e : Attempt) (log : List Attempt) → IsLawful old
    → Leads AskedInRun old log mid → (asked : AskedInRun mid e.ask e.heard new) → IsLawful asked.met
lawful_met laws old mid new e log lawful leads asked = search (rules, arith, lawful_run, lawful_after)

-- the upload after the requests of a push, and the one that the next meets, under the premise on what is served between
-- them
uploads : Laws → (p : Push) (old new : State) (log : List Attempt) → IsLawful old → IsSound p log
    → (leads : Leads AskedInRun old log new) → IsQuietRun p log old new leads
    → IsUpload p.file new (heard_place p.name log) (heard_offset log)
uploads laws p old new [] lawful sound leads quiet = tt
uploads laws p old new (e ∷ log) lawful sound leads quiet =
    let place = heard_place p.name log in
    let offset = heard_offset log in
    let asked = leads.2 in
    let met =
    run_keeps laws p leads.0 asked.before asked.met place offset
    (lawful_after laws old leads.0 log lawful leads.1) quiet.0
    (uploads laws p old leads.0 log lawful sound.1 leads.1 quiet.1) asked.run in
    came_kept p asked.met e.ask e.heard new place offset met asked.comes
    (λ t. own_keeps laws p log asked.met t.secret t.now e.ask t.answer new t.is_secret
    (lawful_met laws old leads.0 new e log lawful leads.1 asked) sound.0 met t.turn)

-- the status that was heard is the reply's
told_status : (answer : Answer) (h : Heard) (status : ℕ) → IsHeardOf answer (Some h) → h.status ≡ status
    → (reply_heard answer).status ≡ status
told_status answer h status reaches is = search (rules, arith, None≢Some, same_inside)

-- a close that is answered 201, beside any clients
closed_pair : (p : Push) (log : List Attempt) (s : State) (ask : Ask) (heard : Option Heard) (new : State)
    → IsSoundAsk p log ask → IsClose ask → HeardStatus heard 201 → ComesTo s ask heard new
    → IsTrue (holds new p.name p.digest)
closed_pair p log s ask heard new h1 h2 h3 = search (rules, arith, own_close, close_leaves_pair, told_status, None≢Some)

-- a close that is answered 201, of the push's own upload
closed_file : (p : Push) (log : List Attempt) (s : State) (ask : Ask) (heard : Option Heard) (new : State)
    → IsSoundAsk p log ask → IsUpload p.file s (heard_place p.name log) (heard_offset log) → IsClose ask
    → HeardStatus heard 201 → ComesTo s ask heard new → IsStored p new
closed_file p log s ask heard new h1 h2 h3 h4 =
    search (rules, arith, IsUpload, own_close, close_leaves_file, told_status, None≢Some)

-- a look for the blob that is answered 200
pub looked_pair : (p : Push) (log : List Attempt) (s : State) (ask : Ask) (heard : Option Heard) (new : State)
    → IsSoundAsk p log ask → IsHead ask → HeardStatus heard 200 → ComesTo s ask heard new
    → IsTrue (holds new p.name p.digest)
looked_pair p log s ask heard new h1 h2 h3 = search (rules, arith, head_finds_pair, own_head, told_status, None≢Some)

-- the requests of a push that end with such a close, or such a look
file_at_end : Laws → (p : Push) (old new : State) (log : List Attempt) → IsLawful old
    → IsSound p log → (leads : Leads AskedInRun old log new) → IsQuietRun p log old new leads
    → LastIsAnswered IsClose 201 log → IsStored p new
file_at_end laws p old new [] lawful sound leads quiet ends = absurd ends
file_at_end laws p old new (e ∷ log) lawful sound leads quiet ends =
    let asked = leads.2 in
    let met =
    run_keeps laws p leads.0 asked.before asked.met (heard_place p.name log) (heard_offset log)
    (lawful_after laws old leads.0 log lawful leads.1) quiet.0
    (uploads laws p old leads.0 log lawful sound.1 leads.1 quiet.1) asked.run in
    closed_file p log asked.met e.ask e.heard new sound.0 met ends.0 ends.1 asked.comes

pub pair_at_end : (p : Push) (old new : State) (log : List Attempt) (P : Ask → Type 0) (status : ℕ)
    → ((before : List Attempt) (s : State) (ask : Ask) (heard : Option Heard) (t : State)
    → IsSoundAsk p before ask → P ask → HeardStatus heard status → ComesTo s ask heard t
    → IsTrue (holds t p.name p.digest))
    → IsSound p log → Leads AskedInRun old log new → LastIsAnswered P status log → IsTrue (holds new p.name p.digest)
pair_at_end p old new [] P status last sound leads ends = absurd ends
pair_at_end p old new (e ∷ log) P status last sound leads ends = search (rules, arith)

-- the phase in which a push ends well
ended : (phase : Phase) (end : Result Outcome PushFault) (outcome : Outcome) → IsEnd phase end → end ≡ Ok outcome
    → phase ≡ Done outcome
ended phase end outcome ends is = search (rules, arith)

-- what a push is worth
pub worth_in_run : Laws → PushPromiseInRuns
worth_in_run laws p old new end lawful_push lawful push =
    let log = log_of p push.heard in
    let sound = all_sound p push.heard lawful_push in
    let after = lawful_after laws old new log lawful push.leads in
    let done : (outcome : Outcome) → end ≡ Ok outcome → (after_all p push.heard).phase ≡ Done outcome =
    λ outcome is. ended (after_all p push.heard).phase end outcome push.ends is in
    record {
      pushed =
          λ is quiet.
          file_at_end laws p old new log lawful sound push.leads quiet (pushed_last p push.heard (done Pushed is));
      pushed_beside_others =
          λ is. there_by_pair p new after (pair_at_end p old new log IsClose 201 (closed_pair p) sound push.leads
          (pushed_last p push.heard (done Pushed is)));
      already =
          λ is. there_by_pair p new after (pair_at_end p old new log IsHead 200 (looked_pair p) sound push.leads
          (already_last p push.heard (done Already is)));
      lawful = after;
    }
