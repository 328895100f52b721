-- The line that a push prints.
use Rattle.std.proofs.Common.{◌≡◌, ℕ, ◌<◌, List, [], ◌∷◌, length, Option, Some, inl, inr, ◌⊎◌, true, false, refl}
use Rattle.std.proofs.Common.{sym, ap, subst, arith, ◌∙◌, Bool, ◌≢◌, rules}
use Rattle.std.specs.Prelude.{Result, Ok, Err, codes}
use Rattle.std.specs.Io.KnownBytes.{Appends}
use Rattle.std.specs.Net.Text.{socket_text}
use Rattle.std.specs.declared.net.socket_addr.SocketAddr.{SocketAddr}
use Rattle.upload_names.specs.Name.{IsName, IsInGrammar, longest_name}
use Rattle.upload_names.specs.Digest.{Digest, content_digest}
use Rattle.upload_names.specs.declared.digest.Algorithm.TheVariants.{Sha256}
use Rattle.upload_service.specs.declared.ask.Ask.{Ask}
use Rattle.upload_client.specs.declared.heard.Heard.{Heard}
use Rattle.upload_push.specs.Looking.{is_found}
use Rattle.upload_push.specs.Slices.{Push, Attempt, IsPush, IsEnd, Leads, log_of, push_of, push_under, after_all}
use Rattle.upload_push.specs.declared.pusher.Outcome.{Outcome}
use Rattle.upload_push.specs.declared.pusher.Outcome.TheVariants.{Already, Pushed}
use Rattle.upload_push.specs.declared.pushing.PushFault.{PushFault}
use Rattle.upload_push.specs.declared.pushing.PushFault.TheVariants as faults
use Rattle.upload_push.specs.declared.pusher.Phase.{Phase}
use Rattle.upload_push.specs.declared.pusher.Phase.TheVariants.{Opening, Done, GaveUp}
use Rattle.upload_push.specs.declared.pusher.Why.TheVariants.{BadServer, OutOfTries}
use Rattle.upload_push.proofs.Sound.{unheard_waits}
use Rattle.blobd_shared.specs.Status.{IsPrinted, line}
use Rattle.blobd_shared.specs.Connections.{ConnEvent}
use Rattle.blobd_push.specs.Dials.{Dialing, AsksIn, dialing, history_at_end}
use Rattle.blobd_push.specs.Sights.{AreSeen, is_blob}
use Rattle.blobd_push.specs.declared.sight.Sight.{Sight}
use Rattle.blobd_push.specs.declared.sight.Sight.TheVariants as sights
use Rattle.blobd_push.specs.Pushed.{IsConfirmed, IsLooked, IsShown, end_at}
use Rattle.blobd_push.specs.Pushed.{IsBegun, IsLookedLine, IsPushed, IsPushedOver, IsSent, IsEndLine, PrintsPush}
use Rattle.blobd_push.specs.Pushed.{Look, why_text}

false_true : false ≡ true → ⊥
false_true h = grind arith

-- what an ask says of the host and of the connections
abbrev pub KeepsDialing : {S : Type 0} → (S → Ask → Option Heard → S → Type 0) → (S → List ℕ) → (S → Dialing) → Type 0
KeepsDialing {S} asked host state = (s : S) (ask : Ask) (heard : Option Heard) (t : S) → asked s ask heard t
    → AsksIn (host s) (state s) ask heard (state t) × (host t ≡ host s)

-- over a whole push the asks went over its connections
dialed : {S : Type 0} (asked : S → Ask → Option Heard → S → Type 0) (host : S → List ℕ) (state : S → Dialing)
    → KeepsDialing asked host state → (at : List ℕ) (old : S) → host old ≡ at → (log : List Attempt) (new : S)
    → Leads asked old log new → Leads (AsksIn at) (state old) log (state new) × (host new ≡ at)
dialed asked host state keeps at old same [] new leads = (ap state leads, ap host leads ∙ same)
dialed asked host state keeps at old same (e ∷ log) new leads =
    let earlier = dialed asked host state keeps at old same log leads.0 leads.1 in
    let step = keeps leads.0 e.ask e.heard new leads.2 in (
      (state leads.0, earlier.0, subst (λ h. AsksIn h (state leads.0) e.ask e.heard (state new)) earlier.1 step.0),
      step.1 ∙ earlier.1,
    )

-- the asks of a push behind a look went over its connections
pub over_them : {S : Type 0} {asked : S → Ask → Option Heard → S → Type 0} (host : S → List ℕ) (state : S → Dialing)
    → KeepsDialing asked host state → {p : Push} {mid new : S} {end : Result Outcome PushFault} (at : List ℕ)
    → host mid ≡ at → IsPush asked p mid new end
    → IsPush (AsksIn at) p (state mid) (state new) end × (host new ≡ at)
over_them {asked = asked} host state keeps {p} {mid} {new} {end} at same push =
    let over = dialed asked host state keeps at mid same (log_of p push.heard) new push.leads in
    (record { heard = push.heard; leads = over.0; ends = push.ends }, over.1)

-- whether a look found the blob, by what was seen after it
pub seen_so : {host name : List ℕ} {digest : Digest} {start : Dialing} (size : ℕ) (look : Look host name digest start)
    (sight : Sight) (blob : Bool) (after : Dialing) → true ≡ is_found look.heard → blob ≡ is_blob sight
    → AreSeen host name digest size look.behind sight after → IsLooked size look blob after
seen_so size look sight blob after found is seen = search (rules, arith, false_true)

-- the same push, of a name that is equal, of the file's digest, to an equal host, and from an equal start
same_push : (at host own name file : List ℕ) (chunk : ℕ) (digest : Digest) (before start after : Dialing)
    (end : Result Outcome PushFault)
    → at ≡ host → own ≡ name → digest ≡ content_digest Sha256 file → before ≡ start
    → IsSent at (push_under digest own file chunk 5) before after end
    → IsSent host (push_of Sha256 name file chunk 5) start after end
same_push at host own name file chunk digest before start after end same_host same its_digest from h =
    subst (λ b. IsSent host (push_of Sha256 name file chunk 5) b after end) from
    (subst (λ t. IsSent t (push_of Sha256 name file chunk 5) before after end) same_host
    (subst (λ n. IsSent at (push_of Sha256 n file chunk 5) before after end) same
    (subst (λ d. IsSent at (push_under d own file chunk 5) before after end) its_digest h)))

-- a push to which nothing was said is told as out of tries
pub untold : (digest : Digest) (phase : Phase) (status : ℕ) (text : List ℕ)
    → (phase ≡ Opening) ⊎ (phase ≡ GaveUp OutOfTries) → PrintsPush digest phase status text
    → (status ≡ 1) × (text ≡ why_text OutOfTries)
untold digest phase status text (inl is) told = absurd (subst (λ (p : Phase). PrintsPush digest p status text) is told)
untold digest phase status text (inr is) told = subst (λ (p : Phase). PrintsPush digest p status text) is told

-- the line of a blob that was found
found_line : (host : List ℕ) (p : Push) (old new : List ConnEvent) (state : Dialing) (before after : Option (List ℕ))
    (result : ℕ) (look : Look host p.name p.digest (dialing old))
    → IsLooked (length p.file) look true state → new ≡ history_at_end state
    → IsEndLine p.digest (Ok Already) before after result
    → IsLookedLine host p old new before after result ⊎ (result ≡ 3)
found_line host p old new state before after result look is back (inr fault) = inr fault
found_line host p old new state before after result look is back (inl (zero, printed)) =
    inl (
      look,
      inl (record { behind = state; found = is; given_back = back; is_status = zero; printed = printed }),
    )

-- what is shown of a push that waits for its opening, or is out of tries, is that
still_waits : (host : List ℕ) (p : Push) (last : Dialing) (phase : Phase) (behind : Dialing) (shown : Phase)
    → (phase ≡ Opening) ⊎ (phase ≡ GaveUp OutOfTries) → IsShown host p last phase behind shown
    → (shown ≡ Opening) ⊎ (shown ≡ GaveUp OutOfTries)
still_waits host p last phase behind shown (inl is) shows = search (rules, arith)
still_waits host p last phase behind shown (inr is) shows = search (rules, arith)

-- the line of the end of a push
lined : (host : List ℕ) (p : Push) (old new : List ConnEvent) (mid last behind : Dialing)
    (pushed : Result Outcome PushFault) (phase shown : Phase) (text : List ℕ) (before after : Option (List ℕ))
    (result : ℕ) → (look : Look host p.name p.digest (dialing old)) → IsLooked (length p.file) look false mid
    → IsPush (AsksIn host) p mid last pushed → ((q : Phase) → IsEnd q pushed → q ≡ phase)
    → IsShown host p last phase behind shown → new ≡ history_at_end behind
    → PrintsPush p.digest shown result text → Appends before after (line text)
    → IsLookedLine host p old new before after result ⊎ (result ≡ 3)
lined host p old new mid last behind pushed phase shown text before after result look missing push at shows back told
    printed =
    let is = at _ push.ends in
    let here = subst (λ (q : Phase). IsShown host p last q behind shown) (sym is) shows in
    inl (
      look,
      inr (record {
        mid = mid;
        missing = missing;
        heard = push.heard;
        last = last;
        over = push.leads;
        behind = behind;
        shown = shown;
        shows = here;
        given_back = back;
        text = text;
        unheard =
            λ none.
            untold p.digest shown result text
            (still_waits host p last (after_all p push.heard).phase behind shown (unheard_waits p push.heard none) here)
            told;
        told = told;
        printed = printed;
      }),
    )

-- an end that was found by the push itself, and what was shown of it then
by_sight : (host : List ℕ) (p : Push) (old new : List ConnEvent) (mid last behind : Dialing) (sight : Sight)
    (before after : Option (List ℕ)) (result : ℕ)
    → (look : Look host p.name p.digest (dialing old)) → IsLooked (length p.file) look false mid
    → IsPush (AsksIn host) p mid last (Ok Already)
    → AreSeen host p.name p.digest (length p.file) last sight behind → new ≡ history_at_end behind
    → IsEndLine p.digest (end_at sight) before after result
    → IsLookedLine host p old new before after result ⊎ (result ≡ 3)
by_sight host p old new mid last behind sights.Blob before after result look missing push seen back (inr fault) =
    search (rules, arith)
by_sight host p old new mid last behind sights.Blob before after result look missing push seen back
    (inl (zero, printed)) =
    lined host p old new mid last behind (Ok Already) (Done Already) (Done Already) _ before after result look missing
    push (λ q ends. ends) (sights.Blob, seen, refl) back (zero, refl) printed
by_sight host p old new mid last behind sights.Other before after result look missing push seen back (inr fault) =
    search (rules, arith)
by_sight host p old new mid last behind sights.Other before after result look missing push seen back
    (inl (one, printed)) =
    lined host p old new mid last behind (Ok Already) (Done Already) (GaveUp BadServer) _ before after result look
    missing push (λ q ends. ends) (sights.Other, seen, refl) back (one, refl) printed
by_sight host p old new mid last behind sights.Nothing before after result look missing push seen back (inr fault) =
    search (rules, arith)
by_sight host p old new mid last behind sights.Nothing before after result look missing push seen back
    (inl (one, printed)) =
    lined host p old new mid last behind (Ok Already) (Done Already) (GaveUp OutOfTries) _ before after result look
    missing push (λ q ends. ends) (sights.Nothing, seen, refl) back (one, refl) printed

-- an end that stands as it is
as_it_is : (host : List ℕ) (p : Push) (old new : List ConnEvent) (mid last behind : Dialing)
    (pushed : Result Outcome PushFault) (before after : Option (List ℕ)) (result : ℕ)
    → (look : Look host p.name p.digest (dialing old)) → IsLooked (length p.file) look false mid
    → IsPush (AsksIn host) p mid last pushed → pushed ≢ Ok Already → behind ≡ last → new ≡ history_at_end behind
    → IsEndLine p.digest pushed before after result
    → IsLookedLine host p old new before after result ⊎ (result ≡ 3)
as_it_is host p old new mid last behind (Ok Pushed) before after result look missing push other same back
    (inr fault) =
    search (rules, arith)
as_it_is host p old new mid last behind (Ok Pushed) before after result look missing push other same back
    (inl (zero, printed)) =
    lined host p old new mid last behind (Ok Pushed) (Done Pushed) (Done Pushed) _ before after result look missing
    push (λ q ends. ends) (refl, same) back (zero, refl) printed
as_it_is host p old new mid last behind (Ok Already) before after result look missing push other same back told =
    search (rules, arith)
as_it_is host p old new mid last behind (Err (faults.GaveUp why)) before after result look missing push other same back
    (inr fault) =
    search (rules, arith)
as_it_is host p old new mid last behind (Err (faults.GaveUp why)) before after result look missing push other same back
    (inl (one, printed)) =
    lined host p old new mid last behind (Err (faults.GaveUp why)) (GaveUp why) (GaveUp why) _ before after result look
    missing push (λ q ends. ends) (refl, same) back (one, refl) printed
as_it_is host p old new mid last behind (Err faults.NoMemory) before after result look missing push other same back
    fault =
    search (rules, arith)

by_end : (host : List ℕ) (p : Push) (old new : List ConnEvent) (mid last behind : Dialing)
    (pushed end : Result Outcome PushFault) (before after : Option (List ℕ)) (result : ℕ)
    → (look : Look host p.name p.digest (dialing old)) → IsLooked (length p.file) look false mid
    → IsPush (AsksIn host) p mid last pushed
    → IsConfirmed host p.name p.digest (length p.file) last pushed behind end → new ≡ history_at_end behind
    → IsEndLine p.digest end before after result
    → IsLookedLine host p old new before after result ⊎ (result ≡ 3)
by_end host p old new mid last behind (Ok Already) end before after result look missing push
    (inl (sight, seen, is)) back told =
    by_sight host p old new mid last behind sight before after result look missing push seen back
    (subst (λ e. IsEndLine p.digest e before after result) is told)
by_end host p old new mid last behind (Ok Already) end before after result look missing push (inr (is, same)) back
    told =
    search (rules, arith)
by_end host p old new mid last behind (Ok Pushed) end before after result look missing push (is, same) back told =
    as_it_is host p old new mid last behind (Ok Pushed) before after result look missing push
    (λ h. grind arith) same back (subst (λ e. IsEndLine p.digest e before after result) is told)
by_end host p old new mid last behind (Err fault) end before after result look missing push (is, same) back told =
    as_it_is host p old new mid last behind (Err fault) before after result look missing push
    (λ h. grind arith) same back (subst (λ e. IsEndLine p.digest e before after result) is told)

-- what was sent behind a look, and the line of its end
by_sent : (host : List ℕ) (p : Push) (old new : List ConnEvent) (last : Dialing) (end : Result Outcome PushFault)
    (before after : Option (List ℕ)) (result : ℕ)
    → IsSent host p (dialing old) last end → new ≡ history_at_end last → IsEndLine p.digest end before after result
    → IsLookedLine host p old new before after result ⊎ (result ≡ 3)
by_sent host p old new behind end before after result (inl (look, is, already)) back told =
    found_line host p old new behind before after result look is back
    (subst (λ e. IsEndLine p.digest e before after result) already told)
by_sent host p old new behind end before after result
    (inr (inl (look, mid, last, pushed, missing, push, confirmed))) back told =
    search (rules, arith, by_end, pushed)
by_sent host p old new behind end before after result (inr (inr (lacks, begun))) back told = search (rules, arith)

-- what was asked of the host by then, if memory was out or the line couldn't be printed too
was_looked : {host name : List ℕ} {digest : Digest} {start : Dialing} (size : ℕ) (look : Look host name digest start)
    (found : Bool) (mid : Dialing) → IsLooked size look found mid
    → (mid ≡ look.behind) ⊎ ((sight : Sight) × AreSeen host name digest size look.behind sight mid)
was_looked size look found mid is = search (rules, arith)

was_confirmed : (host name : List ℕ) (digest : Digest) (size : ℕ) (last behind : Dialing)
    (pushed end : Result Outcome PushFault) → IsConfirmed host name digest size last pushed behind end
    → (behind ≡ last) ⊎ ((sight : Sight) × AreSeen host name digest size last sight behind)
was_confirmed host name digest size last behind pushed end h = search (rules, arith)

begun : (host : List ℕ) (p : Push) (old new : List ConnEvent) (behind : Dialing) (end : Result Outcome PushFault)
    → IsSent host p (dialing old) behind end → new ≡ history_at_end behind → IsBegun host p old new
begun host p old new behind end (inl (look, is, already)) back =
    inr (record {
      look = look;
      mid = behind;
      looked = was_looked (length p.file) look true behind is;
      heard = [];
      last = behind;
      over = refl;
      behind = behind;
      confirmed = inl refl;
      given_back = back;
    })
begun host p old new behind end (inr (inl (look, mid, last, pushed, missing, push, confirmed))) back =
    inr (record {
      look = look;
      mid = mid;
      looked = was_looked (length p.file) look false mid missing;
      heard = push.heard;
      last = last;
      over = push.leads;
      behind = behind;
      confirmed = was_confirmed host p.name p.digest (length p.file) last behind pushed end confirmed;
      given_back = back;
    })
begun host p old new behind end (inr (inr (lacks, inl same))) back = inl (back ∙ ap history_at_end same)
begun host p old new behind end (inr (inr (lacks, inr (look, same)))) back =
    inr (record {
      look = look;
      mid = behind;
      looked = inl same;
      heard = [];
      last = behind;
      over = refl;
      behind = behind;
      confirmed = inl refl;
      given_back = back;
    })

-- the line of a push whose name is one
under_name : (host name file : List ℕ) (chunk : ℕ) (old new : List ConnEvent) (before after : Option (List ℕ))
    (result : ℕ)
    → IsName name → IsBegun host (push_of Sha256 name file chunk 5) old new
    → IsLookedLine host (push_of Sha256 name file chunk 5) old new before after result
    ⊎ (result ≡ 3) → IsPushedOver host name file chunk old new before after result
under_name host name file chunk old new before after result named has (inl looked) = inl (inr (named, looked))
under_name host name file chunk old new before after result named has (inr fault) = inr (fault, has)

-- a push that was sent, and the line of its end
pub pushed : {at host own name file : List ℕ} {chunk : ℕ} {digest : Digest} {old new : List ConnEvent}
    {start last : Dialing} {end : Result Outcome PushFault}
    → IsSent at (push_under digest own file chunk 5) start last end → at ≡ host → own ≡ name → IsName name
    → digest ≡ content_digest Sha256 file → start ≡ dialing old → new ≡ history_at_end last
    → (before after : Option (List ℕ)) (result : ℕ)
    → IsEndLine digest end before after result → IsPushedOver host name file chunk old new before after result
pushed {at} {host} {own} {name} {file} {chunk} {digest} {old} {new} {start} {last} {end} push same_host same named
    its_digest from back before after result told =
    let p = push_of Sha256 name file chunk 5 in
    let sent =
    same_push at host own name file chunk digest start (dialing old) last end same_host same its_digest from push in
    under_name host name file chunk old new before after result named
    (begun host p old new last end sent back)
    (by_sent host p old new last end before after result sent back
    (subst (λ d. IsEndLine d end before after result) its_digest told))

-- a name that isn't one
pub no_name : (host name file : List ℕ) (chunk : ℕ) (history : List ConnEvent) (before after : Option (List ℕ))
    (result : ℕ)
    → ¬ (IsName name) → IsPrinted (Some (codes "refused: name")) before after 1 result
    → IsPushedOver host name file chunk history history before after result
no_name host name file chunk history before after result unnamed (inr fault) = inr (fault, inl refl)
no_name host name file chunk history before after result unnamed (inl (one, printed)) = search (rules, arith)

-- a line that tells a fault has its status, printed or not
pub faulted : {S P : Type 0} → (S × P) ⊎ S → S
faulted (inl (status, printed)) = status
faulted (inr status) = status

-- the same of an address, over connections that began with none
pub to_address : (addr : SocketAddr) {at name file : List ℕ} {chunk : ℕ} {old new : List ConnEvent}
    {before after : Option (List ℕ)} {result : ℕ} → at ≡ socket_text addr → old ≡ []
    → IsPushedOver at name file chunk old new before after result → IsPushed addr name file chunk before after result
to_address addr {at} {name} {file} {chunk} {old} {new} {before} {after} {result} same none h = (
  new,
  subst (λ (o : List ConnEvent). IsPushedOver (socket_text addr) name file chunk o new before after result) none
      (subst (λ (t : List ℕ). IsPushedOver t name file chunk old new before after result) same h),
)

-- a text that isn't of the grammar is no name, nor is one that is too long
pub outside : (text : List ℕ) → ¬ (IsInGrammar text) → ¬ (IsName text)
outside text other named = other named.in_grammar

pub too_long : (text : List ℕ) → longest_name < length text → ¬ (IsName text)
too_long text long named = let short = named.short in omega arith
