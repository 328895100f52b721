-- What a push prints, and the exit status that goes with it.
use Rattle.std.specs.Prelude.{◌≡◌, ℕ, nat_lt, Bool, ◌&&◌, true, false, ◌⊎◌, List, [], ◌++◌, length, codes, decimal}
use Rattle.std.specs.Prelude.{Result, Ok, Err, Option, Some, None, if◌then◌else◌}
use Rattle.std.specs.List.{list_all}
use Rattle.std.specs.Char.{is_ascii_graphic}
use Rattle.std.specs.Io.KnownBytes.{Appends}
use Rattle.std.specs.Net.Text.{socket_text}
use Rattle.std.specs.declared.net.socket_addr.SocketAddr.{SocketAddr}
use Rattle.upload_names.specs.Name.{IsName}
use Rattle.upload_names.specs.Digest.{Digest, digest_text}
use Rattle.upload_names.specs.declared.digest.Algorithm.TheVariants.{Sha256}
use Rattle.upload_service.specs.declared.ask.Ask.TheVariants.{Has}
use Rattle.upload_client.specs.declared.heard.Heard.{Heard}
use Rattle.upload_push.specs.Looking.{is_found}
use Rattle.upload_push.specs.Slices.{Push, IsPush, Leads, AreUnheard, push_of, log_of, after_all}
use Rattle.upload_push.specs.declared.pusher.Outcome.{Outcome}
use Rattle.upload_push.specs.declared.pusher.Outcome.TheVariants.{Pushed, Already}
use Rattle.upload_push.specs.declared.pusher.Why.{Why}
use Rattle.upload_push.specs.declared.pusher.Why.TheVariants.{Refused, BadServer, OutOfTries}
use Rattle.upload_push.specs.declared.pushing.PushFault.{PushFault}
use Rattle.upload_push.specs.declared.pushing.PushFault.TheVariants as faults
use Rattle.upload_push.specs.declared.pusher.Phase.{Phase}
use Rattle.upload_push.specs.declared.pusher.Phase.TheVariants.{Done, GaveUp}
use Rattle.blobd_shared.specs.Connections.{ConnEvent}
use Rattle.blobd_push.specs.Dials.{Dialing, AsksIn, dialing, history_at_end}
use Rattle.blobd_push.specs.Sights.{AreSeen, is_blob}
use Rattle.blobd_push.specs.declared.sight.Sight.{Sight}
use Rattle.blobd_push.specs.declared.sight.Sight.TheVariants as sights
use Rattle.blobd_shared.specs.Status.{IsPrinted, line}

-- one or more bytes, all of them visible ASCII
abbrev pub is_word : List ℕ → Bool
is_word text = nat_lt 0 (length text) && list_all is_ascii_graphic text

-- an error code as it is printed: itself if it is a word, and else a hyphen
abbrev pub shown_code : Option (List ℕ) → List ℕ
shown_code None = codes "-"
shown_code (Some code) = if is_word code then code else codes "-"

-- the word for how a push ended well
abbrev pub outcome_word : Outcome → List ℕ
outcome_word Pushed = codes "pushed"
outcome_word Already = codes "already"

-- what is printed of why a push was given up
abbrev pub why_text : Why → List ℕ
why_text (Refused status code) = codes "refused: " ++ (decimal status ++ (codes " " ++ shown_code code))
why_text BadServer = codes "refused: bad server"
why_text OutOfTries = codes "refused: out of tries"

-- what is printed of a push of this digest that ended in this phase, and the exit status: 0 if it ended well, 1
-- if it was given up
abbrev pub PrintsPush : Digest → Phase → ℕ → List ℕ → Type 0
PrintsPush digest (Done outcome) status text =
    (status ≡ 0) × (text ≡ outcome_word outcome ++ (codes " " ++ digest_text digest))
PrintsPush digest (GaveUp why) status text = (status ≡ 1) × (text ≡ why_text why)
PrintsPush digest other status text = ⊥

-- The line of this end of a push was printed and nothing else, with its status; or the status is that of a fault.
abbrev pub IsEndLine : Digest → Result Outcome PushFault → Option (List ℕ) → Option (List ℕ) → ℕ → Type 0
IsEndLine digest (Ok outcome) before after status =
    IsPrinted (Some (outcome_word outcome ++ (codes " " ++ digest_text digest))) before after 0 status
IsEndLine digest (Err (faults.GaveUp why)) before after status = IsPrinted (Some (why_text why)) before after 1 status
IsEndLine digest (Err faults.NoMemory) before after status = status ≡ 3

-- The look before a push to this host: what was heard to a HEAD of the blob, over a connection that was made for it,
-- and the connection that is kept behind it.
pub record Look (host name : List ℕ) (digest : Digest) (before : Dialing) : Type 0 where
  pub heard : Option Heard
  pub behind : Dialing
  pub asked : AsksIn host before (Has name digest true) heard behind

-- Whether a look found the blob: a HEAD was answered 200, and the reply to another shows the blob of this length.
abbrev pub IsLooked : {host name : List ℕ} {digest : Digest} {before : Dialing} → ℕ → Look host name digest before
    → Bool → Dialing → Type 0
IsLooked {host} {name} {digest} size look true after =
    (is_found look.heard ≡ true) × AreSeen host name digest size look.behind sights.Blob after
IsLooked {host} {name} {digest} size look false after =
    ((is_found look.heard ≡ false) × (after ≡ look.behind))
    ⊎ ((is_found look.heard ≡ true) × (sight : Sight) × (is_blob sight ≡ false)
    × AreSeen host name digest size look.behind sight after)

-- a look was begun, and memory may have been out before it or behind its first HEAD
abbrev pub IsLookedAt : List ℕ → List ℕ → Digest → Dialing → Dialing → Type 0
IsLookedAt host name digest before after =
    (after ≡ before) ⊎ ((look : Look host name digest before) × (after ≡ look.behind))

-- how a push ends that found the blob at its own HEAD, by what the reply to another shows
abbrev pub end_at : Sight → Result Outcome PushFault
end_at sights.Blob = Ok Already
end_at sights.Other = Err (faults.GaveUp BadServer)
end_at sights.Nothing = Err (faults.GaveUp OutOfTries)

abbrev pub phase_at : Sight → Phase
phase_at sights.Blob = Done Already
phase_at sights.Other = GaveUp BadServer
phase_at sights.Nothing = GaveUp OutOfTries

-- How a push ends, and what is done behind it: one that found the blob at its own HEAD asks another.
abbrev pub IsConfirmed : List ℕ → List ℕ → Digest → ℕ → Dialing → Result Outcome PushFault → Dialing
    → Result Outcome PushFault → Type 0
IsConfirmed host name digest size last (Ok Already) after end =
    ((sight : Sight) × AreSeen host name digest size last sight after × (end ≡ end_at sight))
    ⊎ ((end ≡ Err faults.NoMemory) × (after ≡ last))
IsConfirmed host name digest size last pushed after end = (end ≡ pushed) × (after ≡ last)

-- the same of the phase in which it ended, and of the one whose line is printed
abbrev pub IsShown : List ℕ → Push → Dialing → Phase → Dialing → Phase → Type 0
IsShown host p last (Done Already) after shown =
    (sight : Sight) × AreSeen host p.name p.digest (length p.file) last sight after × (shown ≡ phase_at sight)
IsShown host p last phase after shown = (shown ≡ phase) × (after ≡ last)

-- The push was sent to this host behind a look, and ended so: as already there if the blob was found; else there is all
-- that it heard, each over the connection that was kept or over a new one. Or it ended out of memory at its look.
abbrev pub IsSent : List ℕ → Push → Dialing → Dialing → Result Outcome PushFault → Type 0
IsSent host p before after end =
    ((look : Look host p.name p.digest before) × IsLooked (length p.file) look true after × (end ≡ Ok Already))
    ⊎ (((look : Look host p.name p.digest before) × (mid last : Dialing) × (pushed : Result Outcome PushFault)
    × IsLooked (length p.file) look false mid × IsPush (AsksIn host) p mid last pushed
    × IsConfirmed host p.name p.digest (length p.file) last pushed after end)
    ⊎ ((end ≡ Err faults.NoMemory) × IsLookedAt host p.name p.digest before after))

-- The blob was found: its line was printed and nothing else. All that was done with connections is this history's.
pub record IsFoundLine {host name : List ℕ} {digest : Digest} {start : Dialing} (size : ℕ)
    (look : Look host name digest start) (history : List ConnEvent) (before after : Option (List ℕ)) (status : ℕ)
    : Type 0 where
  pub behind : Dialing
  pub found : IsLooked size look true behind
  pub given_back : history ≡ history_at_end behind
  pub is_status : status ≡ 0
  pub printed : Appends before after (line (outcome_word Already ++ (codes " " ++ digest_text digest)))

-- The blob wasn't found, and there is all that the push heard behind the look: its asks in turn went over the
-- connection that was kept or over a new one, and this was heard there. The line of that push's end was printed and
-- nothing else. All that was done with connections is this history's.
pub record IsPushLine {host : List ℕ} (p : Push) {start : Dialing} (look : Look host p.name p.digest start)
    (history : List ConnEvent) (before after : Option (List ℕ)) (status : ℕ) : Type 0 where
  pub mid : Dialing
  pub missing : IsLooked (length p.file) look false mid
  pub heard : List (Option Heard)
  pub last : Dialing
  pub over : Leads (AsksIn host) mid (log_of p heard) last
  pub behind : Dialing
  pub shown : Phase
  pub shows : IsShown host p last (after_all p heard).phase behind shown
  pub given_back : history ≡ history_at_end behind
  pub text : List ℕ
  -- if nothing was heard, as if no connection could be made, the line tells no status: it says that the tries are
  -- used up
  pub unheard : AreUnheard heard → (status ≡ 1) × (text ≡ why_text OutOfTries)
  pub told : PrintsPush p.digest shown status text
  pub printed : Appends before after (line text)

-- A push to this host looked first, and the line of the blob that was found or of the push's end was printed. The
-- connections went from the first history to the second.
abbrev pub IsLookedLine : List ℕ → Push → List ConnEvent → List ConnEvent → Option (List ℕ) → Option (List ℕ) → ℕ
    → Type 0
IsLookedLine host p old new before after status =
    (look : Look host p.name p.digest (dialing old))
    × (IsFoundLine (length p.file) look new before after status ⊎ IsPushLine p look new before after status)

-- The name isn't one, and a line that says so was printed and nothing else, with status 1.
abbrev pub IsNameLine : List ℕ → Option (List ℕ) → Option (List ℕ) → ℕ → Type 0
IsNameLine name before after status =
    ¬ (IsName name) × (status ≡ 1) × Appends before after (line (codes "refused: name"))

-- a further HEAD of the push's blob may have been asked
abbrev pub MayLook : List ℕ → Push → Dialing → Dialing → Type 0
MayLook host p before after =
    (after ≡ before) ⊎ ((sight : Sight) × AreSeen host p.name p.digest (length p.file) before sight after)

-- A push to this host was begun, whatever came of it: it looked, and this was heard to what it asked behind the look,
-- over the connection that was kept or over a new one. All that was done with connections is this history's.
pub record HasAsked (host : List ℕ) (p : Push) (old new : List ConnEvent) : Type 0 where
  pub look : Look host p.name p.digest (dialing old)
  pub mid : Dialing
  pub looked : MayLook host p look.behind mid
  pub heard : List (Option Heard)
  pub last : Dialing
  pub over : Leads (AsksIn host) mid (log_of p heard) last
  pub behind : Dialing
  pub confirmed : MayLook host p last behind
  pub given_back : new ≡ history_at_end behind

-- the same, or no connection was made
abbrev pub IsBegun : List ℕ → Push → List ConnEvent → List ConnEvent → Type 0
IsBegun host p old new = (new ≡ old) ⊎ HasAsked host p old new

-- The name isn't one, and no connection was made; or a file was pushed under it to this host with 5 tries, unless it
-- was found there, over the connections that were made from the first history to the second, and the line of that was
-- printed, with its status; or the status is that of a fault, with which a push may end once it was begun.
abbrev pub IsPushedOver : List ℕ → List ℕ → List ℕ → ℕ → List ConnEvent → List ConnEvent → Option (List ℕ)
    → Option (List ℕ) → ℕ → Type 0
IsPushedOver host name file chunk old new before after status =
    ((IsNameLine name before after status × (new ≡ old))
    ⊎ (IsName name × IsLookedLine host (push_of Sha256 name file chunk 5) old new before after status))
    ⊎ ((status ≡ 3) × IsBegun host (push_of Sha256 name file chunk 5) old new)

-- The same of an address, over connections that began with none.
abbrev pub IsPushed : SocketAddr → List ℕ → List ℕ → ℕ → Option (List ℕ) → Option (List ℕ) → ℕ → Type 0
IsPushed addr name file chunk before after status =
    (history : List ConnEvent)
    × IsPushedOver (socket_text addr) name file chunk [] history before after status
