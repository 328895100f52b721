-- A request that changes something is answered as was foreseen.
use Rattle.std.proofs.Common.{◌≡◌, ◌≢◌, ◌⊎◌, inl, inr, ℕ, Bool, true, false, List, length, Option, Some}
use Rattle.std.proofs.Common.{None, refl, cond, arith, rules}
use Rattle.std.proofs.Common.{length-append}
use Rattle.std.specs.Prelude.{nat_le, ◌||◌, ◌+◌}
use Rattle.std.specs.Option.{option_map}
use Rattle.std.specs.FinMap as map
use Rattle.upload_names.specs.Digest.{Digest}
use Rattle.upload_service.specs.declared.answer.Answer.{Answer}
use Rattle.upload_service.specs.declared.answer.Answer.TheVariants as answers
use Rattle.upload_service.specs.declared.answer.Refusal.TheVariants as refusals
use Rattle.upload_service.specs.declared.ask.Ask.{Ask}
use Rattle.upload_service.specs.declared.ask.Ask.TheVariants as asks
use Rattle.upload_service.specs.declared.ask.Extent.{Extent}
use Rattle.upload_service.specs.Machine.{State, Session, Outcome, Replies, Begins, Mounts, blob_reply}
use Rattle.upload_service.specs.Machine.{answer_of, outcome, unless_fault}
use Rattle.upload_service.specs.Machine.{checked, at_session, in_session, unless_idle}
use Rattle.upload_service.specs.Machine.{opening}
use Rattle.upload_service.specs.Machine.{last_number, Turn}
use Rattle.upload_service.specs.UploadView.{Act, Sends, AsksOffset, Closes}
use Rattle.upload_names.specs.Reference.{reference}
use Rattle.upload_journal.specs.declared.entries.KeptAnswer.{KeptAnswer}
use Rattle.upload_journal.specs.declared.entries.KeptAnswer.TheVariants.{Taken, Stored}
use Rattle.upload_journal.specs.Short.{told_of}
use Rattle.upload_journal.specs.Foreseen.{change_of, next_told}
use Rattle.upload_journal.proofs.Restart.{IsSilent, IsSilentFault, both_ways, nothing, silent_body, fault_if, no_fault}

-- it changes nothing, or is told so
pub record Tells (told : Option KeptAnswer) (o : Outcome) : Type 0 where
  pub tells : (told_of (answer_of o) ≡ None) ⊎ (told_of (answer_of o) ≡ told)

as_told : (o : Outcome) → Tells (told_of (answer_of o)) o
as_told o = record { tells = inr refl }

tells_nothing : (told : Option KeptAnswer) (o : Outcome) → IsSilent o → Tells told o
tells_nothing told o h = record { tells = inl h.none }

tells_if : (told : Option KeptAnswer) (b : Bool) (x y : Outcome) → Tells told x → Tells told y → Tells told (cond b x y)
tells_if told true x y h k = h
tells_if told false x y h k = k

tells_unless : (told : Option KeptAnswer) (f : Option Answer) (o : Outcome) → IsSilentFault f → Tells told o
    → Tells told (unless_fault f o)
tells_unless told None o h k = k
tells_unless told (Some answer) o h k = tells_nothing told (Replies answer) (nothing answer (h.none answer refl))

tells_checked : (digest : Option Digest) (blob : List ℕ) (done : Digest → Outcome)
    → ((d : Digest) → told_of (answer_of (done d)) ≡ Some (Stored d))
    → Tells (option_map Stored digest) (checked digest blob done)
tells_checked None blob done h = tells_nothing None _ (nothing _ refl)
tells_checked (Some digest) blob done h = search (rules, arith, tells_if, tells_nothing, nothing)

-- an opening, by whether the table is full
by_full : (b : Bool) (issued : ℕ) (name secret : List ℕ)
    → Tells (next_told issued secret)
    (cond (b || nat_le last_number issued) (Replies (answers.Refused refusals.TooMany))
    (Begins name (reference (issued + 1) secret)))
by_full true issued name secret = tells_nothing _ _ (nothing _ refl)
by_full false issued name secret = search (rules, arith, both_ways, tells_nothing, nothing, as_told)

tells_opening : (s : State) (name secret : List ℕ) (now : ℕ)
    → Tells (next_told s.issued secret) (opening s name secret now)
tells_opening s name secret now = by_full _ s.issued name secret

by_idle : (told : Option KeptAnswer) (max_blob : ℕ) (b : Bool) (session : Session) (name at : List ℕ) (act : Act)
    → Tells told (in_session max_blob session name at act)
    → Tells told (at_session max_blob (cond b None (Some session)) name at act)
by_idle told max_blob true session name at act h = tells_nothing told _ (nothing _ refl)
by_idle told max_blob false session name at act h = tells_if told _ _ _ h (tells_nothing told _ (nothing _ refl))

tells_chunk : (max_blob max_idle now : ℕ) (found : Option Session) (name at : List ℕ) (range : Extent) (body : List ℕ)
    → Tells (option_map (λ (session : Session). Taken (length session.received + length body)) found)
    (at_session max_blob (unless_idle max_idle now found) name at (Sends range body))
tells_chunk max_blob max_idle now found name at range body =
    search (rules, arith, tells_nothing, nothing, by_idle, tells_unless, silent_body, length-append)

tells_close : (max_blob max_idle now : ℕ) (found : Option Session) (name at : List ℕ) (range : Extent)
    (digest : Option Digest) (body : List ℕ)
    → Tells (option_map Stored digest)
    (at_session max_blob (unless_idle max_idle now found) name at (Closes range digest body))
tells_close max_blob max_idle now found name at range digest body =
    search (rules, arith, tells_nothing, nothing, by_idle, tells_unless, silent_body, tells_checked)

tells_mount : (s : State) (name source secret : List ℕ) (digest : Digest) (now : ℕ) (b : Bool)
    → Tells (cond b (Some (Stored digest)) (next_told s.issued secret))
    (cond b (Mounts name digest) (opening s name secret now))
tells_mount s name source secret digest now true = as_told _
tells_mount s name source secret digest now false = tells_opening s name secret now

tells_blob : (told : Option KeptAnswer) (digest : Digest) (head : Bool) (blob : Option (List ℕ))
    → Tells told (blob_reply digest head blob)
tells_blob told digest head None = tells_nothing told _ (nothing _ refl)
tells_blob told digest head (Some blob) = tells_nothing told _ (nothing _ refl)

tells_status : (max_blob : ℕ) (found : Option Session) (name at : List ℕ)
    → Tells None (at_session max_blob found name at AsksOffset)
tells_status max_blob None name at = tells_nothing None _ (nothing _ refl)
tells_status max_blob (Some session) name at = search (rules, arith, tells_if, tells_nothing, nothing)

pub foreseen : (s : State) (ask : Ask) (secret : List ℕ) (now : ℕ)
    → Tells (change_of s ask secret) (outcome s ask secret now)
foreseen s asks.Base secret now = tells_nothing None _ (nothing _ refl)
foreseen s (asks.Has name digest head) secret now =
    search (rules, arith, tells_if, tells_blob, tells_nothing, nothing)
foreseen s (asks.Opening name) secret now = tells_opening s name secret now
foreseen s (asks.Single name digest body) secret now =
    search (rules, arith, tells_unless, fault_if, no_fault, tells_checked)
foreseen s (asks.Mount name digest source) secret now = search (rules, arith, tells_mount)
foreseen s (asks.Chunk name at range body) secret now = tells_chunk _ _ now (map.get s.sessions at) name at range body
foreseen s (asks.Status name at) secret now = tells_status _ _ name at
foreseen s (asks.Close name at range digest body) secret now = search (rules, arith, tells_close)
foreseen s (asks.Refused refusal) secret now = tells_nothing None _ (nothing _ refl)

-- an answer that wasn't foreseen doesn't come
pub never_comes : (s : State) (ask : Ask) (secret : List ℕ) (now : ℕ) (told : KeptAnswer)
    → change_of s ask secret ≢ Some told → told_of (answer_of (outcome s ask secret now)) ≢ Some told
never_comes s ask secret now told other comes = search (rules, arith, foreseen)

-- the answer is the one that the request comes to
pub answer_is : (s : State) (ask : Ask) (secret : List ℕ) (now : ℕ) (answer : Answer) (t : State)
    → Turn s ask secret now answer t → answer ≢ answers.NoMemory → answer ≡ answer_of (outcome s ask secret now)
unfolding Turn
answer_is s ask secret now answer t (inl turn) some = turn.0
answer_is s ask secret now answer t (inr turn) some = absurd (some turn.1)

-- so one that was foreseen and is told otherwise changes nothing
pub tells_none : (s : State) (ask : Ask) (secret : List ℕ) (now : ℕ) (answer : Answer) (t : State) (told : KeptAnswer)
    → Turn s ask secret now answer t → answer ≢ answers.NoMemory → change_of s ask secret ≡ Some told
    → told_of answer ≢ Some told → told_of answer ≡ None
tells_none s ask secret now answer t told turn some will other = search (rules, arith, answer_is, foreseen)
