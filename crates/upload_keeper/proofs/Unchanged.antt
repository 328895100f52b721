-- Where there is no room: a service that stays as it was may always say that it lacks memory in place of a change.
use Rattle.std.proofs.Common.{◌≡◌, ℕ, Bool, true, false, true≢false, List, arith, rules}
use Rattle.std.proofs.Common.{refl, sym, ◌∙◌, [], ◌∷◌, append-nil}
use Rattle.std.specs.Prelude.{if◌then◌else◌, Option, Some, None, IfSome, nat_lt, ◌+◌}
use Rattle.std.specs.Prelude.{length, ◌++◌}
use Rattle.upload_names.specs.Digest.{Digest}
use Rattle.upload_service.specs.declared.ask.Ask.{Ask}
use Rattle.upload_service.specs.declared.ask.Extent.{Extent}
use Rattle.upload_service.specs.declared.answer.Answer.{Answer}
use Rattle.upload_service.specs.declared.answer.Answer.TheVariants as answers
use Rattle.upload_service.specs.UploadView.{Act}
use Rattle.upload_service.specs.Machine.{State, Session, Progress, Outcome, Turn, Comes, outcome, opening}
use Rattle.upload_service.specs.Machine.{size_fault, body_fault, unless_fault, checked, in_session, at_session}
use Rattle.upload_service.specs.Machine.{blob_reply, same}
use Rattle.upload_service.specs.Machine.Outcome.{Replies, Begins, Takes, Commits, Stores, Mounts}
use Rattle.upload_service.specs.Requests.{turns_away}
use Rattle.upload_service.specs.Run.{Exchange}
use Rattle.upload_keeper.specs.Safety.{Asked, changes, changed}

abbrev IsQuiet : Answer → Type 0
IsQuiet answer = changes answer ≡ false

-- what changes nothing is answered so
abbrev IsPlain : Outcome → Type 0
IsPlain (Replies answer) = IsQuiet answer
IsPlain (Begins name at) = Prim.Unit {0}
IsPlain (Takes name at received) = Prim.Unit {0}
IsPlain (Commits name at digest blob) = Prim.Unit {0}
IsPlain (Stores name digest blob) = Prim.Unit {0}
IsPlain (Mounts name digest) = Prim.Unit {0}

either : {A : Type 0} (P : A → Type 0) (b : Bool) (x y : A) → P x → P y → P (if b then x else y)
either P true x y p q = p
either P false x y p q = q

abbrev IsQuietFault : Option Answer → Type 0
IsQuietFault fault = IfSome fault IsQuiet

size_quiet : (most next : ℕ) (body : List ℕ) → IsQuietFault (size_fault most next body)
size_quiet most next body = either IsQuietFault (nat_lt most (next + length body)) _ _ refl tt

body_quiet : (most : ℕ) (upload : Progress) (range : Extent) (body : List ℕ)
    → IsQuietFault (body_fault most upload range body)
body_quiet most upload range body = search (rules, arith, size_quiet, either)

unless_plain : (fault : Option Answer) (o : Outcome) → IsQuietFault fault → IsPlain o → IsPlain (unless_fault fault o)
unless_plain None o quiet plain = plain
unless_plain (Some answer) o quiet plain = quiet

checked_plain : (digest : Option Digest) (blob : List ℕ) (done : Digest → Outcome)
    → ((d : Digest) → IsPlain (done d)) → IsPlain (checked digest blob done)
checked_plain None blob done plain = refl
checked_plain (Some digest) blob done plain = search (rules, arith, either)

session_plain : (most : ℕ) (session : Session) (name at : List ℕ) (act : Act)
    → IsPlain (in_session most session name at act)
session_plain most session name at act = search (rules, arith, unless_plain, body_quiet, checked_plain)

at_plain : (most : ℕ) (session : Option Session) (name at : List ℕ) (act : Act)
    → IsPlain (at_session most session name at act)
at_plain most None name at act = refl
at_plain most (Some session) name at act = search (rules, arith, either, session_plain)

opening_plain : (s : State) (name secret : List ℕ) (now : ℕ) → IsPlain (opening s name secret now)
opening_plain s name secret now = search (rules, arith, either)

blob_plain : (digest : Digest) (head : Bool) (blob : Option (List ℕ)) → IsPlain (blob_reply digest head blob)
blob_plain digest head None = refl
blob_plain digest head (Some blob) = refl

outcome_plain : (s : State) (ask : Ask) (secret : List ℕ) (now : ℕ) → IsPlain (outcome s ask secret now)
outcome_plain s ask secret now =
    search (rules, arith, either, blob_plain, opening_plain, unless_plain, size_quiet, checked_plain, at_plain)

comes_lacking : (old : State) (now : ℕ) (o : Outcome) (answer : Answer) (new : State) → IsPlain o
    → changes answer ≡ true → new ≡ old → Comes old now o answer new → Comes old now o answers.NoMemory new
comes_lacking old now o answer new plain told same comes = search (rules, arith)

pub turn_lacking : (old : State) (ask : Ask) (secret : List ℕ) (now : ℕ) (answer : Answer) (new : State)
    → changes answer ≡ true → new ≡ old → Turn old ask secret now answer new
    → Turn old ask secret now answers.NoMemory new
unfolding Turn
turn_lacking old ask secret now answer new told same turn = search (rules, arith, comes_lacking, outcome_plain)

-- what told of a change was noted with room
pub noted_with_room : (room : Bool) (noted : Option Asked) (request : Asked) (told : Bool)
    → noted ≡ (if room then Some request else None) → (room ≡ false → told ≡ false) → told ≡ true
    → noted ≡ Some request
noted_with_room true noted request told is quiet tells = is
noted_with_room false noted request told is quiet tells = absurd (true≢false (sym tells ∙ quiet refl))

-- what turns a chunk away tells of no change
pub quiet_away : (answer : Answer) → turns_away answer ≡ true → changes answer ≡ false
quiet_away answer e = search (rules, arith)

-- nothing is kept of what changed nothing
pub kept_nothing : (before after : List Exchange) (x : Exchange) → changes x.answer ≡ false → after ≡ before
    → after ≡ before ++ changed (x ∷ [])
kept_nothing before after x quiet same = cc (append-nil before)
