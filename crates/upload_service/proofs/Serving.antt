-- How a path through the code meets the machine.
use Rattle.std.proofs.Common.{◌≡◌, ◌≢◌, ℕ, ◌+◌, ◌≤◌, ◌<◌, ◌^◌, List, ◌++◌, length, true, Option, Some, None, refl, sym}
use Rattle.std.proofs.Common.{◌∙◌, ap, subst, inl, inr, arith, rules}
use Rattle.std.proofs.lemmas.Bool.{true≢false, le-ltb}
use Rattle.std.specs.FinMap as map
use Rattle.upload_names.specs.Digest.{Digest, digest_cmp, content_digest}
use Rattle.upload_service.specs.declared.limits.Limits.{Limits}
use Rattle.upload_service.specs.declared.turn.Sent.{Sent}
use Rattle.upload_service.specs.declared.answer.Refusal.TheVariants as refusals
use Rattle.upload_service.specs.UploadView.{Act, Sends}
use Rattle.upload_service.proofs.UploadView.{named}
use Rattle.upload_service.specs.declared.answer.Answer.{Answer}
use Rattle.upload_service.specs.declared.answer.Answer.TheVariants as answers
use Rattle.upload_service.specs.Machine.{Session, State, Outcome, Takes, Commits, Stores, answer_of}
use Rattle.upload_service.specs.Machine.{state_after, refused, size_fault, body_fault, unless_fault, checked}
use Rattle.upload_service.specs.Machine.{Progress, awake, at_session}
use Rattle.upload_service.specs.Kept.Tables.{IsPlaced, IsTurnedAway}
use Rattle.std.specs.Prelude.{IsSome, is_some}
use Rattle.std.specs.FinSet as set
use Rattle.std.specs.Ordering.{nat_cmp}
use Rattle.std.specs.Cmp.Lexicographic.{slice_cmp}
use Rattle.upload_service.specs.Machine.{Comes, IsLawful, may_lack_memory, empty_state, pair_cmp}
use Rattle.upload_service.proofs.Keeping.Tables.{same_from_ne, same_digest_from_eq, same_digest_from_ne}
use Rattle.upload_service.proofs.Steps.{awake_is_open, None≢Some}

pub does : (s : State) (now : ℕ) (o p : Outcome) (answer : Answer) (t : State) → o ≡ p → answer ≡ answer_of p
    → t ≡ state_after s now p → Comes s now o answer t
does s now o p answer t e a n = inl (a ∙ ap answer_of (sym e), n ∙ ap (state_after s now) (sym e))

pub lacks : (s : State) (now : ℕ) (o p : Outcome) (answer : Answer) (t : State) → o ≡ p → may_lack_memory p ≡ true
    → answer ≡ answers.NoMemory → t ≡ s → Comes s now o answer t
lacks s now o p answer t e m a n = inr (ap may_lack_memory e ∙ m, a, n)

pub comes_by : (s : State) (now : ℕ) (o p : Outcome) (answer : Answer) (t : State) → o ≡ p → Comes s now p answer t
    → Comes s now o answer t
comes_by s now o p answer t e h = subst (λ q. Comes s now q answer t) (sym e) h

pub none_named : (max_blob : ℕ) (o : Option Session) (name at : List ℕ) (act : Act)
    → ((session : Session) → o ≡ Some session → session.name ≢ name)
    → at_session max_blob o name at act ≡ refused refusals.NoUpload
none_named max_blob None name at act h = refl
none_named max_blob (Some session) name at act h = cc (same_from_ne session.name name (h session refl))

nothing_there : (X : Type 0) (k : List ℕ) → IsSome (map.get (map.empty {X = X} {R = slice_cmp nat_cmp}) k) → ⊥
nothing_there X k e = true≢false (sym e ∙ ap is_some (map.get-empty (slice_cmp nat_cmp) k))

pub empty_is_lawful : (limits : Limits) (issued : ℕ) → IsLawful (empty_state limits issued)
empty_is_lawful limits issued =
    record {
      numbered = λ at session e. absurd (None≢Some (sym (map.get-empty (slice_cmp nat_cmp) at) ∙ e));
      different = λ a b p q e. absurd (nothing_there Session a p);
      few = rw map.len-empty (omega arith);
      small = λ at session e. absurd (None≢Some (sym (map.get-empty (slice_cmp nat_cmp) at) ∙ e));
      own_digest = λ d b e. absurd (None≢Some (sym (map.get-empty digest_cmp d) ∙ e));
      stored = λ n d e. absurd (true≢false (sym e ∙ set.contains-empty pair_cmp (n, d)));
    }

-- the upload of a body, behind so many bytes
abbrev pub behind : Sent → ℕ → Progress
behind sent next = record { name = sent.name; at = sent.at; next = next }

-- what comes of a request with a body, by what is wrong with the body
met : (max_blob : ℕ) (sent : Sent) (received : List ℕ) (next : ℕ) (fault : Option Answer) (o : Outcome)
    → next ≡ length received → body_fault max_blob (behind sent next) sent.range sent.body ≡ fault
    → unless_fault (body_fault max_blob (behind sent (length received)) sent.range sent.body) o
    ≡ unless_fault fault o
met max_blob sent received next fault o l f = cc

-- what is done with a body, at the close of a session
abbrev closing : Sent → Session → Option Digest → Outcome
closing sent session digest =
    checked digest (session.received ++ sent.body) (λ d. Commits sent.name sent.at d (session.received ++ sent.body))

-- a body for a session that is there under its name, and which is turned away
pub turned_away_there : (s : State) (now : ℕ) (sent : Sent) (session : Session) (next : ℕ) (answer : Answer)
    → awake s now sent.at ≡ Some session → session.name ≡ sent.name → next ≡ length session.received
    → body_fault s.limits.max_blob (behind sent next) sent.range sent.body ≡ Some answer
    → IsTurnedAway s now sent answer
turned_away_there s now sent session next answer e n l f =
    grind (
      arith,
      named s.limits.max_blob (awake s now sent.at) session sent.name sent.at (Sends sent.range sent.body) e n,
      met s.limits.max_blob sent session.received next (Some answer) (Takes sent.name sent.at (session.received ++ sent.body)) l f,
      named s.limits.max_blob (awake s now sent.at) session sent.name sent.at,
      met s.limits.max_blob sent session.received next (Some answer),
    )

-- and one that fits
pub placed_there : (s : State) (now : ℕ) (sent : Sent) (session : Session) (next : ℕ)
    → awake s now sent.at ≡ Some session → session.name ≡ sent.name → next ≡ length session.received
    → next + length sent.body < 2 ^ 64
    → body_fault s.limits.max_blob (behind sent next) sent.range sent.body ≡ None
    → IsPlaced s now sent (record { name = sent.name; at = sent.at; body = sent.body; next = next })
placed_there s now sent session next e n l small f =
    grind (
      arith,
      awake_is_open s.limits.max_idle now (map.get s.sessions sent.at) session e,
      named s.limits.max_blob (awake s now sent.at) session sent.name sent.at (Sends sent.range sent.body) e n,
      met s.limits.max_blob sent session.received next None (Takes sent.name sent.at (session.received ++ sent.body)) l f,
      named s.limits.max_blob (awake s now sent.at) session sent.name sent.at,
      met s.limits.max_blob sent session.received next None,
    )

-- and one for a session that isn't there, or not under its name
pub nowhere : (s : State) (now : ℕ) (sent : Sent)
    → ((session : Session) → awake s now sent.at ≡ Some session → session.name ≢ sent.name)
    → IsTurnedAway s now sent (answers.Refused refusals.NoUpload)
nowhere s now sent none = search (rules, arith, none_named)

pub mismatch : (digest : Digest) (blob : List ℕ) (done : Digest → Outcome)
    → content_digest digest.algorithm blob ≢ digest → checked (Some digest) blob done ≡ refused refusals.Mismatch
mismatch digest blob done n = cc (same_digest_from_ne (content_digest digest.algorithm blob) digest n)

pub match : (digest : Digest) (blob : List ℕ) (done : Digest → Outcome) → content_digest digest.algorithm blob ≡ digest
    → checked (Some digest) blob done ≡ done digest
match digest blob done e = cc (same_digest_from_eq (content_digest digest.algorithm blob) digest e)

pub single_fits : (max_blob : ℕ) (name body : List ℕ) (asked : Option Digest) (digest : Digest) → length body ≤ max_blob
    → asked ≡ Some digest → unless_fault (size_fault max_blob 0 body) (checked asked body (λ d. Stores name d body))
    ≡ checked (Some digest) body (λ d. Stores name d body)
single_fits max_blob name body asked digest le e = cc (le-ltb max_blob (0 + length body) (omega arith))

pub single_stores : (max_blob : ℕ) (name body : List ℕ) (asked : Option Digest) (digest : Digest)
    → length body ≤ max_blob → asked ≡ Some digest → content_digest digest.algorithm body ≡ digest
    → unless_fault (size_fault max_blob 0 body) (checked asked body (λ d. Stores name d body)) ≡ Stores name digest body
single_stores max_blob name body asked digest le e own =
    single_fits max_blob name body asked digest le e ∙ match digest body (λ d. Stores name d body) own
