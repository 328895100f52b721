-- Each request comes to what is said of its outcome.
use Rattle.std.proofs.Common.{◌≡◌, ◌≢◌, ℕ, ◌+◌, ◌<◌, ◌≤◌, List, ◌++◌, length, Bool, true, false, Option, Some}
use Rattle.std.proofs.Common.{None, refl, sym, ◌∙◌, ap, subst, cond, inl, inr, length-append, arith, rules}
use Rattle.std.specs.Prelude.{◌||◌, if◌then◌else◌}
use Rattle.std.proofs.lemmas.Bool.{true≢false, ltb-false, leb-false, eq-eqb}
use Rattle.std.specs.FinMap as map
use Rattle.upload_names.specs.ByteRange.{Span}
use Rattle.upload_names.specs.Digest.{Digest, HasDigest}
use Rattle.upload_names.specs.Reference.{reference}
use Rattle.upload_service.specs.declared.ask.Extent.{Extent}
use Rattle.upload_service.specs.declared.ask.Extent.TheVariants.{Given}
use Rattle.upload_service.specs.declared.answer.Refusal.{Refusal}
use Rattle.upload_service.specs.declared.answer.Refusal.TheVariants as refusals
use Rattle.upload_service.specs.declared.ask.Ask.{Ask}
use Rattle.upload_service.specs.declared.ask.Ask.TheVariants as asks
use Rattle.upload_service.specs.declared.answer.Answer.{Answer}
use Rattle.upload_service.specs.declared.answer.Answer.TheVariants as answers
use Rattle.upload_service.specs.UploadView.{Act, Sends, AsksOffset, Closes, OfSession, upload_view}
use Rattle.upload_service.specs.UploadView.{answer_view}
use Rattle.upload_service.specs.Machine.{same, is_idle, unless_idle, awake, all_awake, Session, State}
use Rattle.upload_service.specs.Machine.{Outcome, Replies, Begins, Takes, Commits, Stores, Mounts, refused, size_fault}
use Rattle.upload_service.specs.Machine.{Progress, progress_of, body_fault, unless_fault, checked, in_session}
use Rattle.upload_service.specs.Machine.{at_session, last_number, opening, blob_reply, holds, outcome, effect}
use Rattle.upload_service.specs.Machine.{answer_of}
use Rattle.upload_service.specs.Headline.{aim_of, aim_at, aim_by}
use Rattle.upload_service.proofs.Keeping.Tables.{eq_from_same, eq_from_same_digest}
use Rattle.upload_service.proofs.Effects.{Found, AsksToBegin, not_accepted, not_closed}
use Rattle.upload_service.proofs.Effects.{FitsChange, FitsAnswer, IsOutcome}

-- a fact of what follows a test is one of both branches
pub by_test : {A : Type 0} (P : A → Type 0) (b : Bool) (x y : A) → (b ≡ true → P x) → (b ≡ false → P y) → P (cond b x y)
by_test P b x y when so = elim b as (λ v. b ≡ v → P (cond v x y)) [ true ↦ λ e. when e | false ↦ λ e. so e ] refl

or_false : (a b : Bool) → (a || b) ≡ false → (a ≡ false) × (b ≡ false)
or_false true b e = absurd (true≢false e)
or_false false b e = (refl, e)

module _ (P : Outcome → Type 0) (refusals_do : (r : Refusal) → P (refused r)) where
  pub by_size : (max_blob next : ℕ) (body : List ℕ) (o : Outcome) → (next + length body ≤ max_blob → P o)
      → P (unless_fault (size_fault max_blob next body) o)
  by_size max_blob next body o fits = search (rules, arith, by_test, ltb-false)

  pub by_body : (max_blob : ℕ) (upload : Progress) (range : Extent) (body : List ℕ) (o : Outcome)
      → ((r : Span) → range ≡ Given r → r.first ≢ upload.next
      → P (Replies (answers.Misplaced upload.name upload.at upload.next)))
      → (upload.next + length body ≤ max_blob → P o)
      → P (unless_fault (body_fault max_blob upload range body) o)
  by_body max_blob upload range body o h1 h2 = search (rules, arith, by_size, by_test, true≢false, eq-eqb)

  pub by_digest : (asked : Option Digest) (blob : List ℕ) (done : Digest → Outcome)
      → ((digest : Digest) → asked ≡ Some digest → HasDigest blob digest → P (done digest))
      → P (checked asked blob done)
  by_digest None blob done match = refusals_do refusals.NoDigest
  by_digest (Some digest) blob done match = search (rules, arith, by_test, eq_from_same_digest)

pub None≢Some : {A : Type 0} {x : A} → None ≡ Some x → ⊥
None≢Some e = cc

-- what isn't idle is open
pub awake_is_open : (max_idle now : ℕ) (o : Option Session) (session : Session)
    → unless_idle max_idle now o ≡ Some session → (o ≡ Some session) × (is_idle max_idle now session ≡ false)
awake_is_open max_idle now None session e = absurd (None≢Some e)
awake_is_open max_idle now (Some had) session e = search (rules, arith, None≢Some)

pub idle_is_none : (max_idle now : ℕ) (session : Session) → is_idle max_idle now session ≡ true
    → unless_idle max_idle now (Some session) ≡ None
idle_is_none max_idle now session e = ap (λ b. cond b None (Some session)) e

-- the request to a session that asks this of it
abbrev pub session_ask : List ℕ → List ℕ → Act → Ask
session_ask name at (Sends range body) = asks.Chunk name at range body
session_ask name at AsksOffset = asks.Status name at
session_ask name at (Closes range digest body) = asks.Close name at range digest body

-- there is no other
pub is_session_ask : (ask : Ask) (name at : List ℕ) (act : Act) → upload_view ask ≡ OfSession name at act
    → ask ≡ session_ask name at act
is_session_ask ask name at act = search (rules, arith)

outcome_of_act : (s : State) (secret : List ℕ) (now : ℕ) (name at : List ℕ) (act : Act)
    → outcome s (session_ask name at act) secret now ≡ at_session s.limits.max_blob (awake s now at) name at act
outcome_of_act s secret now name at = search (rules, arith)

-- the machine has a request to a session meet that session
pub outcome_of_view : (s : State) (ask : Ask) (secret : List ℕ) (now : ℕ) (name at : List ℕ) (act : Act)
    → upload_view ask ≡ OfSession name at act
    → outcome s ask secret now ≡ at_session s.limits.max_blob (awake s now at) name at act
outcome_of_view s ask secret now name at act e = search (rules, arith, is_session_ask, outcome_of_act)

-- ---- what a request comes to, case by case

-- there is a number for one more session, and room for it
pub record HasRoom (s : State) (now : ℕ) : Type 0 where
  pub numbers_left : s.issued < last_number
  pub room : map.len (all_awake s now) < s.limits.max_open

-- what holds of each request and what it may come to
pub record HoldsOfEach (s : State) (secret : List ℕ) (now : ℕ) (P : Ask → Outcome → Type 0) : Type 0 where
  pub refusals : (ask : Ask) (refusal : Refusal) → P ask (refused refusal)
  pub base : P asks.Base (Replies answers.Base)
  pub blobs : (name : List ℕ) (digest : Digest) (head : Bool) (blob : List ℕ) → holds s name digest ≡ true
      → map.get s.blobs digest ≡ Some blob
      → P (asks.Has name digest head) (Replies (answers.Blob digest (length blob) (if head then None else Some blob)))
  pub openings : (name : List ℕ) → HasRoom s now
      → P (asks.Opening name) (Begins name (reference (s.issued + 1) secret))
  pub unmounted : (name : List ℕ) (digest : Digest) (source : List ℕ) → HasRoom s now
      → P (asks.Mount name digest source) (Begins name (reference (s.issued + 1) secret))
  pub mounts : (name : List ℕ) (digest : Digest) (source : List ℕ) → holds s source digest ≡ true
      → P (asks.Mount name digest source) (Mounts name digest)
  pub stores : (name : List ℕ) (digest : Digest) (body : List ℕ) → HasDigest body digest
      → P (asks.Single name (Some digest) body) (Stores name digest body)
  pub standing : (name at : List ℕ) (found : Found s now name at)
      → P (asks.Status name at) (Replies (answers.Standing name at (length found.session.received)))
  pub misses : (name at : List ℕ) (act : Act) (found : Found s now name at) (first : ℕ)
      → aim_by name at act ≡ Some (record { name = name; at = at; first = first })
      → first ≢ length found.session.received
      → P (session_ask name at act) (Replies (answers.Misplaced name at (length found.session.received)))
  pub takes : (name at : List ℕ) (range : Extent) (body : List ℕ) (found : Found s now name at)
      → length found.session.received + length body ≤ s.limits.max_blob
      → P (asks.Chunk name at range body) (Takes name at (found.session.received ++ body))
  pub commits : (name at : List ℕ) (range : Extent) (digest : Digest) (body : List ℕ) (found : Found s now name at)
      → HasDigest (found.session.received ++ body) digest
      → P (asks.Close name at range (Some digest) body) (Commits name at digest (found.session.received ++ body))

-- it holds of a request and what that comes to
module _ (s : State) (secret : List ℕ) (now : ℕ) (P : Ask → Outcome → Type 0) (each : HoldsOfEach s secret now P) where
  of_opening : (ask : Ask) (name : List ℕ) → (HasRoom s now → P ask (Begins name (reference (s.issued + 1) secret)))
      → P ask (opening s name secret now)
  of_opening ask name has_room = search (rules, arith, by_test, or_false, leb-false)

  of_blob : (name : List ℕ) (digest : Digest) (head : Bool) (stored : Option (List ℕ))
      → map.get s.blobs digest ≡ stored → holds s name digest ≡ true
      → P (asks.Has name digest head) (blob_reply digest head stored)
  of_blob name digest head None e held = each.refusals (asks.Has name digest head) refusals.NoBlob
  of_blob name digest head (Some blob) e held = each.blobs name digest head blob held e

  -- a request with a range, inside its session
  of_range : (name at : List ℕ) (act : Act) (range : Extent) (body : List ℕ) (found : Found s now name at) (o : Outcome)
      → aim_by name at act ≡ aim_at name at range
      → (length found.session.received + length body ≤ s.limits.max_blob → P (session_ask name at act) o)
      → P (session_ask name at act)
      (unless_fault (body_fault s.limits.max_blob (progress_of found.session name at) range body) o)
  of_range name at act range body found o aims =
      by_body (P (session_ask name at act)) (each.refusals (session_ask name at act)) s.limits.max_blob
      (progress_of found.session name at) range body o
      (λ r given missed. each.misses name at act found r.first (aims ∙ ap (aim_at name at) given) missed)

  of_act : (name at : List ℕ) (act : Act) (found : Found s now name at)
      → P (session_ask name at act) (in_session s.limits.max_blob found.session name at act)
  of_act name at (Sends range body) found =
      of_range name at (Sends range body) range body found _ refl (λ fits. each.takes name at range body found fits)
  of_act name at AsksOffset found = each.standing name at found
  of_act name at (Closes range asked body) found =
      let blob : List ℕ = found.session.received ++ body in
      of_range name at (Closes range asked body) range body found _ refl (λ _.
      by_digest (P (asks.Close name at range asked body)) (each.refusals (asks.Close name at range asked body)) asked
      blob (λ d. Commits name at d blob) (λ digest e own.
      subst (λ a. P (asks.Close name at range a body) (Commits name at digest blob)) (sym e)
      (each.commits name at range digest body found own)))

  of_session : (name at : List ℕ) (act : Act) (o : Option Session) → awake s now at ≡ o
      → P (session_ask name at act) (at_session s.limits.max_blob o name at act)
  of_session name at act None e = each.refusals (session_ask name at act) refusals.NoUpload
  of_session name at act (Some session) e =
      let is = awake_is_open s.limits.max_idle now (map.get s.sessions at) session e in
      by_test (P (session_ask name at act)) (same session.name name) _ _
      (λ q. of_act name at act
      (record { session = session; is_awake = e; is_open = is.0; not_idle = is.1; named = eq_from_same _ _ q }))
      (λ _. each.refusals (session_ask name at act) refusals.NoUpload)

  pub by_ask : (ask : Ask) → P ask (outcome s ask secret now)
  by_ask asks.Base = each.base
  by_ask (asks.Refused refusal) = each.refusals (asks.Refused refusal) refusal
  by_ask (asks.Has name digest head) = search (rules, arith, by_test, of_blob)
  by_ask (asks.Opening name) = of_opening (asks.Opening name) name (each.openings name)
  by_ask (asks.Mount name digest source) = search (rules, arith, by_test, of_opening)
  by_ask (asks.Single name asked body) =
      let no = each.refusals (asks.Single name asked body) in
      by_size (P (asks.Single name asked body)) no s.limits.max_blob 0 body _ (λ _.
      by_digest (P (asks.Single name asked body)) no asked body (λ d. Stores name d body) (λ digest e own.
      subst (λ a. P (asks.Single name a body) (Stores name digest body)) (sym e) (each.stores name digest body own)))
  by_ask (asks.Chunk name at range body) = of_session name at (Sends range body) (awake s now at) refl
  by_ask (asks.Status name at) = of_session name at AsksOffset (awake s now at) refl
  by_ask (asks.Close name at range asked body) =
      of_session name at (Closes range asked body) (awake s now at) refl

-- ---- what each outcome says

-- a reply, whose answer says that nothing was done
replied : (s : State) (secret : List ℕ) (now : ℕ) (ask : Ask) (answer : Answer) → (answer_view answer).begun ≡ None
    → (answer_view answer).took ≡ false → (answer_view answer).closed ≡ false → (answer_view answer).pair ≡ None
    → (answer_view answer).no_memory ≡ false → FitsAnswer s now ask answer → IsOutcome s ask secret now (Replies answer)
replied s secret now ask answer begun took closed pair memory fits = search (rules, arith, not_accepted, not_closed)

begins_soundly : (s : State) (ask : Ask) (name secret : List ℕ) (now : ℕ) → AsksToBegin name ask → HasRoom s now
    → IsOutcome s ask secret now (Begins name (reference (s.issued + 1) secret))
begins_soundly s ask name secret now asked has = search (rules, arith)

aim_of_act : (name at : List ℕ) (act : Act) → aim_of (session_ask name at act) ≡ aim_by name at act
aim_of_act name at = search (rules, arith)

sound_each : (s : State) (secret : List ℕ) (now : ℕ)
    → HoldsOfEach s secret now (λ ask o. IsOutcome s ask secret now o)
sound_each s secret now =
    record {
      refusals = λ ask refusal. replied s secret now ask (answers.Refused refusal) refl refl refl refl refl tt;
      base = replied s secret now asks.Base answers.Base refl refl refl refl refl tt;
      blobs =
          λ name digest head blob held is.
          replied s secret now (asks.Has name digest head)
          (answers.Blob digest (length blob) (if head then None else Some blob)) refl refl refl refl refl
          (record {
            name = name;
            head = head;
            blob = blob;
            asked = refl;
            held = held;
            is_stored = is;
            is_size = refl;
            is_bytes = refl;
          });
      openings = λ name has. begins_soundly s (asks.Opening name) name secret now refl has;
      unmounted = λ name digest source has. begins_soundly s (asks.Mount name digest source) name secret now refl has;
      mounts = λ name digest source held. record {
        change = record { begins_none = refl; took_none = refl; accepts_none = refl; closes_none = λ at. refl };
        store = record { source = source; asked = refl; held = held };
        pair_told = refl;
        has_memory = refl;
        answered = tt;
      };
      stores = λ name digest body own. record {
        change = record { begins_none = refl; took_none = refl; accepts_none = refl; closes_none = λ at. refl };
        store = (refl, inr (record { asked = refl; own_digest = own }));
        pair_told = refl;
        has_memory = refl;
        answered = tt;
      };
      standing =
          λ name at found.
          replied s secret now (asks.Status name at) (answers.Standing name at (length found.session.received)) refl
          refl refl refl refl tt;
      misses =
          λ name at act found first aims missed.
          replied s secret now (session_ask name at act)
          (answers.Misplaced name at (length found.session.received)) refl refl refl refl refl
          (record {
            found = found;
            first = first;
            aimed = aim_of_act name at act ∙ aims;
            is_next = refl;
            missed = missed;
          });
      takes = λ name at range body found fits. record {
        change = (
          record {
            found = found;
            range = range;
            body = body;
            asked = refl;
            grown = refl;
            small = simp length-append fits;
          },
          refl,
        );
        store = tt;
        pair_told = refl;
        has_memory = refl;
        answered = tt;
      };
      commits = λ name at range digest body found own. record {
        change =
            record { name = name; found = found; carried = λ to. refl; begins_none = refl; took_none = refl };
        store = (
          refl,
          inl (
            at,
            record {
              found = found;
              range = range;
              body = body;
              asked = refl;
              grown = refl;
              own_digest = own;
            },
          ),
        );
        pair_told = refl;
        has_memory = refl;
        answered = tt;
      };
    }

pub outcome_sound : (s : State) (now : ℕ) (ask : Ask) (secret : List ℕ)
    → IsOutcome s ask secret now (outcome s ask secret now)
outcome_sound s now ask secret =
    by_ask s secret now (λ a o. IsOutcome s a secret now o) (sound_each s secret now) ask

-- the change that a turn makes, if its answer is its outcome's
pub turn_fits : (s : State) (ask : Ask) (secret : List ℕ) (now : ℕ) (answer : Answer)
    → answer ≡ answer_of (outcome s ask secret now)
    → FitsChange s ask secret now answer (effect (outcome s ask secret now)).sessions
turn_fits s ask secret now answer e = search (rules, arith, FitsChange, outcome_sound)
