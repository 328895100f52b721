-- The step at which a push that ended Pushed was closed, and what its upload had received by then.
use Rattle.std.proofs.Common.{rules}
use Rattle.std.proofs.Common.{◌≡◌, ℕ, List, [], ◌∷◌, ◌++◌, refl, sym, ap, subst, ◌∙◌, arith, Some, None}
use Rattle.std.specs.FinMap as map
use Rattle.upload_names.specs.Digest.{Digest}
use Rattle.upload_service.specs.Headline.{Headline}
use Rattle.upload_service.specs.Machine.{State}
use Rattle.upload_service.specs.Run as served
use Rattle.upload_service.specs.Run.{NeverBefore, NeverFall, Run}
use Rattle.upload_service.specs.Session.{received}
use Rattle.upload_service.specs.declared.answer.Answer.{Answer}
use Rattle.upload_service.specs.declared.answer.Answer.TheVariants as answers
use Rattle.upload_service.specs.declared.answer.Refusal.{Refusal}
use Rattle.upload_service.specs.declared.answer.Refusal.TheVariants as refusals
use Rattle.upload_service.specs.declared.ask.Ask.{Ask}
use Rattle.upload_service.specs.declared.ask.Ask.TheVariants as asks
use Rattle.upload_service.specs.declared.ask.Extent.TheVariants.{Absent}
use Rattle.http_wire.specs.HeadText.{status_number}
use Rattle.upload_texts.specs.Errors.{refusal_status}
use Rattle.upload_client.specs.Heard.{reply_heard}
use Rattle.upload_client.specs.declared.heard.Heard.{Heard}
use Rattle.upload_keeper.specs.Log.{Step}
use Rattle.upload_push.specs.Promise.{IsStored}
use Rattle.upload_push.specs.Runs.{IsHeardOf}
use Rattle.upload_push.specs.Slices.{Push, Attempt, LastIsAnswered, HeardStatus, IsClose, IsSound}
use Rattle.upload_push.proofs.Requests.{own_close}
use Rattle.upload_push.proofs.Turns.{None≢Some, same_inside}
use Rattle.end_to_end.specs.Marks.{heard, Marked}
use Rattle.end_to_end.proofs.Placing.{IsLast}

-- ---- the step of the close

-- the last of these steps is the close of a push, whose reply said 201
pub record IsClosedBy (p : Push) (front : List Marked) : Type 0 where
  pub earlier : List Marked
  pub step : Step
  pub ask : Ask
  pub what : Heard
  pub split : front ≡ earlier ++ (step, heard ask what) ∷ []
  pub upload : List ℕ
  pub asked : ask ≡ asks.Close p.name upload Absent (Some p.digest) []
  pub is_created : what.status ≡ 201

pub closed_by : (p : Push) (log : List Attempt) (front : List Marked) → IsSound p log → LastIsAnswered IsClose 201 log
    → IsLast log front → IsClosedBy p front
closed_by p [] front sound ends last = absurd ends
closed_by p (e ∷ log) front sound ends last =
    elim e.heard as (λ h. e.heard ≡ h → HeardStatus h 201 → IsClosedBy p front) [
      | None ↦ λ is status. absurd status
      | Some what ↦ λ is status.
          let place = last what is in
          let close = own_close p log e.ask sound.0 ends.0 in
          record {
            earlier = place.earlier;
            step = place.step;
            ask = e.ask;
            what = what;
            split = place.split;
            upload = close.at;
            asked = close.is;
            is_created = status;
          }
    ] refl ends.1

-- ---- its answer

pub status_told : (answer : Answer) (h : Heard) (status : ℕ) → IsHeardOf answer (Some h) → h.status ≡ status
    → (reply_heard answer).status ≡ status
status_told answer h status reaches is = search (rules, arith, None≢Some, same_inside)

-- no refusal is answered 201
no_refusal : (refusal : Refusal) → status_number (refusal_status refusal) ≡ 201 → ⊥
no_refusal refusals.NoForm is = omega (arith, is)
no_refusal other is = omega (arith, is)

-- nothing but a blob that was stored is answered so
stored_is : (answer : Answer) → (reply_heard answer).status ≡ 201
    → (name : List ℕ) × (digest : Digest) × (answer ≡ answers.Stored name digest)
stored_is answer = search (rules, arith, no_refusal)

-- ---- what the upload had received

never_before_front : (moment : ℕ) (xs ys : List served.Exchange) → NeverBefore moment (xs ++ ys) → NeverBefore moment xs
never_before_front moment [] ys never = tt
never_before_front moment (x ∷ xs) ys never = (never.0, never_before_front x.now xs ys never.1)

pub never_fall_front : (xs ys : List served.Exchange) → NeverFall (xs ++ ys) → NeverFall xs
never_fall_front xs ys never = never_before_front 0 xs ys never

-- a close that was answered 201, and whose file stands there then, was of an upload that had received exactly the file
pub record IsWholeUpload (p : Push) (start : State) (front : List served.Exchange) (x : served.Exchange)
    (upload : List ℕ) : Type 0 where
  pub answered : x.answer ≡ answers.Stored p.name p.digest
  pub received_all : received start (front ++ x ∷ []) upload ≡ p.file

pub whole_upload : (p : Push) (start : State) (front : List served.Exchange) (x : served.Exchange)
    (end : State) (upload : List ℕ) (what : Heard) → Headline start (front ++ x ∷ []) end
    → x.ask ≡ asks.Close p.name upload Absent (Some p.digest) [] → IsHeardOf x.answer (Some what) → what.status ≡ 201
    → IsStored p end → IsWholeUpload p start front x upload
whole_upload p start front x end upload what headline asked reaches is_created stored =
    let found = stored_is x.answer (status_told x.answer what 201 reaches is_created) in
    let name = found.0 in
    let digest = found.1 in
    let step = headline.each front x [] refl in
    let after : State = step.1 in
    let orderly = step.5 in
    let end_is : end ≡ after = step.4 in
    let commits = orderly.committed p.name upload Absent (Some p.digest) [] name digest asked found.2 in
    let digest_is : p.digest ≡ digest = same_inside commits.asked_for in
    let all : List ℕ = received start (front ++ x ∷ []) upload in
    let here : map.get after.blobs p.digest ≡ Some all =
    ap (λ (d : Digest). map.get after.blobs d) digest_is ∙ commits.stored in
    let there : map.get after.blobs p.digest ≡ Some p.file =
    subst (λ (s : State). map.get s.blobs p.digest ≡ Some p.file) end_is stored.bytes in
    record {
      answered = found.2 ∙ (λ i. answers.Stored (commits.named i) (sym digest_is i));
      received_all = same_inside (sym here ∙ there);
    }
