-- What the last request of a push leaves in the service.
use Rattle.std.proofs.Common.{◌≡◌, ℕ, true, List, [], ◌++◌, length, Option, Some, None, refl, arith, ap}
use Rattle.std.proofs.Common.{◌∙◌, rules}
use Rattle.std.specs.Prelude.{IsTrue, IsSome}
use Rattle.std.proofs.lemmas.List.{take_all, append-nil}
use Rattle.std.specs.FinMap as map
use Rattle.upload_names.specs.Digest.{Digest}
use Rattle.upload_service.specs.declared.ask.Ask.TheVariants as asks
use Rattle.upload_service.specs.declared.ask.Extent.TheVariants.{Absent}
use Rattle.upload_service.specs.declared.answer.Answer.{Answer}
use Rattle.upload_service.specs.declared.answer.Answer.TheVariants as answers
use Rattle.upload_service.specs.Machine.{Session, State, Outcome, Replies, Commits, state_after}
use Rattle.upload_service.specs.Machine.{blob_reply, holds, Comes, Turn, IsLawful}
use Rattle.upload_client.specs.Heard.{reply_heard}
use Rattle.upload_push.specs.Slices.{Push}
use Rattle.upload_push.specs.Promise.{IsStored, IsThere}
use Rattle.upload_push.proofs.Cases.{cond_case}
use Rattle.upload_service.proofs.Keeping.Tables.{blob-insert_same, contains-insert_same}
use Rattle.upload_push.proofs.Turns.{turn_case}
use Rattle.upload_push.proofs.Uploads.{IsUpload, found_front}

some_is : {A : Type 0} (o : Option A) → IsSome o → (x : A) × (o ≡ Some x)
some_is None e = cc
some_is (Some x) e = (x, refl)

-- if a lawful service has the pair, the bytes have the digest
pub there_by_pair : (p : Push) (s : State) → IsLawful s → IsTrue (holds s p.name p.digest) → IsThere p s
there_by_pair p s lawful pair = search (rules, arith, some_is)

-- a reply of this status, after which this holds of the service
abbrev Shows : (State → Type 0) → ℕ → Answer → State → Type 0
Shows Q status answer new = (reply_heard answer).status ≡ status → Q new

abbrev ShownBy : (State → Type 0) → ℕ → State → ℕ → Outcome → Type 0
ShownBy Q status s now o = (answer : Answer) (new : State) → Comes s now o answer new → Shows Q status answer new

-- an outcome that only replies
shown : (Q : State → Type 0) (status : ℕ) (s : State) (now : ℕ) (a : Answer) → Shows Q status a s
    → Shows Q status answers.NoMemory s → ShownBy Q status s now (Replies a)
shown Q status s now a shows lacks answer new comes = search (rules, arith)

-- an outcome that commits a blob
committed : (Q : State → Type 0) (s : State) (now : ℕ) (name at : List ℕ) (digest : Digest) (blob : List ℕ)
    → Q (state_after s now (Commits name at digest blob)) → ShownBy Q 201 s now (Commits name at digest blob)
committed Q s now name at digest blob there answer new comes = search (rules, arith)

-- a close of the push that is answered 201
close_shows : (p : Push) (s : State) (now : ℕ) (secret at : List ℕ) (answer : Answer) (new : State) (Q : State → Type 0)
    → ((session : Session) → map.get s.sessions at ≡ Some session
    → Q (state_after s now (Commits p.name at p.digest (session.received ++ []))))
    → Turn s (asks.Close p.name at Absent (Some p.digest) []) secret now answer new
    → (reply_heard answer).status ≡ 201 → Q new
close_shows p s now secret at answer new Q commits turn =
    grind (arith, turn_case (Shows Q 201) s, shown Q 201 s now, committed Q s now p.name)

-- whatever others did, the pair is there
pub close_leaves_pair : (p : Push) (s : State) (now : ℕ) (secret at : List ℕ) (answer : Answer) (new : State)
    → Turn s (asks.Close p.name at Absent (Some p.digest) []) secret now answer new → (reply_heard answer).status ≡ 201
    → IsTrue (holds new p.name p.digest)
close_leaves_pair p s now secret at answer new turn is_201 =
    close_shows p s now secret at answer new (λ t. IsTrue (holds t p.name p.digest))
    (λ session is. contains-insert_same s.pairs (p.name, p.digest)) turn is_201

-- if the upload is the push's own, the file is there
pub close_leaves_file : (p : Push) (s : State) (now : ℕ) (secret at : List ℕ) (offset : ℕ) (answer : Answer)
    (new : State) → IsUpload p.file s (Some at) offset → offset ≡ length p.file
    → Turn s (asks.Close p.name at Absent (Some p.digest) []) secret now answer new → (reply_heard answer).status ≡ 201
    → IsStored p new
close_leaves_file p s now secret at offset answer new up all turn is_201 =
    close_shows p s now secret at answer new (IsStored p)
    (λ session is.
    let has = found_front p.file s at offset session up is in
    let reaches = has.reaches in
    let whole : session.received ++ [] ≡ p.file =
    append-nil session.received ∙ has.front ∙ take_all (length session.received) p.file (omega (arith, all, reaches)) in
    record {
      bytes = blob-insert_same s.blobs p.digest (session.received ++ []) ∙ ap (λ (x : List ℕ). Some x) whole;
      pair = contains-insert_same s.pairs (p.name, p.digest);
    })
    turn is_201

blob_shows : (p : Push) (s : State) (now : ℕ) (blob : Option (List ℕ)) → IsTrue (holds s p.name p.digest)
    → ShownBy (λ t. IsTrue (holds t p.name p.digest)) 200 s now (blob_reply p.digest true blob)
blob_shows p s now None pair = shown _ 200 s now _ (λ e. absurd (omega (arith, e))) (λ e. absurd (omega (arith, e)))
blob_shows p s now (Some blob) pair = shown _ 200 s now _ (λ _. pair) (λ e. absurd (omega (arith, e)))

-- a look for the blob that is answered 200
pub head_finds_pair : (p : Push) (s : State) (now : ℕ) (secret : List ℕ) (answer : Answer) (new : State)
    → Turn s (asks.Has p.name p.digest true) secret now answer new → (reply_heard answer).status ≡ 200
    → IsTrue (holds new p.name p.digest)
head_finds_pair p s now secret answer new turn =
    let Q : State → Type 0 = λ t. IsTrue (holds t p.name p.digest) in
    turn_case (Shows Q 200) s (asks.Has p.name p.digest true) secret now answer new
    (cond_case (ShownBy Q 200 s now) (holds s p.name p.digest) _ _
    (λ pair. blob_shows p s now (map.get s.blobs p.digest) pair)
    (λ _. shown Q 200 s now _ (λ e. absurd (omega (arith, e))) (λ e. absurd (omega (arith, e)))))
    turn
