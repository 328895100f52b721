-- The upload of a push in the service: it is open with the first bytes of the file, or it is gone.
use Rattle.std.proofs.lemmas.Grind.{common_steps}
use Rattle.std.proofs.Common.{◌≡◌, ℕ, ◌+◌, ◌≤◌, ◌⊎◌, inl, inr, Bool, false, List, [], ◌++◌, length, take}
use Rattle.std.proofs.Common.{Option, Some, None, refl, arith, subst, sym, length-append, rules}
use Rattle.std.proofs.lemmas.List.{length-take-le}
use Rattle.std.proofs.Math.Seq.{take-add}
use Rattle.std.proofs.lemmas.Bool.{eqb-true, eqb-false}
use Rattle.std.specs.FinMap as map
use Rattle.upload_names.specs.Digest.{Digest, content_digest}
use Rattle.upload_names.specs.ByteRange.{Span}
use Rattle.upload_names.specs.Reference.{reference, reference_text}
use Rattle.upload_service.specs.declared.ask.Ask.{Ask}
use Rattle.upload_service.specs.declared.ask.Ask.TheVariants as asks
use Rattle.upload_service.specs.declared.ask.Extent.TheVariants.{Absent, Given}
use Rattle.upload_service.specs.declared.answer.Answer.{Answer}
use Rattle.upload_service.specs.declared.answer.Answer.TheVariants as answers
use Rattle.upload_service.specs.declared.answer.Refusal.TheVariants as refusals
use Rattle.upload_service.specs.UploadView.{Sends, AsksOffset, Closes}
use Rattle.upload_service.specs.Machine.{same_digest, Session, State, Outcome, Replies, Begins, Takes, Commits}
use Rattle.upload_service.specs.Machine.{state_after, refused, unless_fault, checked, blob_reply, holds, swept, Comes}
use Rattle.upload_service.specs.Machine.{Turn, IsLawful}
use Rattle.upload_service.specs.Session.{carries}
use Rattle.upload_service.specs.Headline.{OthersLeaveIt}
use Rattle.upload_texts.specs.Paths.{upload_path}
use Rattle.upload_client.specs.Heard.{place_in, last_below, reply_heard}
use Rattle.upload_push.specs.Steps.{count_to}
use Rattle.upload_push.specs.Runs.{IsPart}
use Rattle.upload_push.specs.Slices.{Push, IsNextChunk, place_after, offset_after}
use Rattle.upload_push.specs.World.{IsSecret}
use Rattle.upload_push.specs.Promise.{Avoids}
use Rattle.upload_service.proofs.Turns.{IsGone}
use Rattle.upload_service.proofs.Chunks.{gone_turn}
use Rattle.upload_push.proofs.Cases.{cond_case}
use Rattle.upload_service.proofs.Keeping.Tables.{get-insert_same, get-remove_same}
use Rattle.upload_push.proofs.References.{IsReference, reference_is}
use Rattle.upload_push.proofs.Turns.{None≢Some, same_inside, size_case, body_case, session_case, turn_case, issued_turn}
use Rattle.upload_push.proofs.Turns.{opening_case}

-- an open session of a push, up to an offset at least
pub record IsFront (file : List ℕ) (offset : ℕ) (at : List ℕ) (session : Session) : Type 0 where
  pub reference : IsReference at
  pub front : session.received ≡ take (length session.received) file
  pub reaches : offset ≤ length session.received

pub record IsOpen (file : List ℕ) (s : State) (at : List ℕ) (offset : ℕ) : Type 0 where
  pub session : Session
  pub is : map.get s.sessions at ≡ Some session
  pub has : IsFront file offset at session

abbrev pub IsUpload : List ℕ → State → Option (List ℕ) → ℕ → Type 0
IsUpload file s None offset = Unit {0}
IsUpload file s (Some at) offset = IsOpen file s at offset ⊎ IsGone s at

-- a request that doesn't carry the reference leaves the upload
pub others_keep : OthersLeaveIt → (file : List ℕ) (s : State) (ask : Ask) (secret : List ℕ) (now : ℕ) (answer : Answer)
    (new : State) (at : List ℕ) (offset : ℕ) → IsLawful s → Turn s ask secret now answer new → carries at ask ≡ false
    → IsUpload file s (Some at) offset → IsUpload file new (Some at) offset
others_keep others file s ask secret now answer new at offset lawful turn avoids up =
    elim up [
      | inl o ↦ elim (others s ask secret now answer new lawful turn at o.session o.is avoids) [
        | inl same ↦ inl (record { session = o.session; is = same; has = o.has })
        | inr left ↦
            let number = (lawful.numbered at o.session o.is).1 in
            let more = issued_turn s ask secret now answer new turn in
            inr (left.1, omega (arith, number, more))
      ]
      | inr gone ↦
          inr (gone_turn s (record { ask = ask; secret = secret; now = now; answer = answer }) new at turn gone)
    ]

-- the same of any upload that was heard, or of none
pub keep_place : OthersLeaveIt → (file : List ℕ) (s : State) (ask : Ask) (secret : List ℕ) (now : ℕ) (answer : Answer)
    (new : State) (place : Option (List ℕ)) (offset : ℕ) → IsLawful s → Turn s ask secret now answer new
    → Avoids place ask → IsUpload file s place offset → IsUpload file new place offset
keep_place h1 file s ask secret now answer new place offset h2 h3 h4 h5 = search (rules, arith, others_keep)

pub avoids_opening : (name : List ℕ) (place : Option (List ℕ)) → Avoids place (asks.Opening name)
avoids_opening name None = tt
avoids_opening name (Some at) = refl

-- the session that is found is the push's
pub found_front : (file : List ℕ) (s : State) (at : List ℕ) (offset : ℕ) (session : Session)
    → IsUpload file s (Some at) offset → map.get s.sessions at ≡ Some session → IsFront file offset at session
found_front file s at offset session up is = search (rules, arith, same_inside, None≢Some)

-- the upload after a request of the push, unheard and heard
abbrev pub IsKept : Push → Ask → Option (List ℕ) → ℕ → Answer → State → Type 0
IsKept p ask place offset answer new =
    IsUpload p.file new place offset
    × IsUpload p.file new (place_after p.name (Some (reply_heard answer)) place)
    (offset_after ask (Some (reply_heard answer)) offset)

abbrev pub KeptBy : Push → State → ℕ → Ask → Option (List ℕ) → ℕ → Outcome → Type 0
KeptBy p s now ask place offset o =
    (answer : Answer) (new : State) → Comes s now o answer new → IsKept p ask place offset answer new

-- an outcome that only replies
pub replied : (p : Push) (s : State) (now : ℕ) (ask : Ask) (place : Option (List ℕ)) (offset : ℕ) (a : Answer)
    → IsKept p ask place offset a s → IsKept p ask place offset answers.NoMemory s
    → KeptBy p s now ask place offset (Replies a)
replied p s now ask place offset a kept lacks answer new comes = search (rules, arith)

-- an outcome that changes the service
pub changed : (p : Push) (s : State) (now : ℕ) (ask : Ask) (place : Option (List ℕ)) (offset : ℕ) (a : Answer)
    (t : State) (o : Outcome) → ((answer : Answer) (new : State) → Comes s now o answer new
    → ((answer ≡ a) × (new ≡ t)) ⊎ ((answer ≡ answers.NoMemory) × (new ≡ s))) → IsKept p ask place offset a t
    → IsKept p ask place offset answers.NoMemory s → KeptBy p s now ask place offset o
changed p s now ask place offset a t o parts kept lacks answer new comes =
    let K : Answer → State → Type 0 = IsKept p ask place offset in
    elim (parts answer new comes) [
      | inl c ↦ subst (λ x. K x new) (sym c.0) (subst (K a) (sym c.1) kept)
      | inr c ↦ subst (λ x. K x new) (sym c.0) (subst (K answers.NoMemory) (sym c.1) lacks)
    ]

pub count_last : (next : ℕ) → count_to (last_below next) ≡ next
count_last next = search (rules, arith, cond_case, eqb-true, eqb-false)

-- the first bytes of the file, with the chunk after them
pub longer_front : (p : Push) (bytes body : List ℕ) (range : Span) → IsPart p range body
    → range.first ≡ length bytes → bytes ≡ take (length bytes) p.file
    → bytes ++ body ≡ take (length (bytes ++ body)) p.file
longer_front p bytes body range next at front = grind (arith, common_steps, take-add, length-take-le)

-- an upload at the offset that its session stands at
pub at_offset : (p : Push) (s : State) (at : List ℕ) (session : Session) (offset : ℕ)
    → map.get s.sessions at ≡ Some session → IsFront p.file offset at session
    → IsUpload p.file s (Some at) (count_to (last_below (length session.received)))
at_offset p s at session offset is has = search (rules, arith, count_last)

-- what is written as an upload's place is read as its reference
abbrev pub PlacesReadBack : Type 0
PlacesReadBack = (name at : List ℕ) → IsReference at → place_in (upload_path name (reference_text at)) name ≡ Some at

pub part_of_next : (p : Push) (offset : ℕ) (range : Span) (body : List ℕ) → IsNextChunk p offset range body
    → IsPart p range body
part_of_next p offset range body next = record { some = next.some; within = next.within; bytes = next.bytes }

-- the push's chunk, at whatever offset
pub chunk_keeps : PlacesReadBack → (p : Push) (s : State) (now : ℕ) (secret at : List ℕ) (offset : ℕ) (range : Span)
    (body : List ℕ) (answer : Answer) (new : State) → IsPart p range body → IsUpload p.file s (Some at) offset
    → Turn s (asks.Chunk p.name at (Given range) body) secret now answer new
    → IsKept p (asks.Chunk p.name at (Given range) body) (Some at) offset answer new
chunk_keeps reads p s now secret at offset range body answer new next up turn =
    let ask : Ask = asks.Chunk p.name at (Given range) body in
    let P : Outcome → Type 0 = KeptBy p s now ask (Some at) offset in
    turn_case (IsKept p ask (Some at) offset) s ask secret now answer new
    (session_case P s now p.name at (Sends (Given range) body)
    (replied p s now ask (Some at) offset _ (up, up) (up, up))
    (λ session is.
    let has = found_front p.file s at offset session up is in
    let taken : List ℕ = session.received ++ body in
    let P' : Option Answer → Type 0 = λ f. P (unless_fault f (Takes p.name at taken)) in
    body_case P' s.limits.max_blob p.name at (length session.received) range body
    (replied p s now ask (Some at) offset _ (up, at_offset p s at session offset is has) (up, up))
    (replied p s now ask (Some at) offset _ (up, up) (up, up))
    (replied p s now ask (Some at) offset _ (up, up) (up, up))
    (λ at_next.
    let after : Session = record { name = p.name; received = taken; seen = now } in
    let t : State = state_after s now (Takes p.name at taken) in
    let long = length-append session.received body in
    let reaches = has.reaches in
    let front = longer_front p session.received body range next at_next has.front in
    let there : map.get t.sessions at ≡ Some after = get-insert_same s.sessions at after in
    let grown : IsFront p.file offset at after =
    record { reference = has.reference; front = front; reaches = omega (arith, long, reaches) } in
    changed p s now ask (Some at) offset (answers.Taken p.name at (length taken)) t (Takes p.name at taken)
    (λ a n comes. elim comes [ inl c ↦ inl c | inr c ↦ inr (c.1, c.2) ]) (
      inl (record { session = after; is = there; has = grown }),
      subst (λ (place : Option (List ℕ)). IsUpload p.file t place (count_to (last_below (length taken))))
          (sym (reads p.name at has.reference))
          (at_offset p t at after offset there grown),
    )
    (up, up))))
    turn

-- the push's status
pub status_keeps : (p : Push) (s : State) (now : ℕ) (secret at : List ℕ) (offset : ℕ) (answer : Answer) (new : State)
    → IsUpload p.file s (Some at) offset → Turn s (asks.Status p.name at) secret now answer new
    → IsKept p (asks.Status p.name at) (Some at) offset answer new
status_keeps p s now secret at offset answer new up turn =
    let ask : Ask = asks.Status p.name at in
    turn_case (IsKept p ask (Some at) offset) s ask secret now answer new
    (session_case (KeptBy p s now ask (Some at) offset) s now p.name at AsksOffset
    (replied p s now ask (Some at) offset _ (up, up) (up, up))
    (λ session is.
    replied p s now ask (Some at) offset _ (
      up,
      at_offset p s at session offset is (found_front p.file s at offset session up is),
    ) (up, up)))
    turn

-- the push's close
pub close_keeps : (p : Push) (s : State) (now : ℕ) (secret at : List ℕ) (offset : ℕ) (answer : Answer) (new : State)
    → IsLawful s → IsUpload p.file s (Some at) offset
    → Turn s (asks.Close p.name at Absent (Some p.digest) []) secret now answer new
    → IsKept p (asks.Close p.name at Absent (Some p.digest) []) (Some at) offset answer new
close_keeps p s now secret at offset answer new lawful up turn =
    let ask : Ask = asks.Close p.name at Absent (Some p.digest) [] in
    let P : Outcome → Type 0 = KeptBy p s now ask (Some at) offset in
    turn_case (IsKept p ask (Some at) offset) s ask secret now answer new
    (session_case P s now p.name at (Closes Absent (Some p.digest) [])
    (replied p s now ask (Some at) offset _ (up, up) (up, up))
    (λ session is.
    let blob : List ℕ = session.received ++ [] in
    let number = (lawful.numbered at session is).1 in
    let done : Outcome = checked (Some p.digest) blob (λ d. Commits p.name at d blob) in
    let P' : Option Answer → Type 0 = λ f. P (unless_fault f done) in
    size_case P' s.limits.max_blob (length session.received) []
    (replied p s now ask (Some at) offset _ (up, up) (up, up))
    (cond_case P (same_digest (content_digest p.digest.algorithm blob) p.digest) _ _
    (λ _.
    let t : State = state_after s now (Commits p.name at p.digest blob) in
    let gone : IsUpload p.file t (Some at) offset = inr (get-remove_same s.sessions at, number) in
    changed p s now ask (Some at) offset (answers.Stored p.name p.digest) t (Commits p.name at p.digest blob)
    (λ a n comes. elim comes [ inl c ↦ inl c | inr c ↦ inr (c.1, c.2) ])
    (gone, gone) (up, up))
    (λ _. replied p s now ask (Some at) offset _ (up, up) (up, up)))))
    turn

-- the push's opening, which leaves the upload before it
pub opening_keeps : PlacesReadBack → OthersLeaveIt → (p : Push) (s : State) (now : ℕ) (secret : List ℕ)
    (place : Option (List ℕ)) (offset : ℕ) (answer : Answer) (new : State) → IsSecret secret → IsLawful s
    → IsUpload p.file s place offset → Turn s (asks.Opening p.name) secret now answer new
    → IsKept p (asks.Opening p.name) place offset answer new
opening_keeps reads others p s now secret place offset answer new is_secret lawful up turn =
    let ask : Ask = asks.Opening p.name in
    let kept : IsUpload p.file new place offset =
    keep_place others p.file s ask secret now answer new place offset lawful turn (avoids_opening p.name place) up in
    let Q : Answer → State → Type 0 = λ a t. IsUpload p.file t place offset → IsKept p ask place offset a t in
    turn_case Q s ask secret now answer new
    (opening_case (λ o. (a : Answer) (t : State) → Comes s now o a t → Q a t) s p.name secret now
    (λ a t comes.
    elim comes [
      | inl c ↦ subst (λ (x : Answer). Q x t) (sym c.0) (λ there. (there, there))
      | inr c ↦ subst (λ (x : Answer). Q x t) (sym c.1) (λ there. (there, there))
    ])
    (λ room a t comes.
    let at : List ℕ = reference (s.issued + 1) secret in
    let begun : Session = record { name = p.name; received = []; seen = now } in
    let after : State = state_after s now (Begins p.name at) in
    let there : IsUpload p.file after (Some at) 0 =
    inl (record {
      session = begun;
      is = get-insert_same (swept s now) at begun;
      has = record { reference = reference_is (s.issued + 1) secret is_secret; front = refl; reaches = omega arith };
    }) in
    elim comes [
      | inl c ↦ subst (λ (x : Answer). Q x t) (sym c.0) (λ had. (
        had,
        subst (λ (x : State). IsUpload p.file x (place_in (upload_path p.name (reference_text at)) p.name) 0) (sym c.1)
            (subst (λ (found : Option (List ℕ)). IsUpload p.file after found 0)
            (sym (reads p.name at (reference_is (s.issued + 1) secret is_secret))) there),
      ))
      | inr c ↦ subst (λ (x : Answer). Q x t) (sym c.1) (λ had. (had, had))
    ]))
    turn kept

has_case : (P : Outcome → Type 0) (digest : Digest) (head : Bool) (blob : Option (List ℕ)) → P (refused refusals.NoBlob)
    → ((size : ℕ) (bytes : Option (List ℕ)) → P (Replies (answers.Blob digest size bytes)))
    → P (blob_reply digest head blob)
has_case P digest head None none some = none
has_case P digest head (Some blob) none some = some _ _

-- the push's look for its blob, which leaves the upload
pub has_keeps : (p : Push) (s : State) (now : ℕ) (secret : List ℕ) (place : Option (List ℕ)) (offset : ℕ)
    (digest : Digest) (head : Bool) (answer : Answer) (new : State) → IsUpload p.file s place offset
    → Turn s (asks.Has p.name digest head) secret now answer new
    → IsKept p (asks.Has p.name digest head) place offset answer new
has_keeps p s now secret place offset digest head answer new up turn =
    let ask : Ask = asks.Has p.name digest head in
    let P : Outcome → Type 0 = KeptBy p s now ask place offset in
    turn_case (IsKept p ask place offset) s ask secret now answer new
    (cond_case P (holds s p.name digest) _ _
    (λ _. has_case P digest head (map.get s.blobs digest)
    (replied p s now ask place offset _ (up, up) (up, up))
    (λ size bytes. replied p s now ask place offset _ (up, up) (up, up)))
    (λ _. replied p s now ask place offset _ (up, up) (up, up)))
    turn
