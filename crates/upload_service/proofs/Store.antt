-- The store after a run.
use Rattle.std.proofs.Common.{◌≡◌, ℕ, List, [], ◌∷◌, ◌++◌, Bool, true, false, Option, Some, None, refl, sym, ◌∙◌, ap}
use Rattle.std.proofs.Common.{subst, inl, inr, arith, rules}
use Rattle.std.specs.Prelude.{◌||◌, IsSome, if◌then◌else◌}
use Rattle.std.proofs.lemmas.Bool.{true≢false}
use Rattle.std.specs.FinMap as map
use Rattle.std.specs.FinSet as set
use Rattle.upload_names.specs.Digest.{Digest}
use Rattle.upload_service.specs.declared.ask.Ask.TheVariants as asks
use Rattle.upload_service.specs.declared.answer.Answer.TheVariants as answers
use Rattle.upload_service.specs.declared.answer.Refusal.TheVariants as refusals
use Rattle.upload_service.specs.Machine.{State, effect, answer_of, blobs_with, pairs_with, holds}
use Rattle.upload_service.specs.Machine.{outcome, state_after, refused, blob_reply, may_lack_memory}
use Rattle.std.specs.List.{list_any}
use Rattle.upload_service.specs.Machine.{Turn, IsLawful}
use Rattle.upload_service.proofs.Claims.{StoreIsWhatWasStored, BlobIsWhatWasStored, HeldIsGiven, OthersAreNoBlob}
use Rattle.upload_service.specs.Run.{Exchange, Run}
use Rattle.upload_service.specs.Session.{received}
use Rattle.upload_service.specs.UploadView.{answer_view}
use Rattle.upload_service.specs.Stored.{Stored, stored, stored_by, stored_from, last_under, is_pair, notes}
use Rattle.upload_service.specs.Stored.{is_held, IsHandedOut, IsGiven}
use Rattle.upload_service.proofs.Lawful.{stays_lawful}
use Rattle.upload_service.proofs.Keeping.Tables.{same_itself, blob-insert, contains-insert}
use Rattle.upload_service.proofs.Steps.{outcome_sound}
use Rattle.upload_service.proofs.Effects.{IsCommit, FitsStore, IsOutcome}
use Rattle.upload_service.proofs.Alone.{numbered_if_lawful}
use Rattle.upload_service.proofs.Chunks.{append_none, gave, gave_own, received-push, open_is_received}

pub run-push : (xs : List Exchange) (s m t : State) (x : Exchange) → Run s xs m → Turn m x.ask x.secret x.now x.answer t
    → Run s (xs ++ x ∷ []) t
unfolding Turn
run-push [] s m t x e turn = (t, subst (λ q. Turn q x.ask x.secret x.now x.answer t) e turn, refl)
run-push (y ∷ ys) s m t x (mid, first, rest) turn = (mid, first, run-push ys mid m t x rest turn)

last_under-append : (d : Digest) (xs ys : List Stored) (had : Option (List ℕ))
    → last_under d (xs ++ ys) had ≡ last_under d ys (last_under d xs had)
last_under-append d [] ys had = refl
last_under-append d (x ∷ xs) ys had = last_under-append d xs ys _

-- the blob of a commit is what its session received
pub commit_blob : (start : State) (front : List Exchange) (before : State) (x : Exchange) (name at : List ℕ)
    (digest : Digest) (blob : List ℕ) → IsLawful start → Run start front before
    → IsCommit before x.now x.ask name at digest blob → (answer_view x.answer).pair ≡ Some (name, digest)
    → blob ≡ received start (front ++ x ∷ []) at
unfolding Turn
commit_blob start front before x name at digest blob lawful run f e =
    grind (arith, same_itself, gave, gave_own, open_is_received, numbered_if_lawful, received-push, append_none)

blobs_after : (start : State) (front : List Exchange) (s : State) (x : Exchange) (blob : Option (Digest × List ℕ))
    (pair : Option (List ℕ × Digest)) → IsLawful start → Run start front s → FitsStore s x.now x.ask blob pair
    → (answer_view x.answer).pair ≡ pair → (d : Digest)
    → map.get (blobs_with s.blobs blob) d
    ≡ last_under d (stored_by start (front ++ x ∷ []) x.ask x.answer) (map.get s.blobs d)
unfolding Turn
blobs_after start front s x None None lawful run f t d = cc
blobs_after start front s x (Some stored) None lawful run f t d = absurd f
blobs_after start front s x None (Some (n, digest)) lawful run f t d = cc
blobs_after start front s x (Some (of, blob)) (Some (n, digest)) lawful run (is, inl (to, f)) t d =
    cc (blob-insert s.blobs of blob d, commit_blob start front s x n to digest blob lawful run f t)
blobs_after start front s x (Some (of, blob)) (Some (n, digest)) lawful run (is, inr f) t d =
    cc (blob-insert s.blobs of blob d)

pairs_after : (s : State) (x : Exchange) (pair : Option (List ℕ × Digest)) → (answer_view x.answer).pair ≡ pair
    → (name : List ℕ) (digest : Digest)
    → set.contains (pairs_with s.pairs pair) (name, digest) ≡ (notes name digest x.answer || holds s name digest)
pairs_after s x None t name digest = sym (ap (λ p. is_pair (name, digest) p || holds s name digest) t)
pairs_after s x (Some pair) t name digest = cc (contains-insert s.pairs pair (name, digest))

-- the answer of a turn tells of the pair
told_pair : (s : State) (x : Exchange) → x.answer ≡ answer_of (outcome s x.ask x.secret x.now)
    → (answer_view x.answer).pair ≡ (effect (outcome s x.ask x.secret x.now)).pair
told_pair s x e = search (rules, arith, outcome_sound)

blobs_turn : (start : State) (front : List Exchange) (s : State) (x : Exchange) (t : State) → IsLawful start
    → Run start front s → Turn s x.ask x.secret x.now x.answer t → (d : Digest)
    → map.get t.blobs d ≡ last_under d (stored_by start (front ++ x ∷ []) x.ask x.answer) (map.get s.blobs d)
unfolding Turn
blobs_turn start front s x t h1 h2 h3 = search (rules, arith, IsOutcome, outcome_sound, blobs_after, told_pair)

pairs_turn : (s : State) (x : Exchange) (t : State) → Turn s x.ask x.secret x.now x.answer t
    → (name : List ℕ) (digest : Digest) → holds t name digest ≡ (notes name digest x.answer || holds s name digest)
unfolding Turn
pairs_turn s x t (inl did) name digest = search (rules, arith, pairs_after, told_pair)
pairs_turn s x t (inr lacked) name digest = cc

blobs_run : (xs : List Exchange) (start : State) (front : List Exchange) (s t : State)
    → IsLawful start → Run start front s → Run s xs t → (d : Digest)
    → map.get t.blobs d ≡ last_under d (stored_from start front xs) (map.get s.blobs d)
unfolding Turn
blobs_run [] start front s t lawful so_far e d = ap (λ q. map.get q.blobs d) e
blobs_run (x ∷ xs) start front s t lawful so_far (mid, turn, rest) d =
    search (
      rules,
      arith,
      run-push,
      blobs_turn,
      last_under-append,
      blobs_run xs start (front ++ x ∷ []) mid t lawful (run-push front start s mid x so_far turn) rest d,
    )

or_swap : (a b c : Bool) → ((a || b) || c) ≡ (b || (a || c))
or_swap a b c = search (rules, arith)

or_none : (a : Bool) → a ≡ (a || false)
or_none true = refl
or_none false = refl

pairs_run : (xs : List Exchange) (s t : State) → Run s xs t → (name : List ℕ) (digest : Digest)
    → holds t name digest ≡ (holds s name digest || list_any (λ x. notes name digest x.answer) xs)
unfolding Turn
pairs_run [] s t e name digest = ap (λ q. holds q name digest) e ∙ or_none _
pairs_run (x ∷ xs) s t (mid, turn, rest) name digest =
    cc (
      pairs_turn s x mid turn name digest,
      or_swap (notes name digest x.answer) (holds s name digest) _,
      pairs_run xs mid t rest name digest,
    )

pub store_is_what_was_stored : StoreIsWhatWasStored
unfolding Turn
store_is_what_was_stored start xs end lawful run = search (rules, arith, blobs_run, pairs_run)

-- a turn of a request for a blob that the repository has, and of another one
given_turn : (s : State) (x : Exchange) (t : State) (digest : Digest) (head : Bool) (blob : List ℕ)
    → Turn s x.ask x.secret x.now x.answer t → outcome s x.ask x.secret x.now ≡ blob_reply digest head (Some blob)
    → IsGiven digest head (Some blob) x.answer × (t ≡ s)
unfolding Turn
given_turn s x t digest head blob (inl did) e = search (rules, arith)
given_turn s x t digest head blob (inr lacked) e = search (rules, arith, true≢false)

refused_turn : (s : State) (x : Exchange) (t : State) → Turn s x.ask x.secret x.now x.answer t
    → outcome s x.ask x.secret x.now ≡ refused refusals.NoBlob
    → (x.answer ≡ answers.Refused refusals.NoBlob) × (t ≡ s)
unfolding Turn
refused_turn s x t (inl did) e = (did.0 ∙ ap answer_of e, did.1 ∙ ap (state_after s x.now) e)
refused_turn s x t (inr lacked) e = absurd (true≢false (sym lacked.0 ∙ ap may_lack_memory e))

-- what a request for a blob comes to
has_outcome : (s : State) (x : Exchange) (name : List ℕ) (digest : Digest) (head held : Bool)
    → x.ask ≡ asks.Has name digest head → holds s name digest ≡ held → outcome s x.ask x.secret x.now
    ≡ (if held then blob_reply digest head (map.get s.blobs digest) else refused refusals.NoBlob)
has_outcome s x name digest head held a h = cc

pub held_is_given : HeldIsGiven
held_is_given start front before x after m name digest head a held =
    let holds_it : holds before name digest ≡ true = pairs_run front start before m.so_far name digest ∙ held in
    let there = (stays_lawful start front before m.lawful m.so_far).stored name digest holds_it in
    by_blob (map.get before.blobs digest) refl holds_it there
  where
    by_blob : (b : Option (List ℕ)) → map.get before.blobs digest ≡ b → holds before name digest ≡ true → IsSome b
        → IsGiven digest head (last_under digest (stored start front) (map.get start.blobs digest)) x.answer
        × (after ≡ before)
    by_blob (Some blob) is h there =
        subst (λ b. IsGiven digest head b x.answer × (after ≡ before))
        (sym is ∙ blobs_run front start [] start before m.lawful refl m.so_far digest)
        (given_turn before x after digest head blob m.turn
        (has_outcome before x name digest head true a h ∙ ap (blob_reply digest head) is))
    by_blob None is h there = absurd (true≢false (sym there))

pub others_are_no_blob : OthersAreNoBlob
others_are_no_blob start front before x after m name digest head a not_held =
    search (rules, arith, refused_turn, has_outcome, pairs_run)

pub blob_is_what_was_stored : BlobIsWhatWasStored
blob_is_what_was_stored start front before x after m name digest head of size bytes a r =
    by_held (is_held start front name digest) refl
  where
    by_held : (b : Bool) → is_held start front name digest ≡ b
        → IsHandedOut digest head (last_under digest (stored start front) (map.get start.blobs digest)) x.answer
    by_held true held = elim (held_is_given start front before x after m name digest head a held).0 [
      | inl given ↦ given
      | inr lacked ↦ let bad : answers.NoMemory ≡ answers.Blob of size bytes = sym lacked.1 ∙ r in cc
    ]
    by_held false not_held =
        let told = (others_are_no_blob start front before x after m name digest head a not_held).0 in
        let bad : answers.Refused refusals.NoBlob ≡ answers.Blob of size bytes = sym told ∙ r in cc
