-- What a run stored, and the store after it.
use Rattle.std.specs.List.{list_any}
use Rattle.std.specs.Prelude.{◌≡◌, ◌⊎◌, ℕ, ◌||◌, Bool, false, List, [], ◌∷◌, ◌++◌, length, Option, Some, None}
use Rattle.std.specs.Prelude.{if◌then◌else◌}
use Rattle.std.specs.FinMap as map
use Rattle.upload_names.specs.Digest.{Digest}
use Rattle.upload_service.specs.declared.ask.Ask.{Ask}
use Rattle.upload_service.specs.declared.answer.Answer.{Answer}
use Rattle.upload_service.specs.declared.answer.Answer.TheVariants as answers
use Rattle.upload_service.specs.UploadView.{act_view, UploadView, OfSession, Opens, WholeBlob, Unrelated, upload_view}
use Rattle.upload_service.specs.UploadView.{answer_view}
use Rattle.upload_service.specs.Machine.{same_digest, State, holds, pair_cmp}
use Rattle.std.specs.Ordering.{eq_by_cmp}
use Rattle.upload_service.specs.Run.{Exchange}
use Rattle.upload_service.specs.Session.{received}

-- a blob that was stored, and under which name and digest
pub record Stored : Type 0 where
  pub name : List ℕ
  pub digest : Digest
  pub blob : List ℕ

-- what a request that was answered Stored stored, where upto are the exchanges up to it and with it
abbrev pub blob_of : State → List Exchange → List ℕ → Digest → UploadView → List Stored
blob_of start upto name digest (OfSession n at act) =
    if (act_view act).closes then record { name = name; digest = digest; blob = received start upto at } ∷ [] else []
blob_of start upto name digest (Opens n) = []
blob_of start upto name digest (WholeBlob body) = record { name = name; digest = digest; blob = body } ∷ []
blob_of start upto name digest Unrelated = []

-- what a request stored, if it was answered that this repository has this blob
abbrev pub stored_as : State → List Exchange → UploadView → Option (List ℕ × Digest) → List Stored
stored_as start upto view None = []
stored_as start upto view (Some (name, digest)) = blob_of start upto name digest view

abbrev pub stored_by : State → List Exchange → Ask → Answer → List Stored
stored_by start upto ask answer = stored_as start upto (upload_view ask) (answer_view answer).pair

abbrev pub stored_from : State → List Exchange → List Exchange → List Stored
stored_from start front [] = []
stored_from start front (x ∷ xs) =
    stored_by start (front ++ x ∷ []) x.ask x.answer ++ stored_from start (front ++ x ∷ []) xs

-- the blobs that were stored, in order
abbrev pub stored : State → List Exchange → List Stored
stored start xs = stored_from start [] xs

-- the last of them under a digest, and else what was there
abbrev pub last_under : Digest → List Stored → Option (List ℕ) → Option (List ℕ)
last_under digest [] had = had
last_under digest (x ∷ xs) had = last_under digest xs (if same_digest digest x.digest then Some x.blob else had)

-- there is one, and it is this
abbrev pub is_pair : List ℕ × Digest → Option (List ℕ × Digest) → Bool
is_pair pair None = false
is_pair pair (Some got) = eq_by_cmp pair_cmp pair got

-- the repository was told that it has the blob
abbrev pub notes : List ℕ → Digest → Answer → Bool
notes name digest answer = is_pair (name, digest) (answer_view answer).pair

-- the repository has the blob after these exchanges: it had it at the start, or was told so since
abbrev pub is_held : State → List Exchange → List ℕ → Digest → Bool
is_held start xs name digest = holds start name digest || list_any (λ x. notes name digest x.answer) xs

-- What is stored after a run: under each digest the last blob that was stored there, else what was there at the start;
-- and the pairs are those of the start and those that were answered Stored.
pub record IsStoreAfter (start : State) (xs : List Exchange) (end : State) : Type 0 where
  pub blobs : (digest : Digest)
      → map.get end.blobs digest ≡ last_under digest (stored start xs) (map.get start.blobs digest)
  pub pairs : (name : List ℕ) (digest : Digest)
      → holds end name digest ≡ is_held start xs name digest

-- what is handed out of a blob: its own digest, its length, and its bytes, but for a HEAD
pub record IsHandedOut (digest : Digest) (head : Bool) (blob : Option (List ℕ)) (answer : Answer) : Type 0 where
  pub content : List ℕ
  pub is_content : blob ≡ Some content
  pub is_answer : answer ≡ answers.Blob digest (length content) (if head then None else Some content)

-- what is answered of a blob that the repository has: it is handed out, or memory was refused for its bytes
abbrev pub IsGiven : Digest → Bool → Option (List ℕ) → Answer → Type 0
IsGiven digest head blob answer =
    IsHandedOut digest head blob answer ⊎ ((head ≡ false) × (answer ≡ answers.NoMemory))
