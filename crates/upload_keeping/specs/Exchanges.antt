-- What is known of a request.
use Rattle.std.specs.Prelude.{◌≡◌, ◌<◌, ◌^◌, ℕ, List, [], ◌∷◌, Option, Some, None, IsTrue, IfSome, length, option_map}
use Rattle.upload_names.specs.NamePass.{is_name}
use Rattle.upload_names.specs.Digest.{IsDigest}
use Rattle.upload_names.specs.ByteRange.{IsSpan}
use Rattle.upload_service.specs.declared.ask.Extent.{Extent}
use Rattle.upload_service.specs.declared.ask.Extent.TheVariants.{Absent, Bad, Given}
use Rattle.upload_service.specs.declared.ask.Ask.{Ask}
use Rattle.upload_service.specs.declared.ask.Ask.TheVariants.{Base, Has, Opening, Single, Mount, Chunk, Status, Close}
use Rattle.upload_service.specs.declared.ask.Ask.TheVariants.{Refused}
use Rattle.upload_journal.specs.declared.body.BodyFile.{BodyFile}
use Rattle.upload_journal.specs.Fields.{IsReference, IsFile}
use Rattle.upload_journal.specs.Short.{IsPlaced, kept_of}
use Rattle.upload_journal.specs.Entries.{asked_text}
use Rattle.upload_keeper.specs.Safety.{Asked}

-- the body of a request, if it has one
abbrev pub body_in : Ask → Option (List ℕ)
body_in Base = None
body_in (Has name digest head) = None
body_in (Opening name) = None
body_in (Single name digest body) = Some body
body_in (Mount name digest source) = None
body_in (Chunk name at range body) = Some body
body_in (Status name at) = None
body_in (Close name at range digest body) = Some body
body_in (Refused refusal) = None

abbrev pub IsExtent : Extent → Type 0
IsExtent Absent = Unit {0}
IsExtent Bad = Unit {0}
IsExtent (Given range) = IsSpan range

-- the names, digests, references and ranges of a request are some
abbrev pub IsSound : Ask → Type 0
IsSound Base = Unit {0}
IsSound (Has name digest head) = Unit {0}
IsSound (Opening name) = IsTrue (is_name name)
IsSound (Single name digest body) = IsTrue (is_name name) × IfSome digest IsDigest
IsSound (Mount name digest source) = IsTrue (is_name name) × IsDigest digest × IsTrue (is_name source)
IsSound (Chunk name at range body) = IsTrue (is_name name) × IsReference at × IsExtent range
IsSound (Status name at) = Unit {0}
IsSound (Close name at range digest body) =
    IsTrue (is_name name) × IsReference at × IsExtent range × IfSome digest IsDigest
IsSound (Refused refusal) = Unit {0}

-- Below, `stands n bytes` says that these bytes stand under the number n.

-- the body of a request is short, or in this one file
abbrev pub ArePlaced : (ℕ → List ℕ → Type 0) → Ask → List BodyFile → Type 0
ArePlaced stands ask [] = IsPlaced ask []
ArePlaced stands ask (file ∷ []) =
    IsFile file × IfSome (body_in ask) (λ bytes. stands file.number bytes × (length bytes ≡ file.len))
ArePlaced stands ask (file ∷ other ∷ files) = ⊥

-- the text is the entry of this request up to its answer, with its whole body there or in a file
pub record IsDrafted (stands : ℕ → List ℕ → Type 0) (request : Asked) (draft : List ℕ) : Type 0 where
  pub files : List BodyFile
  pub placed : ArePlaced stands request.ask files
  pub text : option_map (λ kept. asked_text kept request.secret request.now) (kept_of request.ask files) ≡ Some draft
  pub sound : IsSound request.ask
  pub secret : length request.secret ≡ 12
  pub moment : request.now < 2 ^ 64
