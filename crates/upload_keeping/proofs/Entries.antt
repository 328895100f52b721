-- The entry of a request that was drafted.
use Rattle.std.proofs.Common.{◌≡◌, ◌∙◌, ℕ, ◌<◌, ◌^◌, List, [], ◌∷◌, ◌++◌, length, Option, Some, None, refl, sym, ap}
use Rattle.std.proofs.Common.{subst}
use Rattle.std.proofs.Common.{IfSome, IfOk, Result, Ok, option_map, rules}
use Rattle.std.specs.Prelude.{Bool, is_some, if◌then◌else◌}
use Rattle.std.proofs.Common.{append-nil, arith}
use Rattle.upload_names.specs.Digest.{Digest}
use Rattle.upload_service.specs.declared.ask.Extent.{Extent}
use Rattle.upload_service.specs.declared.ask.Ask.{Ask}
use Rattle.upload_service.specs.declared.ask.Ask.TheVariants as asks
use Rattle.upload_journal.specs.declared.body.BodyFile.{BodyFile}
use Rattle.upload_journal.specs.declared.entries.KeptAsk.{KeptAsk}
use Rattle.upload_service.specs.declared.answer.Answer.{Answer}
use Rattle.upload_journal.specs.declared.entries.KeptAnswer.{KeptAnswer}
use Rattle.upload_journal.specs.Entries.{IsKeptAsk, asked_text}
use Rattle.upload_journal.specs.Checksums.{with_checksum}
use Rattle.upload_journal.specs.Fields.{IsFile, IsKeptBody, IsTold, told_text}
use Rattle.upload_journal.specs.Replay.{IsAskOf, IsBodyOf}
use Rattle.upload_journal.specs.Short.{kept_of, kept_body, IsPlaced, HasPlace, told_of}
use Rattle.upload_keeper.specs.Safety.{Asked, answered_so}
use Rattle.upload_service.specs.Run.{Exchange}
use Rattle.upload_keeping.specs.Exchanges.{IsSound, IsDrafted, ArePlaced, body_in}
use Rattle.upload_keeping.specs.Keeping.{Records, Holds}
use Rattle.upload_keeping.proofs.Holding.{one_more}

some_is : {A : Type 0} (x y : A) → Some x ≡ Some y → x ≡ y
some_is x y e = cc

some_map : {A B : Type 0} (f : A → B) (o : Option A) (y : B) → option_map f o ≡ Some y
    → (x : A) × (o ≡ Some x) × (f x ≡ y)
some_map f None y e = absurd cc
some_map f (Some x) y e = (x, refl, some_is (f x) y e)

module _ (stands : ℕ → List ℕ → Type 0) where
  -- a body is short, or in this one file
  abbrev IsPut : List ℕ → List BodyFile → Type 0
  IsPut body [] = HasPlace body []
  IsPut body (file ∷ []) = IsFile file × stands file.number body × (length body ≡ file.len)
  IsPut body (file ∷ other ∷ files) = ⊥

  body_as : (body : List ℕ) (files : List BodyFile) → IsPut body files
      → IsKeptBody (kept_body body files) × IsBodyOf stands (kept_body body files) body
  body_as body files put = search (rules, arith, append-nil)

  is_put : (ask : Ask) (body : List ℕ) (files : List BodyFile) → body_in ask ≡ Some body
      → (IsPlaced ask [] → HasPlace body []) → ArePlaced stands ask files → IsPut body files
  is_put ask body files is short placed = search (rules, arith)

  abbrev IsKeptAs : KeptAsk → Ask → Type 0
  IsKeptAs k ask = IsKeptAsk k × IsAskOf stands k ask

  as_it_is : (ask : Ask) (made k : KeptAsk) → Some made ≡ Some k → IsKeptAs made ask → IsKeptAs k ask
  as_it_is ask made k e is = subst (λ (x : KeptAsk). IsKeptAs x ask) (some_is made k e) is

  single_as : (name : List ℕ) (digest : Option Digest) (body : List ℕ) (files : List BodyFile) (k : KeptAsk)
      → IsSound (asks.Single name digest body) → ArePlaced stands (asks.Single name digest body) files
      → kept_of (asks.Single name digest body) files ≡ Some k → IsKeptAs k (asks.Single name digest body)
  single_as name None body files k sound placed e = absurd cc
  single_as name (Some digest) body files k sound placed e = search (rules, arith, body_as, is_put, as_it_is)

  chunk_as : (name at : List ℕ) (range : Extent) (body : List ℕ) (files : List BodyFile) (k : KeptAsk)
      → IsSound (asks.Chunk name at range body) → ArePlaced stands (asks.Chunk name at range body) files
      → kept_of (asks.Chunk name at range body) files ≡ Some k → IsKeptAs k (asks.Chunk name at range body)
  chunk_as name at range body files k sound placed e = search (rules, arith, body_as, is_put, as_it_is)

  close_as : (name at : List ℕ) (range : Extent) (digest : Option Digest) (body : List ℕ) (files : List BodyFile)
      (k : KeptAsk) → IsSound (asks.Close name at range digest body)
      → ArePlaced stands (asks.Close name at range digest body) files
      → kept_of (asks.Close name at range digest body) files ≡ Some k
      → IsKeptAs k (asks.Close name at range digest body)
  close_as name at range digest body files k sound placed e = search (rules, arith, body_as, is_put, as_it_is)

  -- what is kept of a sound request is its entry
  pub kept_as : (ask : Ask) (files : List BodyFile) (k : KeptAsk) → IsSound ask → ArePlaced stands ask files
      → kept_of ask files ≡ Some k → IsKeptAs k ask
  kept_as asks.Base files k sound placed e = absurd cc
  kept_as (asks.Has name digest head) files k sound placed e = absurd cc
  kept_as (asks.Opening name) files k sound placed e = search (rules, arith, as_it_is)
  kept_as (asks.Single name digest body) files k sound placed e = single_as name digest body files k sound placed e
  kept_as (asks.Mount name digest source) files k sound placed e = search (rules, arith, as_it_is)
  kept_as (asks.Chunk name at range body) files k sound placed e = chunk_as name at range body files k sound placed e
  kept_as (asks.Status name at) files k sound placed e = absurd cc
  kept_as (asks.Close name at range digest body) files k sound placed e = search (rules, arith, close_as)
  kept_as (asks.Refused refusal) files k sound placed e = absurd cc

  -- a body that has a file is placed there
  pub placed_in : (ask : Ask) (body : List ℕ) (file : BodyFile) → Some body ≡ body_in ask → IsFile file
      → stands file.number body → file.len ≡ length body → ArePlaced stands ask (file ∷ [])
  placed_in ask body file is sound there len = search (rules, arith)

  -- a draft that was finished is the entry of the exchange
  pub records_so : (ask : Ask) (secret : List ℕ) (moment : ℕ) (answer : Answer) (files : List BodyFile)
      (draft text : List ℕ) → IsSound ask → IfSome (told_of answer) IsTold → ArePlaced stands ask files
      → option_map (λ k. asked_text k secret moment) (kept_of ask files) ≡ Some draft
      → Some text ≡ option_map (λ told. with_checksum (draft ++ told_text told)) (told_of answer) → length secret ≡ 12
      → moment < 2 ^ 64
      → Records stands text (record { ask = ask; secret = secret; now = moment; answer = answer })
  records_so ask secret moment answer files draft text sound told placed drafted finished len small =
      let k = some_map (λ (k : KeptAsk). asked_text k secret moment) (kept_of ask files) draft drafted in
      let t = some_map (λ (t : KeptAnswer). with_checksum (draft ++ told_text t)) (told_of answer) text (sym finished)
      in
      let is = kept_as ask files k.0 sound placed k.1 in
      record {
        entry = record { ask = k.0; secret = secret; now = moment; answer = t.0 };
        is_entry = record {
          ask = is.0;
          secret = len;
          now = small;
          answer = subst (λ (o : Option KeptAnswer). IfSome o IsTold) t.1 told;
        };
        text_is = sym t.2 ∙ ap (λ (d : List ℕ). with_checksum (d ++ told_text t.0)) (sym k.2);
        is = record { ask = is.1; secret = refl; now = refl; answer = t.1 };
      }

-- a draft that was made is one of the request with these files
pub drafted_so : {E G : Type 0} (stands : ℕ → List ℕ → Type 0) (request : Asked) (files : List BodyFile)
    (result : Result (List ℕ) E) (drawn : Result (Option (List ℕ)) G) → ArePlaced stands request.ask files
    → IsSound request.ask → length request.secret ≡ 12 → request.now < 2 ^ 64
    → IfOk drawn
    (λ d. d ≡ option_map (λ (k : KeptAsk). asked_text k request.secret request.now) (kept_of request.ask files))
    → IfOk result (λ made. drawn ≡ Ok (Some made)) → IfOk result (IsDrafted stands request)
drafted_so stands request files h drawn placed sound secret moment is made = search (rules, arith, option_map)

-- ended, it is the entry of the exchange behind what a batch holds
pub entered : (stands : ℕ → List ℕ → Type 0) (request : Asked) (xs : List Exchange) (old new : List (List ℕ))
    (draft text : List ℕ) (answer : Answer) → IsDrafted stands request draft → IfSome (told_of answer) IsTold
    → Some text ≡ option_map (λ told. with_checksum (draft ++ told_text told)) (told_of answer) → new ≡ old ++ text ∷ []
    → Holds stands [] 0 xs 0 old → Holds stands [] 0 (xs ++ answered_so request answer ∷ []) 0 new
entered stands request xs old new draft text answer d told finished grown holds =
    search (rules, arith, one_more, records_so)

-- what was noted with room for it
pub noted_so : {N A : Type 0} (note : N → A) (request : A) (noted : Option N) (room : Bool) → room ≡ is_some noted
    → IfSome noted (λ it. note it ≡ request) → option_map note noted ≡ (if room then Some request else None)
noted_so note request None room is same = subst (λ b. None ≡ (if b then Some request else None)) (sym is) refl
noted_so note request (Some it) room is same = cc
