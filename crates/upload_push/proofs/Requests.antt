-- A sound request of a push, case by case.
use Rattle.std.proofs.Common.{◌≡◌, ℕ, List, [], length, true, Option, Some, refl, arith, rules}
use Rattle.upload_names.specs.ByteRange.{Span}
use Rattle.upload_names.specs.Digest.{Digest}
use Rattle.upload_service.specs.declared.ask.Ask.{Ask}
use Rattle.upload_service.specs.declared.ask.Ask.TheVariants.{Has, Opening, Chunk, Status, Close}
use Rattle.upload_service.specs.declared.ask.Extent.{Extent}
use Rattle.upload_service.specs.declared.ask.Extent.TheVariants.{Absent, Given}
use Rattle.upload_service.specs.UploadView.{Act, UploadView, upload_view}
use Rattle.upload_service.proofs.Steps.{is_session_ask, session_ask}
use Rattle.upload_push.specs.Runs.{IsActOf, IsRequestOf}
use Rattle.upload_push.specs.Slices.{Push, Attempt, heard_offset, heard_place, IsNextChunk, IsSoundAsk}
use Rattle.upload_push.specs.Slices.{IsClose, IsHead}

-- a close of the push, with what it says spelled out
pub whole_close : (p : Push) (at : List ℕ) (range : Extent) (digest : Option Digest) (body : List ℕ) → range ≡ Absent
    → digest ≡ Some p.digest → body ≡ []
    → Close p.name at range digest body ≡ Close p.name at Absent (Some p.digest) []
whole_close p at range digest body no_range own no_body = λ i. Close p.name at (no_range i) (own i) (no_body i)

-- what holds of each request that is sound after a list
pub record HoldsOfSound (p : Push) (log : List Attempt) (P : Ask → Type 0) : Type 0 where
  pub opening : P (Opening p.name)
  pub chunk : (at : List ℕ) (range : Span) (body : List ℕ) → heard_place p.name log ≡ Some at
      → IsNextChunk p (heard_offset log) range body → P (Chunk p.name at (Given range) body)
  pub status : (at : List ℕ) → heard_place p.name log ≡ Some at → P (Status p.name at)
  pub close : (at : List ℕ) → heard_place p.name log ≡ Some at → heard_offset log ≡ length p.file
      → P (Close p.name at Absent (Some p.digest) [])
  pub head : P (Has p.name p.digest true)

-- it holds of a sound request
pub by_sound : (p : Push) (log : List Attempt) (P : Ask → Type 0) → HoldsOfSound p log P → (ask : Ask)
    → IsSoundAsk p log ask → P ask
by_sound p log P h ask = search (rules, arith, whole_close)

-- a sound close
pub record IsOwnClose (p : Push) (log : List Attempt) (ask : Ask) : Type 0 where
  pub at : List ℕ
  pub is : ask ≡ Close p.name at Absent (Some p.digest) []
  pub place : heard_place p.name log ≡ Some at
  pub all : heard_offset log ≡ length p.file

pub own_close : (p : Push) (log : List Attempt) (ask : Ask) → IsSoundAsk p log ask → IsClose ask
    → IsOwnClose p log ask
own_close p log ask sound (name, at, range, digest, body, is) = search (rules, arith, whole_close)

-- a sound HEAD
pub own_head : (p : Push) (log : List Attempt) (ask : Ask) → IsSoundAsk p log ask → IsHead ask
    → ask ≡ Has p.name p.digest true
own_head p log ask sound is_head = search (rules, arith)

-- a late request of the push, by what it asks of its upload
pub record IsOwnAct (p : Push) (at : List ℕ) (ask : Ask) : Type 0 where
  pub act : Act
  pub is : ask ≡ session_ask p.name at act
  pub own : IsActOf p act

act_of_view : (p : Push) (at : List ℕ) (ask : Ask) (v : UploadView) → upload_view ask ≡ v → IsRequestOf p at v
    → IsOwnAct p at ask
act_of_view p at ask v h = search (rules, arith, is_session_ask)

pub own_act : (p : Push) (at : List ℕ) (ask : Ask) → IsRequestOf p at (upload_view ask) → IsOwnAct p at ask
own_act p at ask is = act_of_view p at ask (upload_view ask) refl is
