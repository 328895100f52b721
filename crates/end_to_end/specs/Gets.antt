-- A GET of what a push left in a pool.
use Rattle.std.specs.Prelude.{◌≡◌, ◌⊎◌, ℕ, List, ◌∷◌, ◌++◌, length, false, Some}
use Rattle.upload_names.specs.Digest.{HasDigest}
use Rattle.upload_service.specs.Machine.{IsLawful, State}
use Rattle.upload_service.specs.Stored.{last_under, stored}
use Rattle.upload_service.specs.declared.answer.Answer.{Answer}
use Rattle.upload_service.specs.declared.answer.Answer.TheVariants.{Blob, NoMemory}
use Rattle.upload_service.specs.declared.ask.Ask.TheVariants.{Has}
use Rattle.upload_wire.specs.ReplyText.{reply_body}
use Rattle.upload_keeper.specs.Log.{Step, exchanges_of}
use Rattle.upload_intake.specs.Pools.ServedPool.{Given, Left, IsServedPool}
use Rattle.upload_intake.specs.Pools.Working.{Lending, Means, Lent}
use Rattle.upload_push.specs.Slices.{Push}
use Rattle.end_to_end.specs.Network.{IsLeftThere}

-- The answer hands out what stood under the digest of a push: the file, or what was stored there last since its close,
-- which has the same digest. The body of the reply is that.
pub record HandsBack (p : Push) (closed : State) (between : List Step) (answer : Answer) : Type 0 where
  pub content : List ℕ
  pub is_last : last_under p.digest (stored closed (exchanges_of between)) (Some p.file) ≡ Some content
  pub own_digest : HasDigest content p.digest
  pub is_answer : answer ≡ Blob p.digest (length content) (Some content)
  pub is_body : reply_body answer false ≡ content

-- FROM END TO END, of a GET: after the step at which a push was closed, each GET of its blob, of any client on any
-- connection, is answered so, or that memory was out.
abbrev pub FilesAreHandedBack : {L : Lending} {S G O M : Type 0} → Means L S G O → (M → ℕ → M → Type 0) → Type 0
FilesAreHandedBack {L} {S} {G} {O} {M} m tells =
    (given : Given M (Lent L S G O)) (left : Left M (Lent L S G O)) (pool : IsServedPool m tells given left) (p : Push)
    → IsLawful given.service → (push : IsLeftThere p given.service pool.steps left.service)
    → (between later : List Step) (get : Step) → push.after ≡ between ++ get ∷ later
    → get.exchange.ask ≡ Has p.name p.digest false
    → (get.exchange.answer ≡ NoMemory) ⊎ HandsBack p push.at between get.exchange.answer
