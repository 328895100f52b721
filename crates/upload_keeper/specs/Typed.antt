-- What the types of an exchange say of its values.
use Rattle.std.specs.Prelude.{◌≡◌, ◌<◌, ◌^◌, ℕ, List, length, Option}
use Rattle.std.specs.List.{All, AllByRecursion}
use Rattle.upload_names.specs.Digest.{Digest}
use Rattle.upload_service.specs.declared.answer.Answer.{Answer}
use Rattle.upload_service.specs.declared.answer.Answer.TheVariants.{Blob}
use Rattle.upload_service.specs.Run.{Exchange}

-- a secret has twelve bytes; a moment, and the size of a blob, are below 2^64
pub record AreTyped (secret : List ℕ) (now : ℕ) (answer : Answer) : Type 0 where
  pub twelve : length secret ≡ 12
  pub bytes : All (λ b. b < 256) secret
  pub moment : now < 2 ^ 64
  pub size : (digest : Digest) (size : ℕ) (bytes : Option (List ℕ)) → answer ≡ Blob digest size bytes → size < 2 ^ 64

abbrev pub IsTyped : Exchange → Type 0
IsTyped x = AreTyped x.secret x.now x.answer

abbrev pub AllTyped : List Exchange → Type 0
AllTyped xs = AllByRecursion IsTyped xs
