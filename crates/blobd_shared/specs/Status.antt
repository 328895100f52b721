-- What is printed, and the exit statuses that go with it.
use Rattle.std.specs.Prelude.{◌≡◌, ℕ, ◌⊎◌, List, [], ◌∷◌, ◌++◌, Option, IfSome}
use Rattle.std.specs.Io.KnownBytes.{Appends}

-- a text and a line feed
abbrev pub line : List ℕ → List ℕ
line text = text ++ 10 ∷ []

-- the line was printed, and the status is the one asked for; or the status is that of a fault
abbrev pub IsPrinted : Option (List ℕ) → Option (List ℕ) → Option (List ℕ) → ℕ → ℕ → Type 0
IsPrinted text before after status result =
    ((result ≡ status) × IfSome text (λ bytes. Appends before after (line bytes))) ⊎ (result ≡ 3)
