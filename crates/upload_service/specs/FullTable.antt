-- When an opening is refused, and which sessions leave the table, in the words of a full table.
use Rattle.std.specs.Prelude.{◌≡◌, ℕ, ◌+◌, ◌<◌, ◌≤◌, false, true, List, Some}
use Rattle.std.specs.FinMap as map
use Rattle.upload_names.specs.Reference.{reference}
use Rattle.upload_service.specs.declared.answer.Refusal.TheVariants as refusals
use Rattle.upload_service.specs.Machine.{Session, State, Begins, refused, is_idle, unless_idle, swept, last_number}
use Rattle.upload_service.specs.Machine.{opening}

-- as many sessions are open as may be
abbrev pub IsFull : State → Type 0
IsFull s = map.len s.sessions ≡ s.limits.max_open

-- no open session is idle then
abbrev pub NoneIsIdle : State → ℕ → Type 0
NoneIsIdle s now =
    (at : List ℕ) (session : Session) → map.get s.sessions at ≡ Some session
    → is_idle s.limits.max_idle now session ≡ false

-- some open session is idle then
abbrev pub OneIsIdle : State → ℕ → Type 0
OneIsIdle s now =
    (at : List ℕ) × (session : Session) × (map.get s.sessions at ≡ Some session)
    × (is_idle s.limits.max_idle now session ≡ true)

pub record OpeningsMeetTheTable : Type 0 where
  -- an opening is refused if all numbers were given out
  pub used_up : (s : State) (name secret : List ℕ) (now : ℕ)
      → last_number ≤ s.issued → opening s name secret now ≡ refused refusals.TooMany
  -- and if the table is full and none of its sessions is idle
  pub full : (s : State) (name secret : List ℕ) (now : ℕ)
      → IsFull s → NoneIsIdle s now → opening s name secret now ≡ refused refusals.TooMany
  -- else it begins a session: if one of them is idle, and if the table has room
  pub idle : (s : State) (name secret : List ℕ) (now : ℕ)
      → s.issued < last_number → IsFull s → OneIsIdle s now
      → opening s name secret now ≡ Begins name (reference (s.issued + 1) secret)
  pub room : (s : State) (name secret : List ℕ) (now : ℕ)
      → s.issued < last_number → map.len s.sessions < s.limits.max_open
      → opening s name secret now ≡ Begins name (reference (s.issued + 1) secret)
  -- the idle sessions leave a full table, and no other does
  pub leave : (s : State) (now : ℕ) → IsFull s → (at : List ℕ)
      → map.get (swept s now) at ≡ unless_idle s.limits.max_idle now (map.get s.sessions at)
  pub stay : (s : State) (now : ℕ) → map.len s.sessions < s.limits.max_open → swept s now ≡ s.sessions
