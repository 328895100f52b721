-- What a map's entries stand for, and what an open session does.
use Rattle.std.specs.Prelude.{ℕ, Bool, not, List, map as list_map}
use Rattle.std.specs.declared.cmp.Ordering.{Ordering}
use Rattle.std.specs.FinMap as map
use Rattle.std.specs.FinMap.{FinMap}
use Rattle.upload_service.specs.Machine.{Session, is_idle}
use Rattle.upload_service.specs.declared.sessions.OpenSession.{OpenSession}

-- what each key stands for, by its entry
abbrev pub kept_as : {K V X : Type 0} → (cmp : K → K → Ordering) → (V → X) → List (K × V) → FinMap cmp X
kept_as cmp f entries = map.from_entries (list_map (λ e. (e.0, f e.1)) entries)

abbrev pub session_of : OpenSession → Session
session_of s = record { name = s.name; received = s.received; seen = s.seen }

-- an entry whose session isn't idle
abbrev pub is_kept : ℕ → ℕ → List ℕ × OpenSession → Bool
is_kept max_idle now entry = not (is_idle max_idle now (session_of entry.1))

-- an entry as it is seen: its reference, and what its session is seen as
abbrev pub seen_entry : List ℕ × OpenSession → List ℕ × Session
seen_entry entry = (entry.0, session_of entry.1)
