-- How long a push waits before it asks again, and before it dials again.
use Rattle.std.specs.Prelude.{ℕ, ◌-◌, ◌*◌, max, min, nat_lt, ◌==◌, Option, Some, None, if◌then◌else◌}
use Rattle.upload_client.specs.declared.heard.Heard.{Heard}

-- twice a pause, from a tenth of a second to two seconds, in milliseconds
abbrev pub longer : ℕ → ℕ
longer pause = max 100 (min 2000 (pause * 2))

-- how long to wait before the next request, if that was `before` this one: longer after nothing or 503, and else not
-- at all
abbrev pub pause_after : Option Heard → ℕ → ℕ
pause_after None before = longer before
pause_after (Some h) before = if h.status == 503 then longer before else 0

-- If nobody listens: how long to wait before the next dial of a request, in milliseconds, once this long has passed
-- since the first. It is as long as has passed, from a tenth of a second to a second, and never beyond the minute; then
-- no other dial follows.
abbrev pub dial_pause : ℕ → Option ℕ
dial_pause passed =
    if nat_lt passed 60000 then Some (min (60000 - passed) (max 100 (min 1000 passed))) else None
