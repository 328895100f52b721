-- How slow a client may be.
use Rattle.std.specs.Prelude.{ℕ, ◌+◌, ◌-◌, ◌^◌, min, not, ◌&&◌, nat_lt, Bool, true, Option, Some, None, if◌then◌else◌}
use Rattle.blobd_serve.specs.declared.paced.Demand.{Demand}
use Rattle.blobd_serve.specs.declared.paced.Pace.{Pace}

-- a count stays here once it is reached
abbrev pub most : ℕ
most = 2 ^ 64 - 1

-- a window of time begins, or the wait for the first byte of a request
abbrev pub window_of : Bool → Pace
window_of has_begun = record { waited = 0; moved = 0; has_begun = has_begun }

-- this much more was waited for the client, and so many more bytes moved
abbrev pub farther : Pace → ℕ → ℕ → Pace
farther pace waited moved =
    record {
      waited = min (pace.waited + waited) most;
      moved = min (pace.moved + moved) most;
      has_begun = pace.has_begun;
    }

-- The pace after a read or a write for which the client was waited for so long, and which moved so many bytes. With
-- the first bytes of a request a window begins. A client that moved too little until a window is over is too slow;
-- after one in which it moved enough another begins.
abbrev pub pace_after : Demand → Pace → ℕ → ℕ → Option Pace
pace_after demand pace waited moved =
    if not pace.has_begun && nat_lt 0 moved then Some (record { waited = 0; moved = moved; has_begun = true })
    else if nat_lt (farther pace waited moved).waited demand.window then Some (farther pace waited moved)
    else if nat_lt (farther pace waited moved).moved demand.least then None
    else Some (window_of pace.has_begun)
