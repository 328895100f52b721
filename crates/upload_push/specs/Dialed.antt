-- What a push hears over connections that it makes as it needs them: what these connections say.
use Rattle.std.specs.Prelude.{◌≡◌, ℕ, ◌⊎◌, false, true, List, [], Option, Some, None, ⊤, if◌then◌else◌}
use Rattle.upload_service.specs.declared.ask.Ask.{Ask}
use Rattle.upload_client.specs.declared.heard.Heard.{Heard}
use Rattle.upload_client.specs.TransportText.{WireState, AsksOverWire, stays_open}

-- A connection to a host over which nothing was asked: nothing was read, nothing was written, and both transcripts are
-- empty. What its server will send, and what its writer holds, are these bytes if they are known.
abbrev pub new_wire : List ℕ → Option (List ℕ) → Option (List ℕ) → WireState
new_wire host remaining contents = record {
  reader = record {
    input = record {
      held = [];
      source = record { given = []; ended = false; remaining = remaining; reads = 0; failed_reads = 0 };
    };
    ended = false;
    keep = true;
  };
  writer = record { taken = []; contents = contents; writes = 0; failed_writes = 0; flushed = true };
  host = host;
  broken = false;
}

-- the connection was made just now
abbrev pub IsNew : List ℕ → WireState → Type 0
IsNew host wire = (remaining contents : Option (List ℕ)) × (wire ≡ new_wire host remaining contents)

-- The connection for one ask: the one that was kept, or else a new one, or none if it can't be made.
abbrev pub Connects : List ℕ → Option WireState → Option WireState → Type 0
Connects host (Some wire) found = found ≡ Some wire
Connects host None (Some wire) = IsNew host wire
Connects host None None = ⊤

-- a connection is kept if more can be asked over it; else there is what was there before
abbrev pub kept_or : Option WireState → WireState → Option WireState
kept_or before wire = if stays_open wire then Some wire else before

-- One ask of a push, from the connection that was kept before it to the one that is kept behind it. Where there is a
-- connection, this was heard over it; if there is none, nothing was heard.
abbrev pub AsksDialed : List ℕ → Option WireState → Ask → Option Heard → Option WireState → Type 0
AsksDialed host before ask heard behind =
    ((wire new : WireState) × Connects host before (Some wire) × AsksOverWire wire ask heard new
    × (behind ≡ kept_or None new))
    ⊎ (Connects host before None × (heard ≡ None) × (behind ≡ None))
