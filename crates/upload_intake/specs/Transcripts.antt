-- What the transcripts of a worker's connections tell.
use Rattle.std.specs.Prelude.{◌≡◌, ℕ, List, [], Some}
use Rattle.std.specs.List.{AllByRecursion}
use Rattle.upload_keeper.specs.Seats.{SeatState}
use Rattle.upload_intake.specs.Pools.Working.{Lending, Means, Talk, connection_given, connection_left, Serves, steps}
use Rattle.upload_wire.specs.Transcripts.{all_read, all_written}

-- connections are given on which nothing was read and nothing was written
abbrev pub GivesUnused : Lending → Type 0
GivesUnused L =
    (old new : L.Conns) (reader : L.In) (writer : L.Out) → L.gives old (Some (reader, writer)) new
    → ((L.reads reader).given ≡ []) × ((L.writes writer).taken ≡ [])

module _ {L : Lending} {S G O : Type 0} (m : Means L S G O) (max_body : ℕ) where
  -- All that the connection's reads gave is what its conversation read, and all that its writes took is what its
  -- conversation wrote.
  pub record TellsAll (t : Talk m max_body) : Type 0 where
    pub read : (L.reads t.reader_left).given
        ≡ all_read (steps m max_body) max_body (connection_given m max_body t) (connection_left m max_body t) t.end
        t.conversation
    pub written : (L.writes t.writer_left).taken
        ≡ all_written (steps m max_body) max_body (connection_given m max_body t) (connection_left m max_body t) t.end
        t.conversation

-- if connections are given so, that is so of each that a worker served
abbrev pub TranscriptsTellConnections : {L : Lending} {S G O : Type 0} → Means L S G O → Type 0
TranscriptsTellConnections {L} {S} m =
    GivesUnused L → (max_body : ℕ) (conns left : L.Conns) (desk new : SeatState × S) (talks : List (Talk m max_body))
    → Serves m max_body conns desk talks left new → AllByRecursion (TellsAll m max_body) talks
