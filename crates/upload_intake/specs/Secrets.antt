-- The secret that a stream of random words gives next.
use Rattle.std.specs.Prelude.{ℕ, List, ◌++◌}
use Rattle.std.specs.Int.{to_be_bytes, w32, w64}
use Rattle.rand_core.specs.Stream.{Stream, next_u32, next_u64}

-- the big-endian bytes of the next 64 bits, and then of the next 32; and what is left of the stream
abbrev pub secret_of : Stream → List ℕ × Stream
secret_of stream =
    let high = next_u64 stream in
    let low = next_u32 high.1 in
    (to_be_bytes w64 high.0 ++ to_be_bytes w32 low.0, low.1)
