-- The requests of a push may be asked.
use Rattle.std.proofs.Common.{ℕ, ◌<◌, ◌≤◌, List, length, arith, rules}
use Rattle.std.proofs.Common.{length-take}
use Rattle.std.specs.Prelude.{◌^◌}
use Rattle.std.specs.List.{AllByRecursion}
use Rattle.upload_names.specs.ByteRange.{Span}
use Rattle.upload_service.specs.Machine.{AreLawful}
use Rattle.upload_service.specs.declared.limits.Limits.{Limits}
use Rattle.upload_service.specs.declared.ask.Ask.{Ask}
use Rattle.upload_push.specs.Slices.{Attempt, IsLawfulPush, IsNextChunk, IsSoundAsk, Push}
use Rattle.upload_push.proofs.Requests.{by_sound}
use Rattle.upload_wire.proofs.Lists.{all_weaker}
use Rattle.wire_laws.specs.Joined.{TransportCall}
use Rattle.wire_laws.specs.WrittenExchanges.{IsShortHost, IsWritable, MayBeAsked}
use Rattle.wire_laws.proofs.WrittenLengths.{may_be_asked}
use Rattle.end_to_end.specs.Network.{IsFor}
use Rattle.end_to_end.proofs.References.{place_heard}

-- a chunk is no longer than a chunk of the push
chunk_fits : (p : Push) (offset : ℕ) (range : Span) (body : List ℕ) → IsNextChunk p offset range body
    → length body ≤ p.chunk
chunk_fits p offset range body next = search (rules, arith, length-take)

pub sound_writable : (max : ℕ) (p : Push) → IsLawfulPush p → IsFor max p → (log : List Attempt) (ask : Ask)
    → IsSoundAsk p log ask → IsWritable max ask
sound_writable max p lawful is log ask sound = search (rules, arith, by_sound, place_heard, chunk_fits)

-- as the limits of a lawful service have it, a body is shorter than 2^64
pub body_small : (limits : Limits) → AreLawful limits → limits.max_body < 2 ^ 64
body_small limits lawful = omega (arith, lawful.most_body)

pub all_may_be_asked : (max : ℕ) → max < 2 ^ 64 → (host : List ℕ) → IsShortHost host → (xs : List TransportCall)
    → AllByRecursion (λ x. IsWritable max x.ask) xs → AllByRecursion (λ x. MayBeAsked max x.ask host) xs
all_may_be_asked max small host short xs all = search (rules, arith, all_weaker, may_be_asked)
