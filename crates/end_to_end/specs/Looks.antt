-- A client that looked for a blob, over a connection to a worker of a pool.
use Rattle.std.specs.Prelude.{◌≡◌, ◌<◌, ℕ, List, ◌∷◌, ◌++◌, length, true, Some}
use Rattle.std.specs.List.{AllByRecursion}
use Rattle.upload_names.specs.Digest.{Digest}
use Rattle.upload_service.specs.Machine.{AreLawful, IsLawful}
use Rattle.upload_service.specs.declared.ask.Ask.TheVariants.{Has}
use Rattle.upload_client.specs.declared.heard.Heard.{Heard}
use Rattle.upload_intake.specs.Pools.ServedPool.{Given, Left, IsServedPool}
use Rattle.upload_intake.specs.Pools.Working.{Lending, Means, Lent, Talk}
use Rattle.upload_intake.specs.Transcripts.{GivesUnused}
use Rattle.upload_intake.specs.declared.work.WorkerEnd.{WorkerEnd}
use Rattle.upload_push.specs.Slices.{Push}
use Rattle.wire_laws.specs.Joined.{TransportCall, IsNoGet, Transmits}
use Rattle.wire_laws.specs.WrittenExchanges.{IsShortHost, IsWritable}
use Rattle.end_to_end.specs.Network.{Connection, IsFoundThere}

-- The connection of a client is this one of a worker: what either end read is a prefix of what the other wrote. Each
-- request on it is such as its type has, to a host that isn't too long, and none gets a blob's bytes.
pub record IsOneOfWorker {L : Lending} {S G O : Type 0} (m : Means L S G O) (max_body : ℕ) (t : Talk m max_body)
    (c : Connection) : Type 0 where
  pub carries : Transmits c.left (L.reads t.reader_left) (L.writes t.writer_left)
  pub to_host : IsShortHost c.made.host
  pub writable : AllByRecursion (λ x. IsWritable max_body x.ask) (c.before ++ c.asks)
  pub no_gets : AllByRecursion (λ x. IsNoGet x.ask) (c.before ++ c.asks)

-- over this connection a HEAD of this blob was asked, and a 200 was heard
pub record IsFoundOver (name : List ℕ) (digest : Digest) (c : Connection) : Type 0 where
  pub earlier : List TransportCall
  pub later : List TransportCall
  pub heard : Heard
  pub split : c.before ++ c.asks ≡ earlier ++ record { ask = Has name digest true; heard = Some heard } ∷ later
  pub is_found : heard.status ≡ 200

-- FROM END TO END, of a look: let a pool of workers have served, and let a client have heard a 200 to a HEAD of a blob
-- over a connection to one of them. Then at some step of the one order in which the pool served all requests the
-- repository had the digest, with bytes that have it, and so at the end.
abbrev pub LooksAreServed : {L : Lending} {S G O M : Type 0} → Means L S G O → (M → ℕ → M → Type 0) → Type 0
LooksAreServed {L} {S} {G} {O} {M} m tells =
    (given : Given M (Lent L S G O)) (left : Left M (Lent L S G O)) (pool : IsServedPool m tells given left) (p : Push)
    → IsLawful given.service → AreLawful given.service.limits → GivesUnused L
    → (seat : ℕ) (worker : Lent L S G O) (end : WorkerEnd) (within : seat < length given.workers)
    (earlier later : List (Talk m given.service.limits.max_body)) (t : Talk m given.service.limits.max_body)
    → (pool.parts seat worker end within).worked.talks ≡ earlier ++ t ∷ later
    → (c : Connection) → IsOneOfWorker m given.service.limits.max_body t c → IsFoundOver p.name p.digest c
    → IsFoundThere p given.service pool.steps left.service
