-- What the transcripts of a worker's connections tell.
use Rattle.std.proofs.Common.{◌≡◌, ℕ, List, [], ◌∷◌, ◌++◌, sym, ap, ◌∙◌, subst, ⊎_elim, arith, rules}
use Rattle.std.specs.Prelude.{Some}
use Rattle.std.specs.List.{AllByRecursion}
use Rattle.upload_keeper.specs.Seats.{SeatState}
use Rattle.upload_intake.specs.Pools.Working.{Lending, Means, Talk, Serves, IsLast}
use Rattle.upload_intake.specs.Transcripts.{GivesUnused, TellsAll, TranscriptsTellConnections}
use Rattle.upload_intake.proofs.Working.{behind}
use Rattle.upload_wire.specs.declared.connection.ConnEnd.TheVariants.{DeskGone}
use Rattle.upload_wire.proofs.TranscriptLemmas.{conversations_told}

whole_of : (had more all : List ℕ) → all ≡ had ++ more → had ≡ [] → all ≡ more
whole_of had more all e none = e ∙ ap (λ t. t ++ more) none

module _ {L : Lending} {S G O : Type 0} (m : Means L S G O) (max_body : ℕ) (unused : GivesUnused L) where
  one_told : (conns mid : L.Conns) (t : Talk m max_body) → L.gives conns (Some (t.reader, t.writer)) mid
      → TellsAll m max_body t
  one_told conns mid t given = search (rules, arith, conversations_told, whole_of)

  all_told : (conns left : L.Conns) (desk new : SeatState × S) (ts : List (Talk m max_body))
      → Serves m max_body conns desk ts left new → AllByRecursion (TellsAll m max_body) ts
  all_told conns left desk new [] s = tt
  all_told conns left desk new (t ∷ ts) s = (
    one_told conns s.0 t s.2,
    ⊎_elim
        (λ (x : (t.end ≡ DeskGone) × IsLast m max_body s.1 t ts left new).
        subst (AllByRecursion (TellsAll m max_body)) (sym x.1.0) tt)
        (λ (x : (t.end ≡ DeskGone → ⊥) × Serves m max_body s.1 t.new ts left new).
        all_told s.1 left t.new new ts x.1)
        (behind t.end (IsLast m max_body s.1 t ts left new) (Serves m max_body s.1 t.new ts left new) s.5),
  )

pub connections_told : {L : Lending} {S G O : Type 0} (m : Means L S G O) → TranscriptsTellConnections m
connections_told m = search (rules, arith, all_told)
