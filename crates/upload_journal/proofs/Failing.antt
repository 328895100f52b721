-- Why an entry was not applied.
use Rattle.std.proofs.Common.{ℕ, zero, suc, ◌<◌, ◌≤◌, List, [], ◌∷◌, length, get_or, rules}
use Rattle.std.proofs.Common.{inl, inr, arith}
use Rattle.upload_journal.specs.declared.bodies.BodyFault.{BodyFault}
use Rattle.upload_journal.specs.declared.body.BodyFile.{BodyFile}
use Rattle.upload_journal.specs.declared.entries.KeptExchange.{KeptExchange}
use Rattle.upload_journal.specs.declared.replay.ReplayFault.{ReplayFault}
use Rattle.upload_journal.specs.Replay.{Point}
use Rattle.upload_journal.specs.Stops.{OfOne, FilesFail, files_in, ExchangeFails}

pub of_one : (P : BodyFile → Type 0) (files : List BodyFile) (i : ℕ) (d : BodyFile) → i < length files
    → P (get_or files i d) → OfOne P files
of_one P [] i d lt is = absurd (omega arith)
of_one P (file ∷ files) zero d lt is = inl is
of_one P (file ∷ files) (suc i) d lt is = inr (of_one P files i d (omega arith) is)

of_none : (P : BodyFile → Type 0) → ((file : BodyFile) → P file → ⊥) → (files : List BodyFile) → OfOne P files → ⊥
of_none P none [] is = is
of_none P none (file ∷ files) is = elim is [ inl here ↦ none file here | inr there ↦ of_none P none files there ]

module _ (stands : ℕ → List ℕ → Type 0) (refused : ℕ → BodyFault → Type 0) (old : Point) (entry : KeptExchange) where
  pub files_fail : old.last ≤ entry.now → (fault : ReplayFault) → FilesFail stands refused (files_in entry.ask) fault
      → ExchangeFails stands refused old entry fault
  files_fail h1 fault h2 = search (rules, arith, of_none)
