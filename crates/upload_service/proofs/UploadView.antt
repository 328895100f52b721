-- What a request to a session comes to, by what it asks there.
use Rattle.std.proofs.Common.{◌≡◌, ℕ, List, true, false, Option, Some, sym, ap, arith, rules}
use Rattle.std.proofs.lemmas.Bool.{true≢false}
use Rattle.upload_service.specs.declared.ask.Ask.{Ask}
use Rattle.upload_service.specs.UploadView.{Act, UploadView, OfSession, Opens, WholeBlob, Unrelated, upload_view}
use Rattle.upload_service.specs.UploadView.{on_session}
use Rattle.upload_service.specs.Machine.{same, Session, in_session, at_session}
use Rattle.upload_service.specs.Session.{carries}
use Rattle.upload_service.proofs.Keeping.Tables.{eq_from_same, same_from_eq}

-- what holds of none, and of whatever is said of a request to a session, holds of what is said of each request
pub on_each : {A : Type 0} (P : A → Type 0) (v : UploadView) (none : A) (said : List ℕ → List ℕ → Act → A) → P none
    → ((name at : List ℕ) (act : Act) → P (said name at act)) → P (on_session v none said)
on_each P v none said h = search (rules, arith)

-- a session that is there, under the name that is asked for
pub named : (max_blob : ℕ) (o : Option Session) (session : Session) (name at : List ℕ) (act : Act) → o ≡ Some session
    → session.name ≡ name → at_session max_blob o name at act ≡ in_session max_blob session name at act
named max_blob o session name at act e n = cc (same_from_eq session.name name n)

-- a request that carries a reference asks something of its session
pub record IsCarried (at : List ℕ) (v : UploadView) : Type 0 where
  pub name : List ℕ
  pub act : Act
  pub view : v ≡ OfSession name at act

carried_view : (at : List ℕ) (v : UploadView) → on_session v false (λ name to act. same at to) ≡ true → IsCarried at v
carried_view at (OfSession name to act) c =
    record { name = name; act = act; view = ap (λ k. OfSession name k act) (sym (eq_from_same at to c)) }
carried_view at (Opens name) c = absurd (true≢false (sym c))
carried_view at (WholeBlob body) c = absurd (true≢false (sym c))
carried_view at Unrelated c = absurd (true≢false (sym c))

pub carried : (at : List ℕ) (ask : Ask) → carries at ask ≡ true → IsCarried at (upload_view ask)
carried at ask c = carried_view at (upload_view ask) c
