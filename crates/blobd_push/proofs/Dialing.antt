-- A connection that was made, and given back unused; and what is asked over connections, as `upload_push` has it.
use Rattle.std.proofs.Common.{rules}
use Rattle.std.proofs.Common.{◌≡◌, ℕ, List, [], ◌∷◌, ◌++◌, Option, Some, None, inl, inr, refl, ap, ◌∙◌, false, arith}
use Rattle.http_wire.specs.States.{TranscriptState}
use Rattle.upload_service.specs.declared.ask.Ask.{Ask}
use Rattle.upload_client.specs.declared.heard.Heard.{Heard}
use Rattle.upload_client.specs.TransportText.{WireState}
use Rattle.upload_push.specs.Dialed.{AsksDialed, Connects, kept_or, new_wire}
use Rattle.upload_push.proofs.Cases.{cond_case_both}
use Rattle.blobd_shared.specs.Connections.{ConnEvent}
use Rattle.blobd_push.specs.Dials.{AsksAreDialed, AsksIn, Dialing, Gets, GetsNone, behind_ask}
use Rattle.blobd_shared.specs.Connections.ConnEvent.{made, given_back}

pub unused : (host : List ℕ) {before mid behind : List ConnEvent} {given : TranscriptState} {taken : List ℕ}
    → given ≡ record { bytes = []; ended = false } → taken ≡ [] → mid ≡ before ++ made ∷ []
    → behind ≡ mid ++ given_back given taken ∷ [] → GetsNone host None before behind
unused host {before} {mid} {behind} {given} {taken} read written told back =
    let there = back ∙ ap (λ m. m ++ given_back given taken ∷ []) told in
    let with_read = there ∙ ap (λ g. (before ++ made ∷ []) ++ given_back g taken ∷ []) read in
    inr (
      new_wire host None None,
      (None, None, refl),
      with_read ∙ ap (λ t. (before ++ made ∷ []) ++ given_back (record { bytes = []; ended = false }) t ∷ []) written,
    )

-- a connection that is kept or made is one that `upload_push` has
connects : (host : List ℕ) (kept : Option WireState) (h : List ConnEvent) (wire : WireState) (behind : List ConnEvent)
    → Gets host kept h wire behind → Connects host kept (Some wire)
connects host (Some k) h wire behind got = ap Some got.0
connects host None h wire behind got = got.0

connects_none : (host : List ℕ) (kept : Option WireState) (h behind : List ConnEvent) → GetsNone host kept h behind
    → Connects host kept None
connects_none host (Some k) h behind got = absurd got
connects_none host None h behind got = tt

kept_behind : (h : List ConnEvent) (wire : WireState) → (behind_ask h wire).kept ≡ kept_or None wire
kept_behind h wire = search (rules, arith, cond_case_both)

dialed : (host : List ℕ) (s : Dialing) (ask : Ask) (heard : Option Heard) (t : Dialing) → AsksIn host s ask heard t
    → AsksDialed host s.kept ask heard t.kept
dialed host s ask heard t (inl (wire, new, h, got, asked, is)) = search (rules, arith, connects, kept_behind)
dialed host s ask heard t (inr (got, unheard, kept)) = search (rules, arith, connects_none)

pub all_dialed : AsksAreDialed
all_dialed host before behind [] leads = ap (λ (u : Dialing). u.kept) leads
all_dialed host before behind (e ∷ log) leads =
    search (rules, arith, dialed, all_dialed host before leads.0 log leads.1)
