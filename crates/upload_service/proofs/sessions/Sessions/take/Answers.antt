use Rattle.std.proofs.Common.{◌≡◌, Some, None, sym, ◌∙◌, ap}
use Rattle.std.specs.Prelude.{is_some, IfSome, IfNone, []}
use Rattle.std.specs.Cmp.Lexicographic.{nat_list_cmp_total}
use Rattle.std.specs.FinMap as map
use Rattle.std.specs.Option.{option_map}
use Rattle.std.proofs.lemmas.Bool.{true≢false}
use Rattle.upload_service.specs.Machine.{Table, Session}
use Rattle.upload_service.specs.Kept.Entries.{session_of}
use Rattle.upload_service.specs.declared.sessions.OpenSession.{OpenSession}
use Rattle.upload_service.proofs.Keeping.Kept.{kept-insert, get-kept}
use Rattle.upload_service.proofs.Keeping.Swept.{keys_exact, table, with_received, received_same}
use Rattle.upload_service.proofs.sessions.Sessions.take.Goals as goal

pub unreachable-requires : goal.unreachable-requires
unreachable-requires c =
    let none : map.get c.args.self.now c.args.at.now ≡ None =
    ap (λ (m : Table Session). map.get m c.args.at.now) (sym c.self.view_is)
    ∙ get-kept nat_list_cmp_total keys_exact session_of c.self.inside.open.entries c.args.at.now
    ∙ ap (option_map session_of) (sym c.in_default.ensures.value) in
    true≢false (sym c.requires ∙ ap is_some none)

pub returns-clause-taken : goal.returns-clause-taken
returns-clause-taken c =
    let old : OpenSession = c.in-Some.session.now in
    let at : OpenSession = with_received old c.take.new.self in
    let es = c.self.inside.open.entries in
    let fs = (c.get_mut.follows.lender at).entries in
    let has : map.get c.args.self.now c.args.at.now ≡ Some (session_of old) =
    ap (λ (m : Table Session). map.get m c.args.at.now) (sym c.self.view_is)
    ∙ get-kept nat_list_cmp_total keys_exact session_of es c.args.at.now
    ∙ ap (option_map session_of) (sym c.in-Some.ensures.value) in
    let inserted : table fs ≡ map.insert c.args.self.now c.args.at.now (session_of at) =
    kept-insert nat_list_cmp_total keys_exact session_of es fs c.args.at.now at
    (((c.get_mut.follows.holds at).3 (ap is_some (sym c.in-Some.ensures.value))).0)
    ∙ ap (λ (m : Table Session). map.insert m c.args.at.now (session_of at)) c.self.view_is in
    elim c.take.result as (λ r. IfSome r (λ x. (x ≡ old.received) × (c.take.new.self ≡ [])) → IfSome r (λ x. (session : Session)
    → map.get c.args.self.now c.args.at.now ≡ Some session → (x ≡ session.received)
    × (table fs ≡ map.insert c.args.self.now c.args.at.now
    (record { name = session.name; received = []; seen = session.seen })))) [
      | Some x ↦ λ is session e.
          let both : Some (session_of old) ≡ Some session = sym has ∙ e in
          let same : session_of old ≡ session = cc in (
            is.0 ∙ ap (λ (s : Session). s.received) same,
            inserted ∙ (λ i. map.insert c.args.self.now c.args.at.now
                (record { name = (same i).name; received = is.1 i; seen = (same i).seen })),
          )
      | None ↦ λ _. tt
    ] c.take.ensures.some

pub returns-clause-none : goal.returns-clause-none
returns-clause-none c =
    let old : OpenSession = c.in-Some.session.now in
    let at : OpenSession = with_received old c.take.new.self in
    let fs = (c.get_mut.follows.lender at).entries in
    elim c.take.result as (λ r. IfNone r (c.take.new.self ≡ old.received) → IfNone r (table fs ≡ c.args.self.now)) [
      | Some x ↦ λ _. tt
      | None ↦ λ is.
          received_same _ _ _ old _ c.in-Some.ensures.value
          (((c.get_mut.follows.holds at).3 (ap is_some (sym c.in-Some.ensures.value))).0) is
          ∙ c.self.view_is
    ] c.take.ensures.none
