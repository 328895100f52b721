use Rattle.std.proofs.Common.{◌≡◌, ◌++◌, Some, None, sym, ◌∙◌, ap}
use Rattle.std.specs.Prelude.{is_some}
use Rattle.std.specs.Cmp.Lexicographic.{nat_list_cmp_total}
use Rattle.std.specs.FinMap as map
use Rattle.std.specs.Option.{option_map}
use Rattle.std.proofs.lemmas.Bool.{true≢false}
use Rattle.upload_service.specs.Machine.{Table, Session}
use Rattle.upload_service.specs.Kept.Entries.{session_of}
use Rattle.upload_service.specs.declared.sessions.OpenSession.{OpenSession}
use Rattle.upload_service.proofs.Keeping.Kept.{kept-insert, get-kept}
use Rattle.upload_service.proofs.Keeping.Swept.{keys_exact, with_received, received_same}
use Rattle.upload_service.proofs.sessions.Sessions.restore.Goals as goal

pub unreachable-requires : goal.unreachable-requires
unreachable-requires c =
    let none : map.get c.args.self.now c.args.at.now ≡ None =
    ap (λ (m : Table Session). map.get m c.args.at.now) (sym c.self.view_is)
    ∙ get-kept nat_list_cmp_total keys_exact session_of c.self.inside.open.entries c.args.at.now
    ∙ ap (option_map session_of) (sym c.in_default.ensures.value) in
    true≢false (sym c.requires ∙ ap is_some none)

pub returns-clause-ok : goal.returns-clause-ok
returns-clause-ok c = λ session e.
    let old : OpenSession = c.in-Some.session.now in
    let at : OpenSession =
    record { name = old.name; received = c.restore.new.self; seen = c.args.now; grant = old.grant } in
    let has : map.get c.args.self.now c.args.at.now ≡ Some (session_of old) =
    ap (λ (m : Table Session). map.get m c.args.at.now) (sym c.self.view_is)
    ∙ get-kept nat_list_cmp_total keys_exact session_of c.self.inside.open.entries c.args.at.now
    ∙ ap (option_map session_of) (sym c.in-Some.ensures.value) in
    let both : Some (session_of old) ≡ Some session = sym has ∙ e in
    let is : session_of old ≡ session = cc in (
      sym (ap (λ (s : Session). s.received) is) ∙ c.in-Ok.ensures.ok.0,
      kept-insert nat_list_cmp_total keys_exact session_of c.self.inside.open.entries
          (c.get_mut.follows.lender at).entries c.args.at.now at
          (((c.get_mut.follows.holds at).3 (ap is_some (sym c.in-Some.ensures.value))).0)
          ∙ (λ i. map.insert (c.self.view_is i) c.args.at.now (record {
            name = (is i).name;
            received = c.in-Ok.ensures.ok.1 i;
            seen = c.args.now;
          })),
    )

pub returns-in_default-restore-clause-err : goal.returns-in_default-restore-clause-err
returns-in_default-restore-clause-err c =
    received_same _ _ _ c.in-Some.session.now _ c.in-Some.ensures.value
    (((c.get_mut.follows.holds (with_received c.in-Some.session.now c.restore.new.self)).3
    (ap is_some (sym c.in-Some.ensures.value))).0) c.in_default-restore.ensures.err
    ∙ c.self.view_is
