use Rattle.std.proofs.Common.{◌≡◌, ◌++◌, Some, None, sym, ◌∙◌, ap, subst}
use Rattle.std.specs.Prelude.{is_some, ◌↔◌, IsTrue}
use Rattle.std.specs.Cmp.Lexicographic.{nat_list_cmp_total}
use Rattle.std.specs.FinMap as map
use Rattle.std.specs.Option.{option_map}
use Rattle.std.proofs.lemmas.Bool.{true≢false}
use Rattle.upload_names.specs.Digest.{HasDigest}
use Rattle.upload_service.specs.Machine.{Table, Session}
use Rattle.upload_service.specs.Kept.Entries.{session_of}
use Rattle.upload_service.specs.declared.sessions.OpenSession.{OpenSession}
use Rattle.upload_service.proofs.Keeping.Kept.{get-kept}
use Rattle.upload_service.proofs.Keeping.Swept.{keys_exact, with_received, received_same}
use Rattle.upload_service.proofs.sessions.Sessions.has_digest.Goals as goal

pub unreachable-requires : goal.unreachable-requires
unreachable-requires g c =
    let none : map.get c.args.self.now c.args.at.now ≡ None =
    ap (λ (m : Table Session). map.get m c.args.at.now) (sym c.self.view_is)
    ∙ get-kept nat_list_cmp_total keys_exact session_of c.self.inside.open.entries c.args.at.now
    ∙ ap (option_map session_of) (sym c.in_default.ensures.value) in
    true≢false (sym c.requires ∙ ap is_some none)

pub returns-clause-is : goal.returns-clause-is
returns-clause-is g c = λ session e.
    let old : OpenSession = c.in-Some.session.now in
    let has : map.get c.args.self.now c.args.at.now ≡ Some (session_of old) =
    ap (λ (m : Table Session). map.get m c.args.at.now) (sym c.self.view_is)
    ∙ get-kept nat_list_cmp_total keys_exact session_of c.self.inside.open.entries c.args.at.now
    ∙ ap (option_map session_of) (sym c.in-Some.ensures.value) in
    let both : Some (session_of old) ≡ Some session = sym has ∙ e in
    let is : session_of old ≡ session = cc in
    subst (λ (s : Session). IsTrue c.has_digest.result ↔ HasDigest (s.received ++ c.args.body.now) c.args.digest.now) is
    c.has_digest.ensures.is

pub returns-clause-same : goal.returns-clause-same
returns-clause-same g c =
    received_same _ _ _ c.in-Some.session.now _ c.in-Some.ensures.value
    (((c.get_mut.follows.holds (with_received c.in-Some.session.now c.has_digest.new.self)).3
    (ap is_some (sym c.in-Some.ensures.value))).0) c.has_digest.ensures.same
    ∙ c.self.view_is
