use Rattle.std.proofs.Common.{◌≡◌, ◌+◌, length, filter, not, refl, ap, ◌∙◌, arith, rules}
use Rattle.std.specs.Cmp.Lexicographic.{nat_list_cmp_total}
use Rattle.std.specs.FinMap as map
use Rattle.std.proofs.lemmas.List.Filters.{length-filter_both}
use Rattle.upload_service.specs.Kept.Entries.{session_of, is_kept}
use Rattle.upload_service.proofs.Keeping.Kept.{len-kept}
use Rattle.upload_service.proofs.Keeping.Swept.{keys_exact, table, table_awake, len_awake}
use Rattle.upload_service.proofs.sessions.Sessions.leave_idle.Goals as goal

pub returns-clause-awake : goal.returns-clause-awake
returns-clause-awake c = search (rules, arith, table, table_awake)

pub returns-clause-fewer : goal.returns-clause-fewer
returns-clause-fewer c =
    let es = c.self.inside.open.entries in
    let kept = is_kept c.args.max_idle c.args.now in
    let new : map.len (table (filter kept es)) ≡ length (filter kept es) =
    ap map.len (table_awake c.args.max_idle c.args.now es c.len.ensures.ordered)
    ∙ len_awake c.args.max_idle c.args.now es c.len.ensures.ordered in
    let is : map.len (table c.sweep.new.entries.entries) ≡ map.len (table (filter kept es)) =
    ap (λ fs. map.len (table fs)) c.sweep.ensures in
    let old : map.len (table es) ≡ length es = len-kept nat_list_cmp_total keys_exact session_of es c.len.ensures.ordered in
    let was : map.len (table es) ≡ map.len c.args.self.now = ap map.len c.self.view_is in
    let both : length (filter kept es) + length (filter (λ e. not (kept e)) es) ≡ length es =
    length-filter_both kept _ (λ _. refl) es in
    omega arith
