use Rattle.std.proofs.Common.{◌≡◌, ◌+◌, length, filter, not, refl, sym, ◌∙◌, ap, arith}
use Rattle.std.specs.FinMap as map
use Rattle.std.proofs.lemmas.Bool.{lt-leb}
use Rattle.std.proofs.lemmas.List.Filters.{length-filter_both}
use Rattle.upload_service.specs.Machine.{Table, Session, awake_of}
use Rattle.upload_service.specs.Kept.Entries.{is_kept}
use Rattle.upload_service.proofs.Keeping.Swept.{len_awake}
use Rattle.upload_service.proofs.sessions.Sessions.is_full.Goals as goal

pub returns-then-len-limits : goal.returns-then-len-limits
returns-then-len-limits c =
    let awake : map.len (awake_of c.args.limits.max_idle c.args.now c.args.self.now)
    ≡ length (filter (is_kept c.args.limits.max_idle c.args.now) c.self.inside.open.entries) =
    ap (λ (m : Table Session). map.len (awake_of c.args.limits.max_idle c.args.now m)) (sym c.self.view_is)
    ∙ len_awake c.args.limits.max_idle c.args.now c.self.inside.open.entries c.len.ensures.ordered in
    let both : length (filter (is_kept c.args.limits.max_idle c.args.now) c.self.inside.open.entries)
    + length (filter (λ e. not (is_kept c.args.limits.max_idle c.args.now e)) c.self.inside.open.entries)
    ≡ length c.self.inside.open.entries =
    length-filter_both (is_kept c.args.limits.max_idle c.args.now) _ (λ _. refl) c.self.inside.open.entries in
    sym (lt-leb c.args.limits.max_open (map.len (awake_of c.args.limits.max_idle c.args.now c.args.self.now))
    (omega (arith, c.len.ensures.len)))

pub returns : goal.returns
returns c = cc (len_awake c.args.limits.max_idle c.args.now c.self.inside.open.entries c.len.ensures.ordered)
