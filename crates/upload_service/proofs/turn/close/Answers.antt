use Rattle.std.proofs.Common.{rules}
use Rattle.std.proofs.Common.{◌≡◌, ◌≢◌, ◌++◌, List, ℕ, sym, ◌∙◌, ap, subst, refl, arith}
use Rattle.std.specs.Prelude.{is_some}
use Rattle.std.specs.FinMap as map
use Rattle.std.proofs.lemmas.Bool.{true≢false}
use Rattle.upload_names.specs.Digest.{Digest, content_digest}
use Rattle.upload_service.specs.Machine.{Comes, Replies, Commits, refused, checked, Outcome, Session, Table}
use Rattle.upload_service.specs.Kept.Tables.{state_of}
use Rattle.upload_service.specs.declared.answer.Refusal.TheVariants as refusals
use Rattle.upload_service.proofs.Serving.{does, comes_by, mismatch, match}
use Rattle.upload_service.proofs.turn.close.Goals as goal

pub returns-in-Err-clause-turn : goal.returns-in-Err-clause-turn
returns-in-Err-clause-turn g c = does _ _ _ (Replies c.in-Err.answer) _ _ (c.in-Err.ensures.err.close c.args.digest) refl refl

pub returns-in_default-clause-turn : goal.returns-in_default-clause-turn
returns-in_default-clause-turn g c = search (rules, arith, does)

pub has_digest-matches-requires : goal.has_digest-matches-requires
has_digest-matches-requires g c = ap is_some c.in-Ok.ensures.ok.is_open

pub returns-then-not-matches-clause-turn : goal.returns-then-not-matches-clause-turn
returns-then-not-matches-clause-turn g c =
    let last = c.in-Ok.placed in
    let blob : List ℕ = c.in-Ok.ensures.ok.session.received ++ last.body in
    let done : Digest → Outcome = λ q. Commits last.name last.at q blob in
    let other : content_digest c.in-Some.digest.algorithm blob ≢ c.in-Some.digest =
    λ own. true≢false
    (sym ((c.has_digest-matches.ensures.is c.in-Ok.ensures.ok.session c.in-Ok.ensures.ok.is_open).1 own)
    ∙ c.if-not-matches.true) in
    does _ _ _ (refused refusals.Mismatch) _ _
    (c.in-Ok.ensures.ok.close c.args.digest
    ∙ ap (λ d. checked d blob done) c.in-Some.is
    ∙ mismatch c.in-Some.digest blob done other)
    refl
    (ap (λ t. state_of (record c.args.tables.now { sessions = t })) c.has_digest-matches.ensures.same)

pub commit-requires-clause-open : goal.commit-requires-clause-open
commit-requires-clause-open g c = search (rules, arith)

pub commit-requires-clause-fits : goal.commit-requires-clause-fits
commit-requires-clause-fits g c = search (rules, arith)

pub returns-clause-turn : goal.returns-clause-turn
returns-clause-turn g c =
    let last = c.in-Ok.placed in
    let blob : List ℕ = c.in-Ok.ensures.ok.session.received ++ last.body in
    let done : Digest → Outcome = λ q. Commits last.name last.at q blob in
    let own : content_digest c.in-Some.digest.algorithm blob ≡ c.in-Some.digest =
    (c.has_digest-matches.ensures.is c.in-Ok.ensures.ok.session c.in-Ok.ensures.ok.is_open).0 c.if-not-matches.false in
    comes_by _ _ _ _ _ _
    (c.in-Ok.ensures.ok.close c.args.digest
    ∙ ap (λ d. checked d blob done) c.in-Some.is
    ∙ match c.in-Some.digest blob done own)
    (subst (λ (m : Table Session). Comes (state_of (record c.args.tables.now { sessions = m })) c.args.now
    (done c.in-Some.digest) c.commit.result (state_of c.commit.new.tables))
    c.has_digest-matches.ensures.same
    (c.commit.ensures.turn c.args.now c.in-Ok.ensures.ok.session
    (ap (λ (m : Table Session). map.get m last.at) c.has_digest-matches.ensures.same ∙ c.in-Ok.ensures.ok.is_open)))
