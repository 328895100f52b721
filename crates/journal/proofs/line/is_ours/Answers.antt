use Rattle.std.proofs.Common.{◌≡◌, ◌≢◌, ◌≤◌, ◌∙◌, ℕ, List, length, length-take, take, sym, ap, inl, inr, arith, rules}
use Rattle.std.proofs.lemmas.Bool.{cases_lt, le-leb}
use Rattle.journal.specs.Format.{sector}
use Rattle.journal.proofs.Causes.{because_weaker, never}
use Rattle.journal.proofs.line.is_ours.Goals as goal

-- the first sector, as it was read, is another
differs : (file line found : List ℕ) (len : ℕ) → length line ≡ 4096 → len ≡ length file
    → (sector ≤ len → take sector file ≡ found) → found ≢ line → take sector file ≢ line
differs file line found len long measured read other is = elim (cases_lt len sector) [
  | inl short ↦ absurd (omega (arith, ap length is, long, length-take sector file, measured))
  | inr there ↦ other (sym (read there) ∙ is)
]

pub returns-then-is_same-clause-other : goal.returns-then-is_same-clause-other
returns-then-is_same-clause-other g c short clean is =
    let file = g.D.Disk.seen c.args.disk.now in
    let long : length c.args.line.now ≡ 4096 = search rules in
    let measured = c.requires.measured (c.read_line.ensures.reads.clean clean) in
    elim (cases_lt c.args.len sector) [
      | inl less ↦ absurd (omega (arith, ap length is, long, length-take sector file, measured))
      | inr there ↦ absurd (cc (sym (le-leb 4096 c.args.len there) ∙ short))
    ]

pub returns-then-is_begun-clause-other : goal.returns-then-is_begun-clause-other
returns-then-is_begun-clause-other g c is_false clean =
    differs _ _ _ _ (search rules) (c.requires.measured (c.read_line.ensures.reads.clean clean))
    (c.in_ok-found.ensures.read clean) (c.is_same.ensures.other c.if-is_same.false)

pub returns-then-len-clause-cause : goal.returns-then-len-clause-cause
returns-then-len-clause-cause g c =
    because_weaker _ _ _ _ _ _ _ _ _ _ (λ no. no) (λ any clean is.
    c.is_same.ensures.other c.if-is_same.false
    (sym (c.in_ok-found.ensures.read clean (omega (arith, c.if-len.true))) ∙ is)) (λ no. no) (never _) (λ no. no)
    c.refusal.result c.refusal.ensures

pub returns-clause-cause : goal.returns-clause-cause
returns-clause-cause g c =
    because_weaker _ _ _ _ _ _ _ _ _ _ (λ no. no) (λ any clean.
    differs _ _ _ _ (search rules) (c.requires.measured (c.read_line.ensures.reads.clean clean))
    (c.in_ok-found.ensures.read clean) (c.is_same.ensures.other c.if-is_same.false)) (λ no. no) (never _) (λ no. no)
    c.refusal-2.result c.refusal-2.ensures
