use Rattle.std.proofs.Common.{◌≡◌, ◌∙◌, ◌<◌, ◌++◌, List, sym, ap, length, Some, None, arith, rules, append-nil}
use Rattle.upload_claims.specs.Fold.{fold}
use Rattle.upload_claims.specs.Records.{next, records_in}
use Rattle.upload_claims.specs.Damage.{changes_told, damages}
use Rattle.upload_claims.proofs.Records.{span_long}
use Rattle.upload_claims.proofs.Batches.{claims_on, damage_on, fewer, none_left}
use Rattle.upload_claims.proofs.claimed.Claimed.read_batch.Goals as goal

pub returns-in_default-clause-claims : goal.returns-in_default-clause-claims
returns-in_default-clause-claims c =
    let some : 0 < length c.loop-rest.rest.now = search (rules, arith) in
    claims_on c.loop-rest.self c.read_one.new.self _ c.loop-rest.at c.loop-rest.rest.now None some
    (sym c.span_of.ensures ∙ c.in_default.is) c.in_ok-read_one.ensures.claims c.loop-rest.invariant.claims

pub returns-in_default-clause-damage : goal.returns-in_default-clause-damage
returns-in_default-clause-damage c =
    let some : 0 < length c.loop-rest.rest.now = search (rules, arith) in
    sym (append-nil c.read_one.new.damage.items)
    ∙ damage_on c.loop-rest.damage.items c.read_one.new.damage.items _ c.loop-rest.at c.loop-rest.rest.now None some
    (sym c.span_of.ensures ∙ c.in_default.is) c.in_ok-read_one.ensures.damage c.loop-rest.invariant.damage

pub split_at-requires : goal.split_at-requires
split_at-requires c = (span_long c.loop-rest.rest.now c.in-Some.span (sym c.span_of.ensures ∙ c.in-Some.is)).1

pub loop-rest-smaller : goal.loop-rest-smaller
loop-rest-smaller c =
    let less = fewer c.loop-rest.rest.now c.in-Some.span (sym c.span_of.ensures ∙ c.in-Some.is) in
    let is = ap length c.split_at.ensures.back in
    omega (arith, less, is)

pub loop-rest-preserved : goal.loop-rest-preserved
loop-rest-preserved c =
    let some : 0 < length c.loop-rest.rest.now = search (rules, arith) in
    let span = sym c.span_of.ensures ∙ c.in-Some.is in
    let back = c.split_at.ensures.back in
    let less = fewer c.loop-rest.rest.now c.in-Some.span span in
    let is = ap length back in
    let counted = c.loop-rest.invariant.counted in
    record {
      claims =
          ap (λ (xs : List _). fold c.read_one.new.self (changes_told (records_in (next c.loop-rest.at) xs))) back
          ∙ claims_on c.loop-rest.self c.read_one.new.self _ c.loop-rest.at c.loop-rest.rest.now (Some c.in-Some.span)
          some span c.in_ok-read_one.ensures.claims c.loop-rest.invariant.claims;
      damage =
          ap (λ (xs : List _). c.read_one.new.damage.items ++ damages (next c.loop-rest.at) (records_in (next c.loop-rest.at) xs))
          back
          ∙ damage_on c.loop-rest.damage.items c.read_one.new.damage.items _ c.loop-rest.at c.loop-rest.rest.now
          (Some c.in-Some.span) some span c.in_ok-read_one.ensures.damage c.loop-rest.invariant.damage;
      counted = omega (arith, less, is, counted);
    }

pub returns-clause-claims : goal.returns-clause-claims
returns-clause-claims c =
    let none : length c.loop-rest.rest.now ≡ 0 = search (rules, arith) in
    sym (ap (λ rs. fold c.loop-rest.self (changes_told rs)) (none_left c.loop-rest.at c.loop-rest.rest.now none))
    ∙ c.loop-rest.invariant.claims

pub returns-clause-damage : goal.returns-clause-damage
returns-clause-damage c =
    let none : length c.loop-rest.rest.now ≡ 0 = search (rules, arith) in
    sym (append-nil c.loop-rest.damage.items)
    ∙ sym (ap (λ rs. c.loop-rest.damage.items ++ damages c.loop-rest.at rs)
    (none_left c.loop-rest.at c.loop-rest.rest.now none)) ∙ c.loop-rest.invariant.damage
