use Rattle.std.proofs.Common.{◌≡◌, ◌++◌, ◌+◌, take, arith, slice_range, sym, ◌∙◌, ap, subst}
use Rattle.std.specs.Vec.{with_items}
use Rattle.std.proofs.lemmas.List.{with_items_is}
use Rattle.std.proofs.lemmas.Result.{err_from_is_err_and}
use Rattle.http_wire.proofs.BufferLemmas.{IsWindow, moved_window, window_grows, window_stays}
use Rattle.http_wire.proofs.input.ReadBuffer.fill.Goals as goal
use Rattle.http_wire.proofs.input.ReadBuffer.fill.Goals.{then-self-eq-CAPACITY, else-self-eq-CAPACITY}

pub returns-clause-gave : goal.returns-clause-gave
returns-clause-gave g c =
    let x = c.if-self-eq-CAPACITY.self-inside in
    let at : IsWindow x c.args.self.now =
    elim c.if-self-eq-CAPACITY.branch [
      | then-self-eq-CAPACITY w ↦ subst (λ v. IsWindow v c.args.self.now) (sym w.self-inside-is)
          (moved_window c.self.inside w.copy_within.new.self c.args.self.now
          (record {
            window = c.self.view_is;
            order = c.self.invariant.0;
            fits = c.self.invariant.1;
            whole = c.self.invariant.2;
          })
          w.if-self-eq-CAPACITY.true w.copy_within.ensures.items (omega arith))
      | else-self-eq-CAPACITY w ↦ subst (λ v. IsWindow v c.args.self.now) (sym w.self-inside-is)
          (record {
            window = c.self.view_is;
            order = c.self.invariant.0;
            fits = c.self.invariant.1;
            whole = c.self.invariant.2;
          })
    ] in
    let value : c.deref_mut.result.now ≡ x.bytes.items = c.deref_mut.ensures.value in
    let items : (with_items x.bytes c.read_behind.new.bytes).items ≡ c.read_behind.new.bytes =
    with_items_is x.bytes c.read_behind.new.bytes (omega (arith, c.deref_mut.ensures.len, c.read_behind.auto.bytes)) in
    let gave = c.in_ok-count.ensures.gave in record {
      given = gave.given;
      gives = gave.gives;
      joined = ap (λ t. slice_range t x.start (x.end + c.in_ok-count.count)) items
          ∙ window_grows x c.args.self.now c.read_behind.new.bytes gave.given c.in_ok-count.count at
          (gave.joined ∙ ap (λ t. take x.end t ++ gave.given) value);
    }

pub returns-in_err-count-clause-gave : goal.returns-in_err-count-clause-gave
returns-in_err-count-clause-gave g c =
    let x = c.if-self-eq-CAPACITY.self-inside in
    let at : IsWindow x c.args.self.now =
    elim c.if-self-eq-CAPACITY.branch [
      | then-self-eq-CAPACITY w ↦ subst (λ v. IsWindow v c.args.self.now) (sym w.self-inside-is)
          (moved_window c.self.inside w.copy_within.new.self c.args.self.now
          (record {
            window = c.self.view_is;
            order = c.self.invariant.0;
            fits = c.self.invariant.1;
            whole = c.self.invariant.2;
          })
          w.if-self-eq-CAPACITY.true w.copy_within.ensures.items (omega arith))
      | else-self-eq-CAPACITY w ↦ subst (λ v. IsWindow v c.args.self.now) (sym w.self-inside-is)
          (record {
            window = c.self.view_is;
            order = c.self.invariant.0;
            fits = c.self.invariant.1;
            whole = c.self.invariant.2;
          })
    ] in
    let value : c.deref_mut.result.now ≡ x.bytes.items = c.deref_mut.ensures.value in
    let items : (with_items x.bytes c.read_behind.new.bytes).items ≡ c.read_behind.new.bytes =
    with_items_is x.bytes c.read_behind.new.bytes (omega (arith, c.deref_mut.ensures.len, c.read_behind.auto.bytes)) in
    let gave = c.in_err-count.ensures.gave in record {
      given = gave.given;
      gives = gave.gives;
      joined =
          ap (λ t. slice_range t x.start x.end) items
          ∙ ap (λ n. slice_range c.read_behind.new.bytes x.start n) (omega arith)
          ∙ window_grows x c.args.self.now c.read_behind.new.bytes gave.given 0 at
          (gave.joined ∙ ap (λ t. take x.end t ++ gave.given) value);
    }

pub returns-in_err-count-clause-kept : goal.returns-in_err-count-clause-kept
returns-in_err-count-clause-kept g c =
    let x = c.if-self-eq-CAPACITY.self-inside in
    let at : IsWindow x c.args.self.now =
    elim c.if-self-eq-CAPACITY.branch [
      | then-self-eq-CAPACITY w ↦ subst (λ v. IsWindow v c.args.self.now) (sym w.self-inside-is)
          (moved_window c.self.inside w.copy_within.new.self c.args.self.now
          (record {
            window = c.self.view_is;
            order = c.self.invariant.0;
            fits = c.self.invariant.1;
            whole = c.self.invariant.2;
          })
          w.if-self-eq-CAPACITY.true w.copy_within.ensures.items (omega arith))
      | else-self-eq-CAPACITY w ↦ subst (λ v. IsWindow v c.args.self.now) (sym w.self-inside-is)
          (record {
            window = c.self.view_is;
            order = c.self.invariant.0;
            fits = c.self.invariant.1;
            whole = c.self.invariant.2;
          })
    ] in
    let value : c.deref_mut.result.now ≡ x.bytes.items = c.deref_mut.ensures.value in
    let items : (with_items x.bytes c.read_behind.new.bytes).items ≡ c.read_behind.new.bytes =
    with_items_is x.bytes c.read_behind.new.bytes (omega (arith, c.deref_mut.ensures.len, c.read_behind.auto.bytes)) in
    let p = err_from_is_err_and c.from_residual.result c.from_residual.ensures.1 in
    rw p.1
    (ap (λ t. slice_range t x.start x.end) items
    ∙ window_stays x c.args.self.now c.read_behind.new.bytes at (c.in_err-count.ensures.kept ∙ ap (take x.end) value))
