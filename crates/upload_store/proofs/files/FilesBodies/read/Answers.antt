use Rattle.std.proofs.Common.{◌≡◌, ◌∙◌, ◌≤◌, List, ℕ, Result, Ok, Err, OnOk, is_err, false, sym, ap, rules}
use Rattle.std.proofs.Common.{take, length, arith, length-append}
use Rattle.upload_store.proofs.Pieces.{came_more}
use Rattle.upload_store.proofs.Reading.{reads_then}
use Rattle.upload_store.proofs.Rescues.{since_then, fault_fewer, refused_as}
use Rattle.upload_store.proofs.files.FilesBodies.read.Goals as goal

pub returns-in-Err-clause-keeps : goal.returns-in-Err-clause-keeps
returns-in-Err-clause-keeps g c first kept =
    let grown = fault_fewer _ _ _ _ c.in-Err.fault c.in-Err.ensures.faults in
    let then = since_then g.S.Shelf.held g.S.Shelf.may_leave g.S.Shelf.IsClean g.S.Shelf.faults in
    then first.shelf c.args.self.now.shelf c.read_at.new.self kept
    (then c.args.self.now.shelf c.loop.self.shelf c.read_at.new.self (c.loop.invariant.reads, c.loop.invariant.faults)
    (record { all = c.read_at.ensures.same; clean = c.read_at.ensures.clean }, grown))

pub returns-then-n-eq0-clause-keeps : goal.returns-then-n-eq0-clause-keeps
returns-then-n-eq0-clause-keeps g c first kept =
    let same = c.in-Ok.ensures.faults in
    let then = since_then g.S.Shelf.held g.S.Shelf.may_leave g.S.Shelf.IsClean g.S.Shelf.faults in
    then first.shelf c.args.self.now.shelf c.read_at.new.self kept
    (then c.args.self.now.shelf c.loop.self.shelf c.read_at.new.self (c.loop.invariant.reads, c.loop.invariant.faults)
    (record { all = c.read_at.ensures.same; clean = c.read_at.ensures.clean }, omega (arith, same)))

pub returns-then-is_err-clause-keeps : goal.returns-then-is_err-clause-keeps
returns-then-is_err-clause-keeps g c first kept =
    let same = c.in-Ok.ensures.faults in
    let then = since_then g.S.Shelf.held g.S.Shelf.may_leave g.S.Shelf.IsClean g.S.Shelf.faults in
    then first.shelf c.args.self.now.shelf c.read_at.new.self kept
    (then c.args.self.now.shelf c.loop.self.shelf c.read_at.new.self (c.loop.invariant.reads, c.loop.invariant.faults)
    (record { all = c.read_at.ensures.same; clean = c.read_at.ensures.clean }, omega (arith, same)))

pub returns-clause-keeps : goal.returns-clause-keeps
returns-clause-keeps g c first kept = search (rules, arith, since_then)

pub returns-in-Err-clause-refused : goal.returns-in-Err-clause-refused
returns-in-Err-clause-refused g c first kept = search (rules, arith, refused_as)

-- what an `Ok` tells
if_ok : {T E : Type 0} (result : Result T E) (P : Type 0) → is_err result ≡ false → OnOk result P → P
if_ok (Ok x) P ok told = told
if_ok (Err e) P ok told = absurd (cc ok)

pub loop-preserved : goal.loop-preserved
loop-preserved g c =
    let number = c.args.number in
    let piece : List ℕ = take c.in-Ok.n c.read_at.new.buf in
    let ok : is_err c.extend.result ≡ false = sym c.is_err.ensures.value ∙ c.if-is_err.false in
    let added = if_ok c.extend.result _ ok c.extend.ensures.ok in
    let longer : c.len-begun.result ≤ length c.extend.new.self =
    omega (arith, c.loop.invariant.longer, ap length added, length-append c.loop.body piece) in
    record {
      begun_is = c.loop.invariant.begun_is;
      longer = longer;
      reads =
          reads_then g.S.Shelf.held g.S.Shelf.may_leave g.S.Shelf.IsClean c.args.self.now.shelf c.loop.self.shelf
          c.read_at.new.self c.loop.invariant.reads
          (record { all = c.read_at.ensures.same; clean = c.read_at.ensures.clean });
      faults = let same = c.in-Ok.ensures.faults in omega (arith, same, c.loop.invariant.faults);
      came =
          came_more (g.S.Shelf.held c.loop.self.shelf number) (g.S.Shelf.held c.read_at.new.self number)
          (g.S.Shelf.IsClean c.loop.self.shelf) (g.S.Shelf.IsClean c.read_at.new.self) c.args.body.now c.loop.body piece
          c.extend.new.self _ _ c.loop.invariant.came c.read_at.ensures.clean (c.read_at.ensures.same.each number).same
          (omega (arith, c.loop.invariant.begun_is, c.loop.invariant.longer, c.len.ensures)) c.in-Ok.ensures.read added;
    }
