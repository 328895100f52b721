-- What a replay does is a run.
use Rattle.std.proofs.Common.{◌≡◌, ℕ, zero, suc, ◌+◌, ◌<◌, ◌≤◌, List, [], ◌∷◌, ◌++◌, length, take, get_or, rules}
use Rattle.std.proofs.Common.{refl, sym, ap, subst, ◌∙◌, arith, append_assoc}
use Rattle.std.specs.Prelude.{max}
use Rattle.std.proofs.lemmas.List.{append-nil}
use Rattle.upload_service.specs.Machine.{State, IsLawful}
use Rattle.upload_service.specs.Run.{Exchange, Run, NeverBefore}
use Rattle.upload_service.proofs.Whole.{headline_holds}
use Rattle.upload_journal.specs.declared.body.BodyFile.{BodyFile}
use Rattle.upload_journal.specs.declared.entries.Entry.{Entry}
use Rattle.upload_journal.specs.declared.entries.Entry.TheVariants.{Exchange as Kept, NumbersUpTo, MomentsUpTo}
use Rattle.upload_journal.specs.Restart.{NeverAfter}
use Rattle.upload_journal.specs.Replay.{Joins, Point, used_up, Replays, StandFor, UsesNoneUp, IsRunOf}
use Rattle.upload_journal.proofs.Restart.{earlier}

-- ---- files of a body

-- what stands, stands there still
abbrev pub Keeps : (ℕ → List ℕ → Type 0) → (ℕ → List ℕ → Type 0) → Type 0
Keeps old new = (n : ℕ) (bytes : List ℕ) → old n bytes → new n bytes

-- what the old one kept, the new one keeps
abbrev pub KeepsMore : {B : Type 0} → (B → B → Type 0) → B → B → Type 0
KeepsMore {B} keeps old new = (first : B) → keeps first old → keeps first new

pub joins_still : (old new : ℕ → List ℕ → Type 0) (files : List BodyFile) (bytes : List ℕ) → Keeps old new
    → Joins old files bytes → Joins new files bytes
joins_still old new [] bytes keeps joins = joins
joins_still old new (file ∷ files) bytes keeps joins =
    search (rules, arith, joins_still old new files joins.1 keeps joins.5)

pub joins_next : (stands : ℕ → List ℕ → Type 0) (files : List BodyFile) (i : ℕ) (d : BodyFile) (bytes part : List ℕ)
    → i < length files → Joins stands (take i files) bytes → stands (get_or files i d).number part
    → length part ≡ (get_or files i d).len → Joins stands (take (i + 1) files) (bytes ++ part)
joins_next stands [] i d bytes part lt joins is len = absurd (omega arith)
joins_next stands (file ∷ files) zero d bytes part lt joins is len = search (rules, arith, append-nil)
joins_next stands (file ∷ files) (suc i) d bytes part lt joins is len =
    let e : suc (i + 1) ≡ suc i + 1 = omega arith in
    let rest = joins_next stands files i d joins.1 part (omega arith) joins.5 is len in
    let whole : Joins stands (take (suc (i + 1)) (file ∷ files)) (bytes ++ part) = (
      joins.0,
      joins.1 ++ part,
      ap (λ (b : List ℕ). b ++ part) joins.2 ∙ append_assoc joins.0 joins.1 part,
      joins.3,
      joins.4,
      rest,
    ) in
    subst (λ n. Joins stands (take n (file ∷ files)) (bytes ++ part)) e whole

-- one file has it all
pub joins_one : (stands : ℕ → List ℕ → Type 0) (files : List BodyFile) (d : BodyFile) (bytes : List ℕ)
    → length files ≡ 1 → stands (get_or files 0 d).number bytes → length bytes ≡ (get_or files 0 d).len
    → Joins stands files bytes
joins_one stands [] d bytes one is len = absurd (omega arith)
joins_one stands (file ∷ []) d bytes one is len = (bytes, [], sym (append-nil bytes), is, len, refl)
joins_one stands (file ∷ other ∷ files) d bytes one is len = absurd (omega arith)

-- ---- entries

record Core (stands : ℕ → List ℕ → Type 0) (old : Point) (entries : List Entry) (new : Point) : Type 0 where
  pub exchanges : List Exchange
  pub stand_for : StandFor stands entries exchanges
  pub run : Run old.state exchanges new.state
  pub never_before : NeverBefore old.last exchanges
  pub never_after : NeverAfter new.last exchanges
  pub last : old.last ≤ new.last
  pub upto : old.upto ≤ new.upto

core : (stands : ℕ → List ℕ → Type 0) (old : Point) (entries : List Entry) (new : Point) → UsesNoneUp entries
    → Replays stands old entries new → Core stands old entries new
core stands old [] new none e = search (rules, arith)
core stands old (Kept entry ∷ entries) new none r =
    let x = r.1.0 in
    let done = r.1.2 in
    let rest = core stands r.0 entries new none r.2 in
    let at : r.0.last ≡ x.now = done.last in
    let same : r.0.upto ≡ old.upto = done.upto in
    let later : old.last ≤ x.now = done.later in
    let last : r.0.last ≤ new.last = rest.last in
    let upto : r.0.upto ≤ new.upto = rest.upto in
    record {
      exchanges = x ∷ rest.exchanges;
      stand_for = (r.1.1, rest.stand_for);
      run = (r.0.state, done.turn, rest.run);
      never_before = (later, subst (λ m. NeverBefore m rest.exchanges) at rest.never_before);
      never_after = (omega arith, rest.never_after);
      last = omega arith;
      upto = omega arith;
    }
core stands old (NumbersUpTo n ∷ entries) new none r = absurd none
core stands old (MomentsUpTo m ∷ entries) new none r =
    let raised : Point = record old { upto = max old.upto m } in
    let rest = core stands raised entries new none (subst (λ p. Replays stands p entries new) r.1 r.2) in
    let more : max old.upto m ≤ new.upto = rest.upto in
    record {
      exchanges = rest.exchanges;
      stand_for = rest.stand_for;
      run = rest.run;
      never_before = rest.never_before;
      never_after = rest.never_after;
      last = rest.last;
      upto = omega arith;
    }

pub is_run : (stands : ℕ → List ℕ → Type 0) (old : Point) (entries : List Entry) (new : Point)
    → IsLawful old.state → UsesNoneUp entries → Replays stands old entries new → IsRunOf stands old entries new
is_run stands old entries new lawful none r =
    let c = core stands old entries new none r in
    record {
      exchanges = c.exchanges;
      stand_for = c.stand_for;
      run = c.run;
      never_before = c.never_before;
      headline =
          headline_holds old.state c.exchanges new.state lawful
          (earlier 0 old.last c.exchanges (omega arith) c.never_before) c.run;
      never_after = c.never_after;
      upto = c.upto;
    }

pub lawful_used : (n : ℕ) (s : State) → IsLawful s → IsLawful (used_up n s)
lawful_used n s lawful = search (rules, arith)
