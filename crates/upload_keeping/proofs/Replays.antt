-- The same entries, run again over the same bodies, come to the same.
use Rattle.std.proofs.Common.{◌≡◌, ◌≢◌, ◌∙◌, ◌≤◌, ℕ, max, List, [], ◌∷◌, ◌++◌, map, Option, Some, Result, Ok, refl}
use Rattle.std.proofs.Common.{sym, ap, subst}
use Rattle.std.proofs.Common.{arith, rules}
use Rattle.std.specs.List.{All}
use Rattle.std.proofs.lemmas.List.Elements.{All-head, All-tail}
use Rattle.upload_service.specs.declared.ask.Ask.{Ask}
use Rattle.upload_service.specs.declared.answer.Answer.{Answer}
use Rattle.upload_service.specs.declared.answer.Answer.TheVariants.{NoMemory}
use Rattle.upload_service.specs.Machine.{State}
use Rattle.upload_service.specs.Run.{Exchange, Run, NeverBefore}
use Rattle.upload_keeper.specs.Restarts.{asked_of, AreRemembered}
use Rattle.upload_keeper.proofs.Orders.{turns_same}
use Rattle.upload_journal.specs.declared.body.BodyFile.{BodyFile}
use Rattle.upload_journal.specs.declared.body.KeptBody.{KeptBody}
use Rattle.upload_journal.specs.declared.body.KeptBody.TheVariants.{Here, InFiles}
use Rattle.upload_journal.specs.declared.entries.KeptAsk.{KeptAsk}
use Rattle.upload_journal.specs.declared.entries.KeptExchange.{KeptExchange}
use Rattle.upload_journal.specs.declared.entries.Entry.{Entry}
use Rattle.upload_journal.specs.declared.entries.Entry.TheVariants.{Exchange as Kept, NumbersUpTo, MomentsUpTo}
use Rattle.upload_journal.specs.declared.entries.KeptAnswer.{KeptAnswer}
use Rattle.upload_journal.specs.declared.fault.EntryFault.{EntryFault}
use Rattle.upload_journal.specs.Entries.{IsEntry, entry_text}
use Rattle.upload_journal.specs.Replay.{Joins, IsBodyOf, IsAskOf, IsExchangeOf, Point, Applies, Replays, StandFor}
use Rattle.upload_journal.specs.Short.{told_of}
use Rattle.upload_journal.proofs.Texts.{entry_read}
use Rattle.upload_store.specs.Found.{entry_numbers, ask_numbers, body_numbers, numbers_of, read_numbers}
use Rattle.upload_store.specs.Runs.{stands_in}
use Rattle.upload_keeping.specs.Books.{moment_of}
use Rattle.upload_keeping.specs.Keeping.{promised}

-- ---- texts tell their entries

abbrev read : Entry → Result Entry EntryFault
read e = Ok e

ok_is : (x y : Entry) → read x ≡ read y → x ≡ y
ok_is x y e = cc

heads : (a b : List ℕ) (ps qs : List (List ℕ)) → a ∷ ps ≡ b ∷ qs → a ≡ b
heads a b ps qs e = cc

tails : (a b : List ℕ) (ps qs : List (List ℕ)) → a ∷ ps ≡ b ∷ qs → ps ≡ qs
tails a b ps qs e = cc

none_is : (a : List ℕ) (ps : List (List ℕ)) → [] ≡ a ∷ ps → ⊥
none_is a ps e = cc

pub same_entries : (es fs : List Entry) → All IsEntry es → All IsEntry fs → map entry_text es ≡ map entry_text fs → es
    ≡ fs
same_entries [] [] p q e = refl
same_entries [] (f ∷ fs) p q e = absurd (none_is (entry_text f) (map entry_text fs) e)
same_entries (e ∷ es) [] p q same = absurd (none_is (entry_text e) (map entry_text es) (sym same))
same_entries (e ∷ es) (f ∷ fs) p q same =
    grind (
      arith,
      heads (entry_text e) (entry_text f) (map entry_text es) (map entry_text fs) same,
      ok_is e f,
      entry_read e (All-head IsEntry e es p),
      All-head IsEntry e es p,
      entry_read f (All-head IsEntry f fs q),
      All-head IsEntry f fs q,
      All-tail IsEntry e es p,
      All-tail IsEntry f fs q,
      tails (entry_text e) (entry_text f) (map entry_text es) (map entry_text fs) same,
      same_entries es fs (All-tail IsEntry e es p) (All-tail IsEntry f fs q)
          (tails (entry_text e) (entry_text f) (map entry_text es) (map entry_text fs) same),
    )

-- ---- an entry stands for one request

module _ (files : ℕ → Option (List ℕ)) where
  abbrev Stands : ℕ → List ℕ → Type 0
  Stands = stands_in files

  some_is : (a b : List ℕ) (o : Option (List ℕ)) → o ≡ Some a → o ≡ Some b → a ≡ b
  some_is a b o p q = cc

  joins_same : (fs : List BodyFile) (a b : List ℕ) → Joins Stands fs a → Joins Stands fs b → a ≡ b
  joins_same [] a b p q = p ∙ sym q
  joins_same (file ∷ fs) a b p q = cc (some_is p.0 q.0 (files file.number) p.3 q.3, joins_same fs p.1 q.1 p.5 q.5)

  body_same : (body : KeptBody) (a b : List ℕ) → IsBodyOf Stands body a → IsBodyOf Stands body b → a ≡ b
  body_same (Here body) a b p q = p ∙ sym q
  body_same (InFiles fs) a b p q = joins_same fs a b p q

  ask_same : (kept : KeptAsk) (a b : Ask) → IsAskOf Stands kept a → IsAskOf Stands kept b → a ≡ b
  ask_same kept a b p q = search (rules, arith, body_same)

  pub asked_same : (entry : KeptExchange) (x y : Exchange) → IsExchangeOf Stands entry x → IsExchangeOf Stands entry y
      → asked_of x ≡ asked_of y
  asked_same entry x y p q = cc (ask_same entry.ask x.ask y.ask p.ask q.ask)

told_is : (answer : Answer) (told : KeptAnswer) → told_of answer ≡ Some told → answer ≢ NoMemory
told_is answer told e out = (let none : told_of NoMemory ≡ Some told = ap told_of (sym out) ∙ e in cc)

-- ---- entries lead to one point

module _ (files : ℕ → Option (List ℕ)) where
  applied_same : (old : Point) (e : Entry) (p q : Point) → Applies (stands_in files) old e p
      → Applies (stands_in files) old e q → p ≡ q
  applied_same old e p q a b = search (rules, arith, asked_same, turns_same, told_is)

  pub replays_same : (old : Point) (es : List Entry) (p q : Point) → Replays (stands_in files) old es p
      → Replays (stands_in files) old es q → p ≡ q
  replays_same old [] p q a b = a ∙ sym b
  replays_same old (e ∷ es) p q a b = search (rules, arith, applied_same, replays_same b.0 es p q)

  pub replays_split : (old : Point) (es fs : List Entry) (new : Point) → Replays (stands_in files) old (es ++ fs) new
      → (mid : Point) × Replays (stands_in files) old es mid × Replays (stands_in files) mid fs new
  replays_split old [] fs new r = (old, refl, r)
  replays_split old (e ∷ es) fs new r = search (rules, arith, replays_split r.0 es fs new r.2)

  pub replays_on : (old : Point) (es fs : List Entry) (mid new : Point) → Replays (stands_in files) old es mid
      → Replays (stands_in files) mid fs new → Replays (stands_in files) old (es ++ fs) new
  replays_on old [] fs mid new r t = subst (λ (p : Point). Replays (stands_in files) p fs new) r t
  replays_on old (e ∷ es) fs mid new r t = (r.0, r.1, replays_on r.0 es fs mid new r.2 t)

  -- a run, at moments that don't fall, is what the entries do that stand for it
  pub replays_there : (old : Point) (es : List Entry) (xs : List Exchange) (service : State)
      → StandFor (stands_in files) es xs → Run old.state xs service → NeverBefore old.last xs
      → (new : Point) × Replays (stands_in files) old es new
  replays_there old [] xs service stand run before = (old, refl)
  replays_there old (Kept e ∷ es) [] service stand run before = absurd stand
  replays_there old (Kept e ∷ es) (x ∷ xs) service stand run before =
      let mid : Point = record { state = run.0; last = x.now; upto = old.upto } in
      let rest = replays_there mid es xs service stand.1 run.2 before.1 in (
        rest.0,
        (mid, (x, stand.0, record { turn = run.1; later = before.0; last = refl; upto = refl }), rest.1),
      )
  replays_there old (NumbersUpTo n ∷ es) xs service stand run before = absurd stand
  replays_there old (MomentsUpTo m ∷ es) xs service stand run before =
      let mid : Point = record old { upto = max old.upto m } in
      let rest = replays_there mid es xs service stand run before in (rest.0, (mid, refl, rest.1))

  -- what entries that stand for these exchanges do, run again: the same requests, with the same answers in short
  pub record Again (old : Point) (es : List Entry) (ys : List Exchange) (new : Point) : Type 0 where
    pub exchanges : List Exchange
    pub run : Run old.state exchanges new.state
    pub same : map asked_of exchanges ≡ map asked_of ys
    pub remembered : AreRemembered exchanges
    pub later : moment_of old ≤ moment_of new
    pub promised : promised es ≤ moment_of new

  pub runs_again : (old : Point) (es : List Entry) (ys : List Exchange) (new : Point)
      → Replays (stands_in files) old es new → StandFor (stands_in files) es ys → Again old es ys new
  runs_again old [] ys new r stand = search (rules, arith)
  runs_again old (Kept e ∷ es) [] new r stand = absurd stand
  runs_again old (Kept e ∷ es) (y ∷ ys) new r stand =
      let rest = runs_again r.0 es ys new r.2 stand.1 in
      let x = r.1.0 in
      let done = r.1.2 in
      let first : asked_of x ≡ asked_of y = asked_same files e x y r.1.1 stand.0 in
      let a : r.0.last ≡ x.now = done.last in
      let b : r.0.upto ≡ old.upto = done.upto in
      let c : old.last ≤ x.now = done.later in
      record {
        exchanges = x ∷ rest.exchanges;
        run = (r.0.state, done.turn, rest.run);
        same = λ i. first i ∷ rest.same i;
        remembered = (told_is x.answer e.answer r.1.1.answer, rest.remembered);
        later = omega (arith, rest.later);
        promised = rest.promised;
      }
  runs_again old (NumbersUpTo n ∷ es) ys new r stand = absurd stand
  runs_again old (MomentsUpTo m ∷ es) ys new r stand =
      let raised : Point = record old { upto = max old.upto m } in
      let rest = runs_again raised es ys new (subst (λ (p : Point). Replays (stands_in files) p es new) r.1 r.2) stand
      in
      record {
        exchanges = rest.exchanges;
        run = rest.run;
        same = rest.same;
        remembered = rest.remembered;
        later = omega (arith, rest.later);
        promised = omega (arith, rest.later, rest.promised);
      }

-- ---- bodies that are safe are read the same

module _ (Has : ℕ → Type 0) (held files : ℕ → Option (List ℕ))
    (still : (n : ℕ) → Has n → (bytes : List ℕ) → held n ≡ Some bytes → files n ≡ Some bytes) where
  joins_moved : (fs : List BodyFile) (bytes : List ℕ) → All Has (map (λ (file : BodyFile). file.number) fs)
      → Joins (stands_in held) fs bytes → Joins (stands_in files) fs bytes
  joins_moved [] bytes has joins = joins
  joins_moved (file ∷ fs) bytes has joins = search (rules, arith, All-head, All-tail, joins_moved fs joins.1)

  body_moved : (body : KeptBody) (bytes : List ℕ) → All Has (body_numbers body) → IsBodyOf (stands_in held) body bytes
      → IsBodyOf (stands_in files) body bytes
  body_moved (Here body) bytes has is = is
  body_moved (InFiles fs) bytes has joins = joins_moved fs bytes has joins

  ask_moved : (kept : KeptAsk) (ask : Ask) → All Has (ask_numbers kept) → IsAskOf (stands_in held) kept ask
      → IsAskOf (stands_in files) kept ask
  ask_moved kept ask has is = search (rules, arith, body_moved)

  applied_moved : (old : Point) (e : Entry) (new : Point) → All Has (entry_numbers e)
      → Applies (stands_in held) old e new → Applies (stands_in files) old e new
  applied_moved old e new has a = search (rules, arith, ask_moved)

  pub replays_moved : (old : Point) (es : List Entry) (new : Point) → All IsEntry es
      → All (λ text. All Has (numbers_of text)) (map entry_text es) → Replays (stands_in held) old es new
      → Replays (stands_in files) old es new
  replays_moved old [] new are has r = r
  replays_moved old (e ∷ es) new are has r =
      let IsSafeText : List ℕ → Type 0 = λ text. All Has (numbers_of text) in
      let first : All Has (numbers_of (entry_text e)) = All-head IsSafeText (entry_text e) (map entry_text es) has in
      let numbers : numbers_of (entry_text e) ≡ entry_numbers e =
      ap read_numbers (entry_read e (All-head IsEntry e es are)) in (
        r.0,
        applied_moved old e r.0 (subst (All Has) numbers first) r.1,
        replays_moved r.0 es new (All-tail IsEntry e es are)
            (All-tail IsSafeText (entry_text e) (map entry_text es) has) r.2,
      )
