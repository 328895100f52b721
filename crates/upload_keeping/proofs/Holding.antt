-- What records hold, added up.
use Rattle.std.proofs.lemmas.Grind.{common_steps}
use Rattle.std.proofs.Common.{◌≡◌, ℕ, ◌≤◌, ◌<◌, ◌^◌, max, List, [], ◌∷◌, ◌++◌, refl, sym, ap, subst, rules}
use Rattle.std.proofs.Common.{arith, append_assoc, append-nil, inl, inr}
use Rattle.std.proofs.lemmas.List.{map-append}
use Rattle.std.proofs.lemmas.List.Elements.{All-cons, All-nil, All-append}
use Rattle.upload_service.specs.Run.{Exchange}
use Rattle.upload_service.specs.declared.ask.Ask.{Ask}
use Rattle.upload_journal.specs.declared.body.BodyFile.{BodyFile}
use Rattle.upload_journal.specs.declared.body.KeptBody.{KeptBody}
use Rattle.upload_journal.specs.declared.body.KeptBody.TheVariants.{Here, InFiles}
use Rattle.upload_journal.specs.declared.entries.KeptAsk.{KeptAsk}
use Rattle.upload_journal.specs.declared.entries.KeptExchange.{KeptExchange}
use Rattle.upload_journal.specs.declared.entries.Entry.{Entry}
use Rattle.upload_journal.specs.declared.entries.Entry.TheVariants.{Exchange as Kept, NumbersUpTo, MomentsUpTo}
use Rattle.upload_journal.specs.Entries.{IsEntry, entry_text}
use Rattle.upload_journal.specs.Replay.{StandFor, IsExchangeOf, IsAskOf, IsBodyOf, Joins}
use Rattle.upload_keeping.specs.Keeping.{promised, Records, Holds, Promises}

more_front : (es fs : List Entry) → promised es ≤ promised (es ++ fs)
more_front [] fs = omega arith
more_front (Kept e ∷ es) fs = more_front es fs
more_front (NumbersUpTo n ∷ es) fs = more_front es fs
more_front (MomentsUpTo m ∷ es) fs = omega (arith, more_front es fs)

more_back : (es fs : List Entry) → promised fs ≤ promised (es ++ fs)
more_back [] fs = omega arith
more_back (Kept e ∷ es) fs = more_back es fs
more_back (NumbersUpTo n ∷ es) fs = more_back es fs
more_back (MomentsUpTo m ∷ es) fs = omega (arith, more_back es fs)

pub lower : (stands : ℕ → List ℕ → Type 0) (first : List (List ℕ)) (since : ℕ) (xs : List Exchange) (upto less : ℕ)
    (texts : List (List ℕ)) → less ≤ upto → Holds stands first since xs upto texts
    → Holds stands first since xs less texts
lower stands first since xs upto less texts le is = search (rules, arith)

module _ (stands : ℕ → List ℕ → Type 0) where
  stand_then : (es : List Entry) (xs : List Exchange) (fs : List Entry) (ys : List Exchange) → StandFor stands es xs
      → StandFor stands fs ys → StandFor stands (es ++ fs) (xs ++ ys)
  stand_then [] xs fs ys none more = subst (λ (zs : List Exchange). StandFor stands fs (zs ++ ys)) (sym none) more
  stand_then (Kept e ∷ es) [] fs ys front more = absurd front
  stand_then (Kept e ∷ es) (x ∷ xs) fs ys front more = (front.0, stand_then es xs fs ys front.1 more)
  stand_then (NumbersUpTo n ∷ es) xs fs ys front more = absurd front
  stand_then (MomentsUpTo m ∷ es) xs fs ys front more = stand_then es xs fs ys front more

  pub holds_then : (first : List (List ℕ)) (since : ℕ) (xs : List Exchange) (upto : ℕ) (texts : List (List ℕ))
      (ys : List Exchange) (m : ℕ) (more : List (List ℕ)) → Holds stands first since xs upto texts
      → Holds stands [] 0 ys m more → Holds stands first since (xs ++ ys) (max upto m) (texts ++ more)
  holds_then first since xs upto texts ys m more old new =
      grind (arith, common_steps, All-append, append_assoc, map-append, stand_then, more_front, more_back)

  holds_entry : (text : List ℕ) (x : Exchange) → Records stands text x → Holds stands [] 0 (x ∷ []) 0 (text ∷ [])
  holds_entry text x is = record {
    entries = Kept is.entry ∷ [];
    are_entries = All-cons IsEntry (Kept is.entry) [] is.is_entry (All-nil IsEntry);
    texts_are = ap (λ l. l ∷ []) is.text_is;
    stand_for = (is.is, refl);
    moments = omega arith;
  }

  holds_moment : (m : ℕ) → m < 2 ^ 64 → Holds stands [] 0 [] m (entry_text (MomentsUpTo m) ∷ [])
  holds_moment m small = record {
    entries = MomentsUpTo m ∷ [];
    are_entries = All-cons IsEntry (MomentsUpTo m) [] small (All-nil IsEntry);
    texts_are = refl;
    stand_for = refl;
    moments = omega arith;
  }

  pub holds_none : Holds stands [] 0 [] 0 []
  holds_none = record {
    entries = [];
    are_entries = All-nil IsEntry;
    texts_are = refl;
    stand_for = refl;
    moments = omega arith;
  }

  -- one entry more waits
  pub one_more : (xs : List Exchange) (texts : List (List ℕ)) (text : List ℕ) (x : Exchange) (all : List (List ℕ))
      → Holds stands [] 0 xs 0 texts → Records stands text x → all ≡ texts ++ text ∷ []
      → Holds stands [] 0 (xs ++ x ∷ []) 0 all
  one_more xs texts text x all old new is =
      subst (λ (l : List (List ℕ)). Holds stands [] 0 (xs ++ x ∷ []) 0 l) (sym is)
      (holds_then [] 0 xs 0 texts (x ∷ []) 0 (text ∷ []) old (holds_entry text x new))

  -- and a promise, if there is one
  pub record Promised (clean : Type 0) (upto next : ℕ) (xs : List Exchange) (texts : List (List ℕ)) : Type 0 where
    pub more : ℕ
    pub reaches : next ≤ max upto more
    pub holds : clean → Holds stands [] 0 xs more texts

  pub promise_more : (clean : Type 0) (upto next : ℕ) (xs : List Exchange) (old new : List (List ℕ))
      → Promises upto next old new → (clean → Holds stands [] 0 xs 0 old) → Promised clean upto next xs new
  promise_more clean upto next xs old new (inl same) is = search (rules, arith)
  promise_more clean upto next xs old new (inr one) is =
      let text = entry_text (MomentsUpTo next) in
      record {
        more = next;
        reaches = omega arith;
        holds = λ c.
            subst (λ (l : List (List ℕ)). Holds stands [] 0 xs next l) (sym one.1)
            (lower stands [] 0 xs (max 0 next) next (old ++ text ∷ []) (omega arith)
            (subst (λ (l : List Exchange). Holds stands [] 0 l (max 0 next) (old ++ text ∷ [])) (append-nil xs)
            (holds_then [] 0 xs 0 old [] next (text ∷ []) (is c) (holds_moment next one.0))));
      }

-- ---- what stands still does

module _ (old new : ℕ → List ℕ → Type 0) (keeps : (n : ℕ) (bytes : List ℕ) → old n bytes → new n bytes) where
  joins_still : (files : List BodyFile) (bytes : List ℕ) → Joins old files bytes → Joins new files bytes
  joins_still [] bytes is = is
  joins_still (file ∷ files) bytes is = search (rules, arith, joins_still files is.1 is.5)

  body_still : (body : KeptBody) (bytes : List ℕ) → IsBodyOf old body bytes → IsBodyOf new body bytes
  body_still (Here body) bytes is = is
  body_still (InFiles files) bytes joins = joins_still files bytes joins

  ask_still : (kept : KeptAsk) (ask : Ask) → IsAskOf old kept ask → IsAskOf new kept ask
  ask_still kept ask is = search (rules, arith, body_still)

  exchange_still : (entry : KeptExchange) (x : Exchange) → IsExchangeOf old entry x → IsExchangeOf new entry x
  exchange_still entry x is = search (rules, arith, ask_still)

  stand_still : (es : List Entry) (xs : List Exchange) → StandFor old es xs → StandFor new es xs
  stand_still [] xs is = is
  stand_still (Kept e ∷ es) [] is = absurd is
  stand_still (Kept e ∷ es) (x ∷ xs) is = (exchange_still e x is.0, stand_still es xs is.1)
  stand_still (NumbersUpTo n ∷ es) xs is = absurd is
  stand_still (MomentsUpTo m ∷ es) xs is = stand_still es xs is

  pub holds_still : (first : List (List ℕ)) (since : ℕ) (xs : List Exchange) (upto : ℕ) (texts : List (List ℕ))
      → Holds old first since xs upto texts → Holds new first since xs upto texts
  holds_still first since xs upto texts is = search (rules, arith, stand_still)
