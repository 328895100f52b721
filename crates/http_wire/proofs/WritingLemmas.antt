-- Writes one after another.
use Rattle.std.proofs.Common.{◌≡◌, ℕ, zero, suc, ◌+◌, ◌-◌, ◌<◌, List, [], ◌∷◌, ◌++◌, length, take, drop, get_or, sym}
use Rattle.std.proofs.Common.{ap, ◌∙◌, append_assoc, arith, length-drop, rules}
use Rattle.std.specs.Prelude.{Option, Some, None, Result, Ok, Err, ⊤}
use Rattle.std.specs.List.{concat}
use Rattle.std.proofs.lemmas.List.{append-nil, take_all}
use Rattle.std.proofs.Math.Seq.{take-add}
use Rattle.std.specs.Io.KnownBytes.{Appends, Keeps}
use Rattle.http_wire.specs.declared.writing.WriteFault.{WriteFault}
use Rattle.http_wire.specs.States.{SinkState}
use Rattle.http_wire.specs.Writing.{Takes, TookAll, TookFront, Wrote}

pub appends_none : (known : Option (List ℕ)) → Appends known known []
appends_none None = tt
appends_none (Some xs) = sym (append-nil xs)

pub appends_both : (a b c : Option (List ℕ)) (xs ys : List ℕ) → Appends a b xs → Appends b c ys → Appends a c (xs ++ ys)
appends_both None b c xs ys h k = tt
appends_both (Some s) None c xs ys h k = absurd h
appends_both (Some s) (Some t) None xs ys h k = absurd k
appends_both (Some s) (Some t) (Some u) xs ys h k = k ∙ ap (λ r. r ++ ys) h ∙ append_assoc s xs ys

pub appends_kept : (a b c : Option (List ℕ)) (xs : List ℕ) → Appends a b xs → Keeps b c → Appends a c xs
appends_kept None b c xs h k = tt
appends_kept (Some s) None c xs h k = absurd h
appends_kept (Some s) (Some t) None xs h k = absurd k
appends_kept (Some s) (Some t) (Some u) xs h k = k ∙ h

pub takes_none : (known : SinkState) → Takes known known []
takes_none known = record { told = sym (append-nil known.taken); grown = appends_none known.contents }

pub takes_both : (a b c : SinkState) (xs ys : List ℕ) → Takes a b xs → Takes b c ys → Takes a c (xs ++ ys)
takes_both a b c xs ys h k = search (rules, arith, append_assoc, appends_both)

-- a call that took nothing
pub takes_kept : (a b c : SinkState) (xs : List ℕ) → Takes a b xs → c.taken ≡ b.taken
    → Keeps b.contents c.contents → Takes a c xs
takes_kept a b c xs h told kept = search (rules, arith, appends_kept)

-- the prefix that one more write makes
pub taken_more : (xs : List ℕ) (i n : ℕ) → take (i + n) xs ≡ take i xs ++ take n (take (length xs - i) (drop i xs))
taken_more xs i n =
    cc (take-add i n xs, take_all (length xs - i) (drop i xs) (omega (arith, length-drop i xs)), length-drop i xs)

pub took_both : (a b c : SinkState) (text bytes : List ℕ) → TookAll a b text → TookAll b c bytes
    → TookAll a c (text ++ bytes)
took_both a b c text bytes h k = search (rules, arith, takes_both)

pub took_more : (a b c : SinkState) (text bytes : List ℕ) → TookAll a b text → TookFront b c bytes
    → TookFront a c (text ++ bytes)
took_more a b c text bytes h k = search (rules, arith, append_assoc, takes_both)

pub wrote_more : (a b c : SinkState) (text bytes : List ℕ) (r : Result ⊤ WriteFault) → TookAll a b text
    → Wrote b c bytes r → Wrote a c (text ++ bytes) r
wrote_more a b c text bytes (Ok u) h k = took_both a b c text bytes h k
wrote_more a b c text bytes (Err e) h k = took_more a b c text bytes h k

-- the next part comes behind those that were taken
pub concat-take_next : (xs : List (List ℕ)) (i : ℕ) (d : List ℕ) → i < length xs
    → concat (take (i + 1) xs) ≡ concat (take i xs) ++ get_or xs i d
concat-take_next [] i d lt = absurd (omega arith)
concat-take_next (x ∷ xs) zero d lt = append-nil x
concat-take_next (x ∷ xs) (suc i) d lt = search (rules, arith, append_assoc, concat-take_next xs i d (omega arith))
