-- What a run over the records of batches comes to.
use Rattle.std.proofs.Common.{◌≡◌, ◌∙◌, ℕ, List, [], ◌∷◌, ◌++◌, Ok, Err, Result, true, false, ap, sym, refl, subst, IsTrue}
use Rattle.std.specs.Prelude.{is_ok}
use Rattle.std.specs.List.{All, fold}
use Rattle.std.proofs.lemmas.List.Elements.{All-append, All-cons, All-nil, All-weaker}
use Rattle.std.proofs.lemmas.List.Sums.{fold-append}
use Rattle.journal.specs.Format.{Kept}
use Rattle.journal.specs.Machine.{Runs, RunsRecords}
use Rattle.upload_journal.specs.declared.entries.Entry.{Entry}
use Rattle.upload_journal.specs.declared.fault.EntryFault.{EntryFault}
use Rattle.upload_journal.specs.Entries.{entry_of}
use Rattle.upload_store.specs.Found.{numbers_of, entry_numbers, read_numbers, texts_of}
use Rattle.upload_service.specs.declared.limits.Limits.{Limits}
use Rattle.upload_records.specs.Census.{after_record, census_of, nothing}
use Rattle.upload_records.specs.Counted.{Counted, limits_of, tables_of}
use Rattle.upload_records.specs.Names.{Has, Notes, IsEntryText, are_entries}
use Rattle.upload_records.specs.declared.census.Census.{Census}
use Rattle.upload_records.specs.declared.named.Named.{Named}

-- ---- a census

abbrev counts : Census → ℕ → List ℕ → Census → Type 0
counts old time text new = Counted old text new

-- these records were noted
record Sums (old : Census) (texts : List (List ℕ)) (new : Census) : Type 0 where
  tables : tables_of new ≡ fold (after_record (limits_of old)) (tables_of old) texts
  limits : limits_of new ≡ limits_of old

sums_then : (old mid new : Census) (xs ys : List (List ℕ)) → Sums old xs mid → Sums mid ys new → Sums old (xs ++ ys) new
sums_then old mid new xs ys first second = record {
  tables =
      second.tables ∙ ap (λ l. fold (after_record l) (tables_of mid) ys) first.limits
      ∙ ap (λ t. fold (after_record (limits_of old)) t ys) first.tables
      ∙ sym (fold-append (after_record (limits_of old)) (tables_of old) xs ys);
  limits = second.limits ∙ first.limits;
}

counted_records : (time : ℕ) (old : Census) (texts : List (List ℕ)) (new : Census)
    → RunsRecords counts time old texts new → Sums old texts new
counted_records time old [] new same = record { tables = ap tables_of same; limits = ap limits_of same }
counted_records time old (text ∷ rest) new run =
    let one : Sums old (text ∷ []) run.0 = record { tables = run.1.tables; limits = run.1.limits } in
    sums_then old run.0 new (text ∷ []) rest one (counted_records time run.0 rest new run.2)

counted_batches : (old : Census) (all : List Kept) (new : Census) → Runs counts old all new → Sums old (texts_of all) new
counted_batches old [] new same = record { tables = ap tables_of same; limits = ap limits_of same }
counted_batches old (kept ∷ all) new run =
    sums_then old run.0 new kept.1 (texts_of all) (counted_records kept.0 old kept.1 run.0 run.1)
    (counted_batches run.0 all new run.2)

pub census_is : (limits : Limits) (old : Census) (all : List Kept) (new : Census) → tables_of old ≡ nothing
    → limits_of old ≡ limits → Runs counts old all new → tables_of new ≡ census_of limits all
census_is limits old all new none same run =
    (counted_batches old all new run).tables ∙ ap (λ l. fold (after_record l) (tables_of old) (texts_of all)) same
    ∙ ap (λ t. fold (after_record limits) t (texts_of all)) none

-- ---- numbers that are named

abbrev NamedIn : Named → List ℕ → Type 0
NamedIn it text = All (Has it) (numbers_of text)

pub noted_entry : (old new : Named) (text : List ℕ) (entry : Entry) → entry_of text ≡ Ok entry
    → ((n : ℕ) → Has old n → Has new n) → All (Has new) (entry_numbers entry) → are_entries new ≡ are_entries old
    → Notes old (text ∷ []) new
noted_entry old new text entry is more named same = record {
  more = more;
  named =
      All-cons (NamedIn new) text []
      (subst (λ (r : Result Entry EntryFault). All (Has new) (read_numbers r)) (sym is) named) (All-nil (NamedIn new));
  entries = λ all. (sym same ∙ all, All-cons IsEntryText text [] (ap is_ok is) (All-nil IsEntryText));
}

pub noted_fault : (old new : Named) (text : List ℕ) (fault : EntryFault) → entry_of text ≡ Err fault
    → ((n : ℕ) → Has old n → Has new n) → are_entries new ≡ false → Notes old (text ∷ []) new
noted_fault old new text fault is more none = record {
  more = more;
  named =
      All-cons (NamedIn new) text []
      (subst (λ (r : Result Entry EntryFault). All (Has new) (read_numbers r)) (sym is) (All-nil (Has new)))
      (All-nil (NamedIn new));
  entries = λ all. absurd (cc (all, none));
}

abbrev notes : Named → ℕ → List ℕ → Named → Type 0
notes old time text new = Notes old (text ∷ []) new

notes_then : (old mid new : Named) (xs ys : List (List ℕ)) → Notes old xs mid → Notes mid ys new → Notes old (xs ++ ys) new
notes_then old mid new xs ys first second = record {
  more = λ n has. second.more n (first.more n has);
  named =
      All-append (NamedIn new) xs ys
      (All-weaker (NamedIn mid) (NamedIn new)
      (λ text named. All-weaker (Has mid) (Has new) second.more (numbers_of text) named) xs first.named) second.named;
  entries = λ all.
      let later = second.entries all in
      let sooner = first.entries later.0 in
      (sooner.0, All-append IsEntryText xs ys sooner.1 later.1);
}

notes_none : (it : Named) → Notes it [] it
notes_none it = record {
  more = λ n has. has;
  named = All-nil (NamedIn it);
  entries = λ all. (all, All-nil IsEntryText);
}

noted_records : (time : ℕ) (old : Named) (texts : List (List ℕ)) (new : Named)
    → RunsRecords notes time old texts new → Notes old texts new
noted_records time old [] new same = subst (λ (it : Named). Notes old [] it) (sym same) (notes_none old)
noted_records time old (text ∷ rest) new run =
    notes_then old run.0 new (text ∷ []) rest run.1 (noted_records time run.0 rest new run.2)

pub noted : (old : Named) (all : List Kept) (new : Named) → Runs notes old all new → Notes old (texts_of all) new
noted old [] new same = subst (λ (it : Named). Notes old [] it) (sym same) (notes_none old)
noted old (kept ∷ all) new run =
    notes_then old run.0 new kept.1 (texts_of all) (noted_records kept.0 old kept.1 run.0 run.1) (noted run.0 all new run.2)
