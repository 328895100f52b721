-- Bodies that are put on a shelf, one behind another, and what no crash takes then.
use Rattle.std.proofs.Common.{◌≡◌, ◌⊎◌, ◌∙◌, ℕ, List, Option, Ok, Err, IsTrue, inl, inr, sym, subst}
use Rattle.std.specs.List.{All}
use Rattle.std.proofs.lemmas.List.Elements.{All-weaker}
use Rattle.sqlite_disk.specs.declared.Disk.{Ghosts}
use Rattle.journal.specs.Journal as journals
use Rattle.journal.specs.declared.journal.Journal.{Journal}
use Rattle.bodies.specs.declared.shelf.Shelf as shelves
use Rattle.upload_journal.specs.declared.body.BodyFile.{BodyFile}
use Rattle.upload_store.specs.declared.fault.StoreFault.{StoreFault}
use Rattle.upload_store.specs.declared.store.Store.{Store}
use Rattle.upload_store.specs.Found.{numbers_of}
use Rattle.upload_store.specs.Reading.{ReadsOnly}
use Rattle.upload_store.specs.Safe.{IsSafe, HasSafe, AreSafe}
use Rattle.upload_store.specs.Store.{IsClean, journal_of, shelf_of}
use Rattle.upload_compact.specs.Numbers.{Has}
use Rattle.upload_compact.specs.Copies.{AreSafeNumbers, KeepsSafe, Puts, Copies}
use Rattle.upload_compact.specs.declared.numbers.Numbers.{Numbers}

module _ {S : Type 0} (held : S → ℕ → Option (List ℕ)) (may_leave : S → ℕ → Option (List ℕ) → Type 0) where
  -- a shelf that was only read
  pub reads_keep : (IsClean : S → Type 0) (old new : S) → ReadsOnly held may_leave IsClean old new
      → KeepsSafe held may_leave old new
  reads_keep IsClean old new reads n bytes safe = record {
    there = (reads.all.each n).same ∙ safe.there;
    stored = λ left may. safe.stored left ((reads.all.each n).left left may);
  }

  pub numbers_keep : (old new : S) (numbers : Numbers) → KeepsSafe held may_leave old new
      → AreSafeNumbers held may_leave old numbers → AreSafeNumbers held may_leave new numbers
  numbers_keep old new numbers keeps safe n has = let was = safe n has in (was.0, keeps n was.0 was.1)

  pub texts_safe : (shelf : S) (numbers : Numbers) (texts : List (List ℕ))
      → All (λ text. All (Has numbers) (numbers_of text)) texts → AreSafeNumbers held may_leave shelf numbers
      → AreSafe held may_leave shelf texts
  texts_safe shelf numbers texts named safe =
      All-weaker _ _
      (λ text has. All-weaker (Has numbers) (HasSafe held may_leave shelf) safe (numbers_of text) has) texts named

module _ {D S F : Type 0} {g : Ghosts D} {s : shelves.Ghosts S F} {f : Ghosts F} where
  pub copies_then : (old mid new : Store D S F g s f) (before between after : Numbers) → Copies old mid before between
      → Copies mid new between after → Copies old new before after
  copies_then old mid new before between after p q = record {
    journal = q.journal ∙ p.journal;
    clean = λ clean. p.clean (q.clean clean);
    still = λ clean n bytes safe. q.still clean n bytes (p.still (q.clean clean) n bytes safe);
    safe = λ clean was. q.safe clean (p.safe (q.clean clean) was);
  }

  -- a body was put there, and its number may have been noted
  pub copies_put : (old new : Store D S F g s f) (file : BodyFile) (before after : Numbers) → Puts old new (Ok file)
      → ((n : ℕ) → Has after n → Has before n ⊎ (n ≡ file.number)) → Copies old new before after
  copies_put old new file before after puts only = record {
    journal = puts.journal;
    clean = puts.clean;
    still = puts.still;
    safe = λ clean was n has. elim (only n has) [
      | inl had ↦ (let it = was n had in (it.0, puts.still clean n it.0 it.1))
      | inr is ↦ subst (HasSafe s.held s.may_leave (shelf_of new)) (sym is) puts.put
    ];
  }

  pub copies_failed : (old new : Store D S F g s f) (fault : StoreFault) (numbers : Numbers) → Puts old new (Err fault)
      → Copies old new numbers numbers
  copies_failed old new fault numbers puts = record {
    journal = puts.journal;
    clean = puts.clean;
    still = puts.still;
    safe = λ clean was n has. let it = was n has in (it.0, puts.still clean n it.0 it.1);
  }

  -- Behind that the store is taken apart, and its shelf is read.
  pub parted_clean : (old new : Store D S F g s f) (before after : Numbers) (journal : Journal D g) (parted last : S)
      → Copies old new before after → journal ≡ journal_of new → parted ≡ shelf_of new
      → ReadsOnly s.held s.may_leave s.IsClean parted last → IsTrue (g.is_clean (journals.disk_of journal))
      → s.IsClean last → IsClean new
  parted_clean old new before after journal parted last copies journal_is shelf_is reads disk shelf = record {
    disk = subst (λ (j : Journal D g). IsTrue (g.is_clean (journals.disk_of j))) journal_is disk;
    shelf = subst s.IsClean shelf_is (reads.clean shelf);
  }

  pub parted_still : (old new : Store D S F g s f) (before after : Numbers) (journal : Journal D g) (parted last : S)
      → Copies old new before after → journal ≡ journal_of new → parted ≡ shelf_of new
      → ReadsOnly s.held s.may_leave s.IsClean parted last → IsTrue (g.is_clean (journals.disk_of journal))
      → s.IsClean last → KeepsSafe s.held s.may_leave (shelf_of old) last
  parted_still old new before after journal parted last copies journal_is shelf_is reads disk shelf n bytes safe =
      let clean = parted_clean old new before after journal parted last copies journal_is shelf_is reads disk shelf in
      reads_keep s.held s.may_leave s.IsClean parted last reads n bytes
      (subst (λ (x : S). IsSafe s.held s.may_leave x n bytes) (sym shelf_is) (copies.still clean n bytes safe))

  pub parted_safe : (old new : Store D S F g s f) (before after : Numbers) (journal : Journal D g) (parted last : S)
      → Copies old new before after → journal ≡ journal_of new → parted ≡ shelf_of new
      → ReadsOnly s.held s.may_leave s.IsClean parted last → IsTrue (g.is_clean (journals.disk_of journal))
      → s.IsClean last → AreSafeNumbers s.held s.may_leave (shelf_of old) before
      → AreSafeNumbers s.held s.may_leave parted after
  parted_safe old new before after journal parted last copies journal_is shelf_is reads disk shelf was n has =
      let clean = parted_clean old new before after journal parted last copies journal_is shelf_is reads disk shelf in
      subst (λ (x : S). HasSafe s.held s.may_leave x n) (sym shelf_is) (copies.safe clean was n has)
