-- A recovery that goes on behind losses is one of the records that count.
use Rattle.std.proofs.Common.{◌≡◌, ◌∙◌, inl, inr, ℕ, ◌+◌, ◌≤◌, List, [], ◌∷◌, ◌++◌, map, Option, rules}
use Rattle.std.proofs.Common.{refl, sym}
use Rattle.std.proofs.Common.{ap, subst, arith, Result, append_assoc}
use Rattle.std.specs.Prelude.{min, max}
use Rattle.std.specs.List.{All}
use Rattle.std.proofs.lemmas.List.{append-nil, map-append}
use Rattle.std.proofs.lemmas.List.Elements.{All-append, All-cons, All-nil}
use Rattle.sqlite_disk.specs.Disk.{MoreFaults}
use Rattle.journal.specs.Format.{Kept}
use Rattle.journal.specs.Machine.{Runs, RunsRecords}
use Rattle.upload_service.specs.Machine.{IsLawful, last_number}
use Rattle.upload_journal.specs.declared.bodies.BodyFault.{BodyFault}
use Rattle.upload_journal.specs.declared.body.BodyFile.{BodyFile}
use Rattle.upload_journal.specs.declared.entries.Entry.{Entry}
use Rattle.upload_journal.specs.declared.entries.Entry.TheVariants.{NumbersUpTo}
use Rattle.upload_journal.specs.declared.fault.EntryFault.{EntryFault}
use Rattle.upload_journal.specs.declared.replay.ReplayFault.{ReplayFault}
use Rattle.upload_journal.specs.Entries.{IsEntry, entry_text, entry_of}
use Rattle.upload_journal.specs.Replay.{Point, Replays}
use Rattle.upload_journal.specs.Stops.{OfOne, FileFails, Stops}
use Rattle.upload_store.specs.Found.{texts_of}
use Rattle.upload_store.specs.Reading.{StandsIn}
use Rattle.upload_store.specs.Rescuing.{Since, RefusedSince, Rescues}
use Rattle.upload_store.specs.Runs.{stands_in, IsReplayOf}
use Rattle.upload_store.specs.Salvage.{Stand, Salvages, refused_in, ready, raised}
use Rattle.upload_store.specs.Salvage.{AreAmong, stand_at, finished}
use Rattle.upload_store.proofs.Reruns.{ask_still, applies_still, replays_then, is_replay}
use Rattle.upload_store.proofs.Rescues.{by_test, since_then}

of_one_weaker : (P Q : BodyFile → Type 0) → ((file : BodyFile) → P file → Q file) → (files : List BodyFile)
    → OfOne P files → OfOne Q files
of_one_weaker P Q weaker [] is = is
of_one_weaker P Q weaker (file ∷ files) is = search (rules, arith, of_one_weaker P Q weaker files)

-- ---- what is told of the shelf in between holds of it at the end

module _ {S : Type 0} (held : S → ℕ → Option (List ℕ)) (may_leave : S → ℕ → Option (List ℕ) → Type 0)
    (IsClean : S → Type 0) (faults : S → ℕ) (first final : S) (clean : IsClean final) where
  abbrev stands : ℕ → List ℕ → Type 0
  stands = stands_in (held final)

  abbrev refused : ℕ → BodyFault → Type 0
  refused = refused_in (held final) (MoreFaults (faults first) (faults final))

  module _ (old mid : S) (low : faults first ≤ faults old) (since : Since held may_leave IsClean faults mid final) where
    keeps : (n : ℕ) (bytes : List ℕ) → StandsIn held IsClean mid n bytes → stands n bytes
    keeps n bytes stood = (since.0.all.each n).same ∙ stood (since.0.clean clean)

    refused_still : (number : ℕ) (fault : BodyFault) → RefusedSince held may_leave IsClean faults old mid number fault
        → refused number fault
    refused_still number fault why = search (rules, arith)

    file_still : (fault : ReplayFault) (file : BodyFile)
        → FileFails (StandsIn held IsClean mid) (RefusedSince held may_leave IsClean faults old mid) fault file
        → FileFails stands refused fault file
    file_still fault file fails = search (rules, arith, refused_still, keeps)

    stops_still : (point : Point) (read : Result Entry EntryFault) (fault : ReplayFault)
        → Stops (StandsIn held IsClean mid) (RefusedSince held may_leave IsClean faults old mid) point read fault
        → Stops stands refused point read fault
    stops_still point read fault why = search (rules, arith, of_one_weaker, file_still, ask_still, keeps)

    salvages_still : (from : Stand) (time : ℕ) (text : List ℕ) (to : Stand)
        → Salvages (StandsIn held IsClean mid) (RefusedSince held may_leave IsClean faults old mid) from time text to
        → Salvages stands refused from time text to
    salvages_still from time text to (inl counts) = search (rules, arith, applies_still, keeps)
    salvages_still from time text to (inr loses) = search (rules, arith, stops_still)

  module _ {M : Type 0} (shelf : M → S) (stand : M → Stand) where
    abbrev pub rescues_by : M → ℕ → List ℕ → M → Type 0
    rescues_by old time text new =
        Rescues held may_leave IsClean faults (shelf old) (stand old) time text (shelf new) (stand new)

    abbrev pub To : M → Type 0
    To m = Since held may_leave IsClean faults (shelf m) final

    records_saved : (time : ℕ) (old : M) (texts : List (List ℕ)) (new : M) → RunsRecords rescues_by time old texts new
        → faults first ≤ faults (shelf old) → To new
        → RunsRecords (Salvages stands refused) time (stand old) texts (stand new) × To old
    records_saved time old [] new same low to = (ap stand same, subst To same to)
    records_saved time old (text ∷ texts) new run low to =
        let step = run.1 in
        let grown = step.since.1 in
        let rest = records_saved time run.0 texts new run.2 (omega (arith, low, grown)) to in (
          (
            stand run.0,
            salvages_still (shelf old) (shelf run.0) low rest.1 (stand old) time text (stand run.0) step.does,
            rest.0,
          ),
          since_then held may_leave IsClean faults (shelf old) (shelf run.0) final step.since rest.1,
        )

    -- how far the faults have grown, which the records before tell of those behind
    records_since : (time : ℕ) (old : M) (texts : List (List ℕ)) (new : M) → RunsRecords rescues_by time old texts new
        → faults (shelf old) ≤ faults (shelf new)
    records_since time old [] new same = let e = ap (λ m. faults (shelf m)) same in omega (arith, e)
    records_since time old (text ∷ texts) new run = omega (arith, records_since time run.0 texts new run.2)

    pub batches_saved : (old : M) (all : List Kept) (new : M) → Runs rescues_by old all new
        → faults first ≤ faults (shelf old) → To new
        → Runs (Salvages stands refused) (stand old) all (stand new) × To old
    batches_saved old [] new same low to = (ap stand same, subst To same to)
    batches_saved old (kept ∷ rest) new run low to =
        let grown = records_since kept.0 old kept.1 run.0 run.1 in
        let behind = batches_saved run.0 rest new run.2 (omega (arith, low, grown)) to in
        let here = records_saved kept.0 old kept.1 run.0 run.1 low behind.1 in
        ((stand run.0, here.0, behind.0), here.1)

-- ---- the records that count

among_behind : (front back texts : List (List ℕ)) → AreAmong back texts → AreAmong (front ++ back) texts
among_behind front back [] among = tt
among_behind front back (text ∷ texts) among =
    elim among [
      | inl here ↦ inl (
        front ++ here.0,
        here.1,
        ap (λ (l : List (List ℕ)). front ++ l) here.2 ∙ sym (append_assoc front here.0 (text ∷ here.1)),
        here.3,
      )
      | inr number ↦ inr (number.0, number.1, among_behind front back texts number.2)
    ]

among_then : (front back first second : List (List ℕ)) → AreAmong front first → AreAmong back second
    → AreAmong (front ++ back) (first ++ second)
among_then front back [] second among more = among_behind front back second more
among_then front back (text ∷ first) second among more =
    elim among [
      | inl here ↦ inl (
        here.0,
        here.1 ++ back,
        ap (λ (l : List (List ℕ)). l ++ back) here.2 ∙ append_assoc here.0 (text ∷ here.1) back,
        among_then here.1 back first second here.3 more,
      )
      | inr number ↦ inr (number.0, number.1, among_then front back first second number.2 more)
    ]

module _ (stands : ℕ → List ℕ → Type 0) (refused : ℕ → BodyFault → Type 0) where
  -- entries that lead from the one point to the other, of which these are the texts
  record Led (old : Point) (texts : List (List ℕ)) (new : Point) : Type 0 where
    pub entries : List Entry
    pub are : All IsEntry entries
    pub replays : Replays stands old entries new
    pub among : AreAmong texts (map entry_text entries)

  led_none : (point : Point) → Led point [] point
  led_none point = record { entries = []; are = All-nil IsEntry; replays = refl; among = tt }

  led_then : (old mid new : Point) (front back : List (List ℕ)) → Led old front mid → Led mid back new
      → Led old (front ++ back) new
  led_then old mid new front back first second = record {
    entries = first.entries ++ second.entries;
    are = All-append IsEntry first.entries second.entries first.are second.are;
    replays = replays_then stands old first.entries second.entries mid new first.replays second.replays;
    among =
        subst (AreAmong (front ++ back)) (sym (map-append entry_text first.entries second.entries))
        (among_then front back (map entry_text first.entries) (map entry_text second.entries) first.among second.among);
  }

  led_raised : (n : ℕ) (point : Point) → Led point [] (raised n point)
  led_raised n point =
      let entry : Entry = NumbersUpTo (min n last_number) in
      record {
        entries = entry ∷ [];
        are = All-cons IsEntry entry [] (omega arith) (All-nil IsEntry);
        replays = (raised n point, refl, refl);
        among = inr (min n last_number, refl, tt);
      }

  led_ready : (it : Stand) (read : Result Entry EntryFault) → Led it.point [] (ready it read)
  led_ready it read = search (rules, arith, by_test, led_none, led_raised)

  led_one : (old : Stand) (time : ℕ) (text : List ℕ) (new : Stand) → Salvages stands refused old time text new
      → Led old.point (text ∷ []) new.point
  led_one old time text new (inl counts) =
      let entry = counts.entry in
      let here : Led (ready old (entry_of text)) (text ∷ []) new.point = record {
        entries = entry ∷ [];
        are = All-cons IsEntry entry [] counts.is_entry (All-nil IsEntry);
        replays = (new.point, counts.applies, refl);
        among = inl ([], [], ap (λ t. t ∷ []) counts.text_is, tt);
      } in
      led_then old.point (ready old (entry_of text)) new.point [] (text ∷ []) (led_ready old (entry_of text)) here
  led_one old time text new (inr loses) =
      let raise = led_ready old (entry_of text) in
      let at : new.point ≡ ready old (entry_of text) = ap (λ (s : Stand). s.point) loses.is in
      subst (Led old.point (text ∷ [])) (sym at)
      (record {
        entries = raise.entries;
        are = raise.are;
        replays = raise.replays;
        among = among_behind (text ∷ []) [] (map entry_text raise.entries) raise.among;
      })

  led_records : (time : ℕ) (old : Stand) (texts : List (List ℕ)) (new : Stand)
      → RunsRecords (Salvages stands refused) time old texts new → Led old.point texts new.point
  led_records time old [] new same = subst (λ (s : Stand). Led old.point [] s.point) (sym same) (led_none old.point)
  led_records time old (text ∷ texts) new run =
      led_then old.point run.0.point new.point (text ∷ []) texts (led_one old time text run.0 run.1)
      (led_records time run.0 texts new run.2)

  led_batches : (old : Stand) (all : List Kept) (new : Stand) → Runs (Salvages stands refused) old all new
      → Led old.point (texts_of all) new.point
  led_batches old [] new same = subst (λ (s : Stand). Led old.point [] s.point) (sym same) (led_none old.point)
  led_batches old (kept ∷ rest) new run =
      search (rules, arith, led_then, led_records, led_batches run.0 rest new run.2)

  -- with the numbers that are used up at the end
  led_whole : (old : Point) (all : List Kept) (end : Stand) → Runs (Salvages stands refused) (stand_at old) all end
      → Led old (texts_of all) (finished end)
  led_whole old all end run =
      subst (λ texts. Led old texts (finished end)) (append-nil (texts_of all))
      (led_then old end.point (finished end) (texts_of all) [] (led_batches (stand_at old) all end run)
      (led_raised (max (end.point.state.issued + end.lost) end.named) end.point))

-- these, as one batch
abbrev pub as_batch : List (List ℕ) → List Kept
as_batch texts = (0, texts) ∷ []

-- a recovery of those that count
pub record Again (all : List Kept) (files : ℕ → Option (List ℕ)) (old new : Point) : Type 0 where
  pub counted : List Kept
  pub among : AreAmong (texts_of all) (texts_of counted)
  pub replay : IsReplayOf counted files old new

pub again : (all : List Kept) (files : ℕ → Option (List ℕ)) (refused : ℕ → BodyFault → Type 0) (old : Point)
    (end : Stand) → IsLawful old.state → Runs (Salvages (stands_in files) refused) (stand_at old) all end
    → Again all files old (finished end)
again all files refused old end lawful run =
    let led = led_whole (stands_in files) refused old all end run in
    let texts = map entry_text led.entries in
    let is : texts_of (as_batch texts) ≡ texts = append-nil texts in
    record {
      counted = as_batch texts;
      among = subst (AreAmong (texts_of all)) (sym is) led.among;
      replay = is_replay (as_batch texts) files old (finished end) led.entries led.are is lawful led.replays;
    }
