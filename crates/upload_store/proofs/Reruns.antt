-- Records that are run one after another are a replay.
use Rattle.std.proofs.Common.{◌≡◌, ◌∙◌, ℕ, List, [], ◌∷◌, ◌++◌, map, Option, refl, sym, ap, subst, arith, rules}
use Rattle.std.specs.List.{All}
use Rattle.std.proofs.lemmas.List.{map-append}
use Rattle.std.proofs.lemmas.List.Elements.{All-append, All-cons, All-nil}
use Rattle.journal.specs.Format.{Kept}
use Rattle.journal.specs.Machine.{Runs, RunsRecords}
use Rattle.upload_service.specs.Machine.{IsLawful}
use Rattle.upload_service.specs.declared.ask.Ask.{Ask}
use Rattle.upload_journal.specs.declared.body.KeptBody.{KeptBody}
use Rattle.upload_journal.specs.declared.body.KeptBody.TheVariants.{Here, InFiles}
use Rattle.upload_journal.specs.declared.entries.KeptAsk.{KeptAsk}
use Rattle.upload_journal.specs.declared.entries.Entry.{Entry}
use Rattle.upload_journal.specs.declared.entries.Entry.TheVariants.{Exchange as Kept', NumbersUpTo, MomentsUpTo}
use Rattle.upload_journal.specs.Entries.{IsEntry, entry_text}
use Rattle.upload_journal.specs.Replay.{Point, used_up, IsBodyOf, IsAskOf, Applies, Replays, UsesNoneUp}
use Rattle.upload_journal.proofs.Replays.{Keeps, joins_still, is_run, lawful_used}
use Rattle.upload_store.specs.Found.{texts_of}
use Rattle.upload_store.specs.Reading.{ReadsOnly, StandsIn}
use Rattle.upload_store.specs.Rerun.{Steps}
use Rattle.upload_store.specs.Runs.{stands_in, Part, joined, AreRuns, IsReplayOf}
use Rattle.upload_store.proofs.Reading.{reads_none, reads_then}

-- ---- what stands, stands there still

module _ (old new : ℕ → List ℕ → Type 0) (keeps : Keeps old new) where
  body_still : (body : KeptBody) (bytes : List ℕ) → IsBodyOf old body bytes → IsBodyOf new body bytes
  body_still (Here body) bytes is = is
  body_still (InFiles files) bytes joins = joins_still old new files bytes keeps joins

  pub ask_still : (kept : KeptAsk) (ask : Ask) → IsAskOf old kept ask → IsAskOf new kept ask
  ask_still kept ask is = search (rules, arith, body_still)

  pub applies_still : (before : Point) (entry : Entry) (after : Point) → Applies old before entry after
      → Applies new before entry after
  applies_still before entry after does = search (rules, arith, ask_still)

  replays_still : (before : Point) (entries : List Entry) (after : Point) → Replays old before entries after
      → Replays new before entries after
  replays_still before [] after is = is
  replays_still before (entry ∷ entries) after run =
      search (rules, arith, applies_still, replays_still run.0 entries after run.2)

pub replays_then : (stands : ℕ → List ℕ → Type 0) (old : Point) (front back : List Entry) (mid new : Point)
    → Replays stands old front mid → Replays stands mid back new → Replays stands old (front ++ back) new
replays_then stands old [] back mid new same second = subst (λ p. Replays stands p back new) same second
replays_then stands old (entry ∷ front) back mid new first second =
    search (rules, arith, replays_then stands first.0 front back mid new first.2 second)

-- ---- the parts of a replay

module _ (stands : ℕ → List ℕ → Type 0) where
  AreParts : Point → List Entry → List Part → Point → Type 0
  AreParts old first [] new = UsesNoneUp first × Replays stands old first new
  AreParts old first (part ∷ parts) new =
      (mid : Point) × (UsesNoneUp first × Replays stands old first mid)
      × AreParts (record mid { state = used_up part.0 mid.state }) part.1 parts new

  record Split (old : Point) (entries : List Entry) (new : Point) : Type 0 where
    pub first : List Entry
    pub parts : List Part
    pub is : entries ≡ joined first parts
    pub are : AreParts old first parts new

  before_first : (old : Point) (entry : Entry) (mid : Point) (first : List Entry) (parts : List Part) (new : Point)
      → (UsesNoneUp first → UsesNoneUp (entry ∷ first)) → Applies stands old entry mid → AreParts mid first parts new
      → AreParts old (entry ∷ first) parts new
  unfolding AreParts
  before_first old entry mid first [] new none does run = (none run.0, (mid, does, run.1))
  before_first old entry mid first (part ∷ parts) new none does run = search (rules, arith)

  split : (old : Point) (entries : List Entry) (new : Point) → Replays stands old entries new → Split old entries new
  unfolding AreParts
  split old [] new same = record { first = []; parts = []; is = refl; are = (tt, same) }
  split old (Kept' entry ∷ entries) new run =
      let rest = split run.0 entries new run.2 in
      record {
        first = Kept' entry ∷ rest.first;
        parts = rest.parts;
        is = ap (λ l. Kept' entry ∷ l) rest.is;
        are = before_first old (Kept' entry) run.0 rest.first rest.parts new (λ h. h) run.1 rest.are;
      }
  split old (MomentsUpTo m ∷ entries) new run =
      let rest = split run.0 entries new run.2 in
      record {
        first = MomentsUpTo m ∷ rest.first;
        parts = rest.parts;
        is = ap (λ l. MomentsUpTo m ∷ l) rest.is;
        are = before_first old (MomentsUpTo m) run.0 rest.first rest.parts new (λ h. h) run.1 rest.are;
      }
  split old (NumbersUpTo n ∷ entries) new run =
      let rest = split run.0 entries new run.2 in
      record {
        first = [];
        parts = (n, rest.first) ∷ rest.parts;
        is = ap (λ l. NumbersUpTo n ∷ l) rest.is;
        are = (old, (tt, refl), subst (λ p. AreParts p rest.first rest.parts new) run.1 rest.are);
      }

  record RunsAre (old : Point) (first : List Entry) (parts : List Part) (new : Point) : Type 0 where
    pub runs : AreRuns stands old first parts new
    pub lawful : IsLawful new.state

  runs_of : (old : Point) (first : List Entry) (parts : List Part) (new : Point) → IsLawful old.state
      → AreParts old first parts new → RunsAre old first parts new
  unfolding AreParts
  runs_of old first [] new lawful are =
      let run = is_run stands old first new lawful are.0 are.1 in
      record { runs = run; lawful = run.headline.lawful }
  runs_of old first (part ∷ parts) new lawful are =
      let mid = are.0 in
      let run = is_run stands old first mid lawful are.1.0 are.1.1 in
      let from : Point = record mid { state = used_up part.0 mid.state } in
      let rest = runs_of from part.1 parts new (lawful_used part.0 mid.state run.headline.lawful) are.2 in
      record { runs = (mid, run, rest.runs); lawful = rest.lawful }

pub is_replay : (all : List Kept) (files : ℕ → Option (List ℕ)) (old new : Point) (entries : List Entry)
    → All IsEntry entries → texts_of all ≡ map entry_text entries → IsLawful old.state
    → Replays (stands_in files) old entries new → IsReplayOf all files old new
is_replay all files old new entries are is lawful replays = search (rules, arith, split, runs_of)

-- ---- records, one after another

module _ {S : Type 0} (held : S → ℕ → Option (List ℕ)) (may_leave : S → ℕ → Option (List ℕ) → Type 0)
    (IsClean : S → Type 0) where
  pub record Ran (old : S) (before : Point) (texts : List (List ℕ)) (new : S) (after : Point) : Type 0 where
    pub entries : List Entry
    pub are : All IsEntry entries
    pub is : texts ≡ map entry_text entries
    pub replays : IsClean new → Replays (stands_in (held new)) before entries after
    pub reads : ReadsOnly held may_leave IsClean old new

  ran_none : (shelf : S) (point : Point) → Ran shelf point [] shelf point
  ran_none shelf point = search (rules, arith, All-nil, reads_none)

  ran_one : (old : S) (before : Point) (text : List ℕ) (new : S) (after : Point)
      → Steps held may_leave IsClean old before text new after → Ran old before (text ∷ []) new after
  ran_one old before text new after step = record {
    entries = step.entry ∷ [];
    are = All-cons IsEntry step.entry [] step.is_entry (All-nil IsEntry);
    is = ap (λ l. l ∷ []) step.text_is;
    replays = λ clean. (
      after,
      applies_still (StandsIn held IsClean new) (stands_in (held new)) (λ n bytes stood. stood clean) before step.entry
          after step.applies,
      refl,
    );
    reads = step.reads;
  }

  ran_then : (old : S) (before : Point) (front : List (List ℕ)) (mid : S) (between : Point) (back : List (List ℕ))
      (new : S) (after : Point) → Ran old before front mid between → Ran mid between back new after
      → Ran old before (front ++ back) new after
  ran_then old before front mid between back new after first second = record {
    entries = first.entries ++ second.entries;
    are = All-append IsEntry first.entries second.entries first.are second.are;
    is = (λ i. first.is i ++ second.is i) ∙ sym (map-append entry_text first.entries second.entries);
    replays = λ clean.
        replays_then (stands_in (held new)) before first.entries second.entries between after
        (replays_still (stands_in (held mid)) (stands_in (held new))
        (λ n bytes stood. (second.reads.all.each n).same ∙ stood) before first.entries between
        (first.replays (second.reads.clean clean)))
        (second.replays clean);
    reads = reads_then held may_leave IsClean old mid new first.reads second.reads;
  }

  module _ {M : Type 0} (shelf : M → S) (point : M → Point) where
    abbrev pub steps_by : M → ℕ → List ℕ → M → Type 0
    steps_by old time text new =
        Steps held may_leave IsClean (shelf old) (point old) text (shelf new) (point new)

    records_ran : (time : ℕ) (old : M) (texts : List (List ℕ)) (new : M) → RunsRecords steps_by time old texts new
        → Ran (shelf old) (point old) texts (shelf new) (point new)
    records_ran time old [] new same = search (rules, arith, ran_none)
    records_ran time old (text ∷ texts) new run =
        ran_then (shelf old) (point old) (text ∷ []) (shelf run.0) (point run.0) texts (shelf new) (point new)
        (ran_one (shelf old) (point old) text (shelf run.0) (point run.0) run.1)
        (records_ran time run.0 texts new run.2)

    pub batches_ran : (old : M) (all : List Kept) (new : M) → Runs steps_by old all new
        → Ran (shelf old) (point old) (texts_of all) (shelf new) (point new)
    batches_ran old [] new same = search (rules, arith, ran_none)
    batches_ran old (kept ∷ rest) new run =
        search (rules, arith, ran_then, records_ran, batches_ran run.0 rest new run.2)

  pub replay_of : (old : S) (before : Point) (all : List Kept) (new : S) (after : Point) → IsLawful before.state
      → IsClean new → Ran old before (texts_of all) new after → IsReplayOf all (held new) before after
  replay_of old before all new after lawful clean ran = search (rules, arith, is_replay)
