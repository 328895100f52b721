-- What can be run again is not lost.
use Rattle.std.proofs.lemmas.Grind.{common_steps}
use Rattle.std.proofs.Common.{◌≡◌, ◌≢◌, ◌∙◌, ◌⊎◌, inl, inr, ℕ, List, [], ◌∷◌, ◌++◌, map, length, rules}
use Rattle.std.proofs.Common.{Option, Some, refl}
use Rattle.std.proofs.Common.{sym, ap, subst, arith, Result, Ok}
use Rattle.std.specs.Prelude.{is_some, true}
use Rattle.std.specs.List.{All}
use Rattle.std.proofs.lemmas.List.{map-append}
use Rattle.std.proofs.lemmas.List.Elements.{All-append, All-cons, All-head, All-nil, All-tail}
use Rattle.journal.specs.Format.{Kept}
use Rattle.journal.specs.Machine.{Runs, RunsRecords}
use Rattle.upload_service.specs.declared.ask.Ask.{Ask}
use Rattle.upload_service.specs.Machine.{State, Turn, IsLawful, answer_of, outcome}
use Rattle.upload_service.specs.Run.{Exchange}
use Rattle.upload_journal.specs.declared.bodies.BodyFault.{BodyFault}
use Rattle.upload_journal.specs.declared.body.BodyFile.{BodyFile}
use Rattle.upload_journal.specs.declared.body.KeptBody.{KeptBody}
use Rattle.upload_journal.specs.declared.body.KeptBody.TheVariants.{Here, InFiles}
use Rattle.upload_journal.specs.declared.entries.KeptAsk.{KeptAsk}
use Rattle.upload_journal.specs.declared.entries.KeptAsk.TheVariants.{Opening, Single, Mount, Chunk, Close}
use Rattle.upload_journal.specs.declared.entries.KeptExchange.{KeptExchange}
use Rattle.upload_journal.specs.declared.entries.Entry.{Entry}
use Rattle.upload_journal.specs.declared.entries.Entry.TheVariants.{Exchange as Kept'}
use Rattle.upload_journal.specs.declared.fault.EntryFault.{EntryFault}
use Rattle.upload_journal.specs.declared.replay.ReplayFault.{ReplayFault}
use Rattle.upload_journal.specs.declared.replay.ReplayFault.TheVariants.{NoMemory, NotAnEntry, MomentFalls, NoBody}
use Rattle.upload_journal.specs.declared.replay.ReplayFault.TheVariants.{OtherLength, NotAsRecorded}
use Rattle.upload_journal.specs.Short.{told_of}
use Rattle.upload_journal.specs.Entries.{IsEntry, entry_text, entry_of}
use Rattle.upload_journal.specs.Replay.{Point, Joins, IsBodyOf, IsAskOf, IsExchangeOf, Exchanged, Applies, Replays}
use Rattle.upload_journal.specs.Stops.{OfOne, FileFails, FilesFail, ExchangeFails, Stops, files_of, files_in}
use Rattle.upload_journal.proofs.Texts.{entry_read}
use Rattle.upload_journal.proofs.Restart.{turn_leads}
use Rattle.upload_journal.proofs.Foresight.{answer_is}
use Rattle.upload_store.specs.Found.{texts_of}
use Rattle.upload_store.specs.Runs.{stands_in, IsReplayOf}
use Rattle.upload_store.specs.Salvage.{Stand, Salvages, refused_in, stand_at, finished}
use Rattle.upload_store.proofs.Reruns.{replays_then, is_replay}
use Rattle.upload_store.proofs.Rescues.{ready_first}

abbrev as_read : Entry → Result Entry EntryFault
as_read entry = Ok entry

module _ (files : ℕ → Option (List ℕ)) (failed : Type 0) where
  abbrev stands : ℕ → List ℕ → Type 0
  stands = stands_in files

  abbrev refused : ℕ → BodyFault → Type 0
  refused = refused_in files failed

  -- ---- an entry leads to one point

  one_file : (n : ℕ) (a b : List ℕ) → stands n a → stands n b → a ≡ b
  one_file n a b first second = let same : Some a ≡ Some b = sym first ∙ second in cc same

  one_joined : (parts : List BodyFile) (a b : List ℕ) → Joins stands parts a → Joins stands parts b → a ≡ b
  one_joined [] a b first second = first ∙ sym second
  one_joined (part ∷ parts) a b first second =
      cc (one_file part.number first.0 second.0 first.3 second.3, one_joined parts first.1 second.1 first.5 second.5)

  one_body : (body : KeptBody) (a b : List ℕ) → IsBodyOf stands body a → IsBodyOf stands body b → a ≡ b
  one_body (Here body) a b first second = first ∙ sym second
  one_body (InFiles parts) a b first second = one_joined parts a b first second

  one_ask : (kept : KeptAsk) (a b : Ask) → IsAskOf stands kept a → IsAskOf stands kept b → a ≡ b
  one_ask kept a b first second = search (rules, arith, one_body)

  -- the answer of an exchange that counts is the one that its request comes to
  record Answered (p : Point) (kept : KeptExchange) (x : Exchange) : Type 0 where
    pub is : x.answer ≡ answer_of (outcome p.state x.ask kept.secret kept.now)
    pub turn : (q : State) → Turn p.state x.ask x.secret x.now x.answer q
        → Turn p.state x.ask kept.secret kept.now x.answer q

  answered : (p : Point) (kept : KeptExchange) (x : Exchange) (q : Point) → IsExchangeOf stands kept x → Exchanged p x q
      → Answered p kept x
  answered p kept x q is does = search (rules, arith, answer_is)

  some_told : (kept : KeptExchange) (x : Exchange) → IsExchangeOf stands kept x → is_some (told_of x.answer) ≡ true
  some_told kept x is = ap is_some is.answer

  one_exchange : (p : Point) (kept : KeptExchange) (q r : Point) (x y : Exchange) → IsExchangeOf stands kept x
      → Exchanged p x q → IsExchangeOf stands kept y → Exchanged p y r → q ≡ r
  one_exchange p kept q r x y is does is' does' =
      grind (
        arith,
        one_ask kept.ask y.ask x.ask is'.ask is.ask,
        answered p kept x q is does,
        answered p kept y r is' does',
        turn_leads p.state x.ask kept.secret kept.now x.answer r.state q.state,
        some_told kept x is,
      )

  one_point : (p : Point) (entry : Entry) (q r : Point) → Applies stands p entry q → Applies stands p entry r → q ≡ r
  one_point p entry q r first second = search (rules, arith, one_exchange)

  -- ---- an entry that can be applied is not refused, unless a call of the shelf failed

  file_fails : (fault : ReplayFault) (file : BodyFile) (bytes : List ℕ) → fault ≢ NoMemory → stands file.number bytes
      → length bytes ≡ file.len → FileFails stands refused fault file → failed
  file_fails fault file bytes some there long fails = search (rules, arith, one_file)

  joined_fails : (fault : ReplayFault) (parts : List BodyFile) (bytes : List ℕ) → fault ≢ NoMemory
      → Joins stands parts bytes → OfOne (FileFails stands refused fault) parts → failed
  joined_fails fault [] bytes some joins fails = absurd fails
  joined_fails fault (part ∷ parts) bytes some joins fails =
      search (rules, arith, file_fails, joined_fails fault parts joins.1 some joins.5)

  body_fails : (fault : ReplayFault) (body : KeptBody) (bytes : List ℕ) → fault ≢ NoMemory
      → IsBodyOf stands body bytes → FilesFail stands refused (files_of body) fault → failed
  body_fails fault (Here body) bytes some is fails = absurd fails
  body_fails fault (InFiles parts) bytes some is fails = joined_fails fault parts bytes some is fails

  ask_fails : (fault : ReplayFault) (kept : KeptAsk) (ask : Ask) → fault ≢ NoMemory → IsAskOf stands kept ask
      → FilesFail stands refused (files_in kept) fault → failed
  ask_fails fault (Opening name) ask some is fails = absurd fails
  ask_fails fault (Single name digest body) ask some is fails = body_fails fault body is.0 some is.1 fails
  ask_fails fault (Mount name digest source) ask some is fails = absurd fails
  ask_fails fault (Chunk name at range body) ask some is fails = body_fails fault body is.0 some is.1 fails
  ask_fails fault (Close name at range digest body) ask some is fails = body_fails fault body is.0 some is.1 fails

  exchange_fails : (p : Point) (kept : KeptExchange) (q : Point) (x : Exchange) → IsExchangeOf stands kept x
      → Exchanged p x q → (fault : ReplayFault) → fault ≢ NoMemory → ExchangeFails stands refused p kept fault → failed
  exchange_fails p kept q x is does NoMemory some fails = absurd (some refl)
  exchange_fails p kept q x is does (NotAnEntry fault) some fails = absurd fails
  exchange_fails p kept q x is does MomentFalls some fails = search (rules, arith)
  exchange_fails p kept q x is does (NoBody number fault) some fails =
      ask_fails (NoBody number fault) kept.ask x.ask some is.ask fails.1
  exchange_fails p kept q x is does (OtherLength number) some fails =
      ask_fails (OtherLength number) kept.ask x.ask some is.ask fails.1
  exchange_fails p kept q x is does NotAsRecorded some fails =
      let ask = one_ask kept.ask fails.ask x.ask fails.asked is.ask in
      let same = ap (λ a. told_of (answer_of (outcome p.state a kept.secret kept.now))) ask in
      absurd (fails.other (same ∙ ap told_of (sym (answered p kept x q is does).is) ∙ is.answer))

  -- by what its text is read as
  read_fails : (p : Point) (entry : Entry) (q : Point) → Applies stands p entry q → (fault : ReplayFault)
      → fault ≢ NoMemory → (kept : KeptExchange) → as_read (Kept' kept) ≡ as_read entry
      → ExchangeFails stands refused p kept fault
      → failed
  read_fails p entry q does fault some kept same fails = search (rules, arith, exchange_fails)

  entry_fails : (p : Point) (entry : Entry) (text : List ℕ) (q : Point) → entry_of text ≡ Ok entry
      → Applies stands p entry q → (fault : ReplayFault) → fault ≢ NoMemory
      → Stops stands refused p (entry_of text) fault → failed
  entry_fails p entry text q read does NoMemory some why = absurd (some refl)
  entry_fails p entry text q read does (NotAnEntry fault) some why = absurd (cc (sym why ∙ read))
  entry_fails p entry text q read does MomentFalls some why = search (rules, arith, read_fails)
  entry_fails p entry text q read does (NoBody number fault) some why =
      read_fails p entry q does (NoBody number fault) some why.0 (sym why.1 ∙ read) why.2
  entry_fails p entry text q read does (OtherLength number) some why =
      read_fails p entry q does (OtherLength number) some why.0 (sym why.1 ∙ read) why.2
  entry_fails p entry text q read does NotAsRecorded some why =
      read_fails p entry q does NotAsRecorded some why.0 (sym why.1 ∙ read) why.2

  -- ---- one record after the other

  -- nothing is lost so far, and these entries, of which these are the texts, lead to the end
  record Goes (it : Stand) (texts : List (List ℕ)) (end : Point) : Type 0 where
    pub none : it.lost ≡ 0
    pub unnamed : it.named ≡ 0
    pub entries : List Entry
    pub are : All IsEntry entries
    pub is : texts ≡ map entry_text entries
    pub replays : Replays stands it.point entries end

  goes_one : (old : Stand) (time : ℕ) (text : List ℕ) (texts : List (List ℕ)) (new : Stand) (end : Point)
      → Salvages stands refused old time text new → old.lost ≡ 0 → old.named ≡ 0 → (entry : Entry)
      → (entries : List Entry) → All IsEntry (entry ∷ entries) → text ∷ texts ≡ map entry_text (entry ∷ entries)
      → Replays stands old.point (entry ∷ entries) end → failed ⊎ Goes new texts end
  goes_one old time text texts new end (inl counts) none unnamed entry entries are is run =
      grind (
        arith,
        All-head IsEntry entry entries are,
        entry_read entry,
        entry_read counts.entry counts.is_entry,
        ready_first old,
        one_point old.point entry run.0 new.point run.1,
        All-tail IsEntry entry entries are,
      )
  goes_one old time text texts new end (inr loses) none unnamed entry entries are is run =
      let text_is : text ≡ entry_text entry = cc is in
      let read = ap entry_of text_is ∙ entry_read entry (All-head IsEntry entry entries are) in
      let stops = subst (λ p. Stops stands refused p (entry_of text) loses.fault)
      (ready_first old (entry_of text) none) loses.stops in
      inl (entry_fails old.point entry text run.0 read run.1 loses.fault loses.some stops)

  goes_next : (old : Stand) (time : ℕ) (text : List ℕ) (texts : List (List ℕ)) (new : Stand) (end : Point)
      → Salvages stands refused old time text new → old.lost ≡ 0 → old.named ≡ 0 → (entries : List Entry)
      → All IsEntry entries → text ∷ texts ≡ map entry_text entries → Replays stands old.point entries end
      → failed ⊎ Goes new texts end
  goes_next old time text texts new end does none unnamed [] are is run = absurd (cc is)
  goes_next old time text texts new end does none unnamed (entry ∷ entries) are is run =
      search (rules, arith, goes_one)

  goes_records : (time : ℕ) (old : Stand) (front back : List (List ℕ)) (new : Stand) (end : Point)
      → RunsRecords (Salvages stands refused) time old front new → Goes old (front ++ back) end
      → failed ⊎ Goes new back end
  goes_records time old [] back new end same goes = inr (subst (λ s. Goes s back end) (sym same) goes)
  goes_records time old (text ∷ front) back new end run goes =
      grind (arith, common_steps, goes_next, goes_records time run.0 front back new end run.2)

  goes_batches : (old : Stand) (all : List Kept) (new : Stand) (end : Point)
      → Runs (Salvages stands refused) old all new → Goes old (texts_of all) end → failed ⊎ Goes new [] end
  goes_batches old [] new end same goes = inr (subst (λ s. Goes s [] end) (sym same) goes)
  goes_batches old (kept ∷ rest) new end run goes =
      search (rules, arith, goes_records, goes_batches run.0 rest new end run.2)

  at_end : (point end : Point) (entries : List Entry) → [] ≡ map entry_text entries → Replays stands point entries end
      → point ≡ end
  at_end point end [] is run = sym run
  at_end point end (entry ∷ entries) is run = absurd (cc is)

  nothing_more : (it : Stand) → it.lost ≡ 0 → it.named ≡ 0 → finished it ≡ it.point
  nothing_more it none unnamed = search (rules, arith)

  -- ---- where nothing is lost, each record was run

  -- the texts are those of entries that lead from the one point to the other, and nothing was lost before
  record Ran (old : Stand) (texts : List (List ℕ)) (new : Stand) : Type 0 where
    pub none : old.lost ≡ 0
    pub same : old.named ≡ new.named
    pub entries : List Entry
    pub are : All IsEntry entries
    pub is : texts ≡ map entry_text entries
    pub replays : Replays stands old.point entries new.point

  ran_none : (it : Stand) → it.lost ≡ 0 → Ran it [] it
  ran_none it none = search (rules, arith, All-nil)

  ran_then : (old : Stand) (front : List (List ℕ)) (mid : Stand) (back : List (List ℕ)) (new : Stand)
      → Ran old front mid → Ran mid back new → Ran old (front ++ back) new
  ran_then old front mid back new first second = grind (arith, common_steps, All-append, map-append, replays_then)

  ran_one : (old : Stand) (time : ℕ) (text : List ℕ) (new : Stand) → Salvages stands refused old time text new
      → new.lost ≡ 0 → Ran old (text ∷ []) new
  ran_one old time text new (inl counts) none =
      let before : old.lost ≡ 0 = sym (ap (λ (s : Stand). s.lost) counts.is) ∙ none in
      record {
        none = before;
        same = sym (ap (λ (s : Stand). s.named) counts.is);
        entries = counts.entry ∷ [];
        are = All-cons IsEntry counts.entry [] counts.is_entry (All-nil IsEntry);
        is = ap (λ t. t ∷ []) counts.text_is;
        replays = (
          new.point,
          subst (λ p. Applies stands p counts.entry new.point) (ready_first old (entry_of text) before) counts.applies,
          refl,
        );
      }
  ran_one old time text new (inr loses) none = search (rules, arith)

  ran_records : (time : ℕ) (old : Stand) (texts : List (List ℕ)) (new : Stand)
      → RunsRecords (Salvages stands refused) time old texts new → new.lost ≡ 0 → Ran old texts new
  ran_records time old [] new same none = search (rules, arith, ran_none)
  ran_records time old (text ∷ texts) new run none =
      let rest = ran_records time run.0 texts new run.2 none in
      ran_then old (text ∷ []) run.0 texts new (ran_one old time text run.0 run.1 rest.none) rest

  ran_batches : (old : Stand) (all : List Kept) (new : Stand) → Runs (Salvages stands refused) old all new
      → new.lost ≡ 0 → Ran old (texts_of all) new
  ran_batches old [] new same none = search (rules, arith, ran_none)
  ran_batches old (kept ∷ rest) new run none =
      search (rules, arith, ran_then, ran_records, ran_batches run.0 rest new run.2 none)

  pub none_lost : (old : Point) (all : List Kept) (end : Stand) → IsLawful old.state
      → Runs (Salvages stands refused) (stand_at old) all end → end.lost ≡ 0 → IsReplayOf all files old (finished end)
  none_lost old all end lawful run none =
      let ran = ran_batches (stand_at old) all end run none in
      subst (IsReplayOf all files old) (sym (nothing_more end none (sym ran.same)))
      (is_replay all files old end.point ran.entries ran.are ran.is lawful ran.replays)

  pub lossless : (old : Point) (all : List Kept) (end : Stand) (point : Point)
      → Runs (Salvages stands refused) (stand_at old) all end → IsReplayOf all files old point
      → failed ⊎ ((end.lost ≡ 0) × (finished end ≡ point))
  lossless old all end point run replay =
      let goes : Goes (stand_at old) (texts_of all) point = record {
        none = refl;
        unnamed = refl;
        entries = replay.entries;
        are = replay.are_entries;
        is = replay.texts;
        replays = replay.replays;
      } in
      elim (goes_batches (stand_at old) all end point run goes) [
        | inl fails ↦ inl fails
        | inr on ↦ inr
            (on.none, nothing_more end on.none on.unnamed ∙ at_end end.point point on.entries on.is on.replays)
      ]
