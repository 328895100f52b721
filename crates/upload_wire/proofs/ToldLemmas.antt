-- What the observer of a connection is told, step by step.
use Rattle.std.proofs.lemmas.Grind.{common_steps}
use Rattle.std.proofs.Common.{◌≡◌, ℕ, ◌+◌, List, [], ◌∷◌, ◌++◌, length, refl, sym, ap, ◌∙◌, subst, append_assoc, inl}
use Rattle.std.proofs.Common.{inr, arith}
use Rattle.std.specs.Prelude.{◌⊎◌, Option, Some, None, IfSome, Result, Ok, Err}
use Rattle.std.proofs.lemmas.List.{append-nil}
use Rattle.httparse.specs.Grammar.{RequestHead}
use Rattle.upload_service.specs.declared.ask.Ask.{Ask}
use Rattle.upload_service.specs.declared.answer.Answer.{Answer}
use Rattle.http_wire.specs.States.{SourceState, InputState, SinkState, input_state}
use Rattle.http_wire.specs.Reading.{Gave, Costs}
use Rattle.http_wire.specs.Faults.{wire_of_input}
use Rattle.http_wire.specs.HeadText.{bad_status, status_number}
use Rattle.http_wire.specs.Fronts.{IsRefused, IsTooLong, requests}
use Rattle.http_wire.specs.Unambiguous.{HeadParse, head, long, unfinished}
use Rattle.http_wire.specs.Inner.HeadSpans.{request_spans}
use Rattle.http_wire.specs.Inner.HeadReading.{FindsHead}
use Rattle.http_wire.specs.declared.fault.Bad.{Bad}
use Rattle.http_wire.specs.declared.fault.InputFault.{InputFault}
use Rattle.http_wire.specs.declared.fault.InputFault.TheVariants as Input
use Rattle.http_wire.specs.declared.fault.WireFault.{WireFault}
use Rattle.http_wire.specs.declared.fault.WireFault.TheVariants as Wire
use Rattle.http_wire.proofs.Heads.ReadLemmas.{ReadsHead-more}
use Rattle.http_wire.proofs.UnambiguousHeads.{requests_unambiguous}
use Rattle.upload_wire.specs.declared.request.Style.{Style}
use Rattle.upload_wire.specs.declared.request.Came.{Came}
use Rattle.upload_wire.specs.declared.request.Next.{Next}
use Rattle.upload_wire.specs.declared.request.Next.TheVariants.{Request, Over}
use Rattle.upload_wire.specs.declared.request.Next.TheVariants as nexts
use Rattle.upload_wire.specs.declared.connection.ConnEnd.{ConnEnd}
use Rattle.upload_wire.specs.declared.connection.ConnEnd.TheVariants.{AfterClose, AfterBad, TooMany, DeskGone}
use Rattle.upload_wire.specs.declared.connection.ConnEnd.TheVariants.{Fault}
use Rattle.upload_wire.specs.declared.connection.ConnFault.TheVariants as Conn
use Rattle.upload_wire.specs.RequestText.{IsRequest, IsBad, ReadsNext, FindsNext}
use Rattle.upload_wire.specs.Conversation.{Moves, WireExchange, connection, stand, ReadsFail, WireStops}
use Rattle.upload_wire.specs.Phases.{most_reads}
use Rattle.upload_wire.specs.Events.{Event, Head, Unreadable, Replied, Telling, Hears}
use Rattle.upload_wire.specs.Told.{HasLine, TellsExchange, TellsEach, TellsRefusal, TellsCut, TellsEnd, event_of, rules}
use Rattle.upload_wire.specs.Told.{Rules, sides, Ending, EndsAs, IsTold}
use Rattle.upload_wire.specs.Inner.ConversationSteps.{IsRepliedTo, styled, RefusedWith, Progress, progress, Stops}
use Rattle.upload_wire.specs.Inner.ToldSteps.{listening, TellsNext, ReadsTold, Observed, observed, GoesOnTold}
use Rattle.upload_wire.specs.Inner.ToldSteps.{StopsTold}
use Rattle.upload_wire.proofs.RequestLemmas.{head_fault_next, reads_after}
use Rattle.upload_wire.proofs.ConversationLemmas.{stops, one_more, one_last, after_refusal, SoFar, starts}
use Rattle.upload_wire.proofs.ConversationLemmas.{goes_on, ends}

-- ---- events

pub hears_more : {O : Type 0} (telling : Telling O) (a b c : O) (es fs : List Event) → Hears telling a es b
    → Hears telling b fs c → Hears telling a (es ++ fs) c
hears_more telling a b c [] fs h k = subst (λ x. Hears telling x fs c) h k
hears_more telling a b c (e ∷ es) fs h k = (h.0, h.1, hears_more telling h.0 b c es fs h.2 k)

-- ---- lines

pub line_more : (text more method target : List ℕ) → HasLine text method target → HasLine (text ++ more) method target
line_more text more method target l = grind (arith, common_steps, ReadsHead-more)

head_in : RequestHead → HeadParse requests → RequestHead
head_in other (head h rest) = h
head_in other long = other
head_in other unfinished = other

-- a text begins with the head of the request that it begins with
pub line_within : (max : ℕ) (text message rest : List ℕ) (ask : Ask) (style : Style) (method target : List ℕ)
    → text ≡ message ++ rest → IsRequest max message ask style → HasLine text method target
    → HasLine message method target
unfolding head_in
line_within max text message rest ask style method target cut request line =
    let same : line.head ≡ request.head = ap (head_in line.head)
    (requests_unambiguous.one text (head line.head line.rest) (head request.head (request.rest ++ rest))
    line.reads (ReadsHead-more rest cut request.reads)) in
    record {
      head = request.head;
      rest = request.rest;
      reads = request.reads;
      is_method = line.is_method ∙ ap (λ (h : RequestHead). h.method) same;
      is_target = line.is_target ∙ ap (λ (h : RequestHead). h.target) same;
    }

-- ---- reading

tells_behind : (text method target : List ℕ) (r : Result Next WireFault) → HasLine text method target → ¬ (r ≡ Ok Over)
    → TellsNext text r (Head method target ∷ [])
tells_behind text method target r line came = search (rules, arith)

module _ {O : Type 0} (telling : Telling O) (max : ℕ) (first mid : InputState)
    (gave : Gave first mid.source mid.held) (old : O) where
  -- a head was told, and then its body was read
  pub told_behind : (left : InputState) (new : O) (method target : List ℕ) (r : Result Next WireFault)
      → HasLine mid.held method target → telling old (Head method target) new → ReadsNext max mid left r
      → ¬ (r ≡ Ok Over) → ReadsTold telling max (listening first old) (listening left new) r
  unfolding reads_after
  told_behind left new method target r line tells n came =
      let joined = ap (λ t. t ++ n.given) gave.joined ∙ append_assoc first.held gave.given n.given in
      let whole = subst (λ t. HasLine t method target) joined (line_more mid.held n.given method target line) in
      record {
        next = reads_after max first mid left r gave n;
        events = Head method target ∷ [];
        tells = tells_behind (first.held ++ (gave.given ++ n.given)) method target r whole came;
        told = (new, tells, refl);
      }

  -- there is no head that can be read
  pub told_unreadable : (new : O) (why : Bad) → IsBad max mid.held why
      → (IsRefused requests mid.held) ⊎ (IsTooLong requests mid.held) → telling old Unreadable new
      → ReadsTold telling max (listening first old) (listening mid new) (Ok (nexts.Bad why))
  told_unreadable new why is_bad none tells = record {
    next = record {
      given = gave.given;
      gives = gave.gives;
      found = subst (λ t. IsBad max t why) gave.joined is_bad;
    };
    events = Unreadable ∷ [];
    tells = (Unreadable, subst (λ t. (IsRefused requests t) ⊎ (IsTooLong requests t)) gave.joined none, refl);
    told = (new, tells, refl);
  }

  nothing_told : (t : List ℕ) (e : InputFault) → FindsHead request_spans (input_state t mid.source) (Err e)
      → TellsCut t []
  nothing_told t Input.Truncated h = inl (inr h.0, refl)
  nothing_told t Input.Read (inl empty) = inl (inl empty, refl)
  nothing_told t Input.Read (inr begun) = inl (inr begun, refl)

  -- no head came
  pub told_fault : (e : InputFault) → FindsHead request_spans mid (Err e)
      → ReadsTold telling max (listening first old) (listening mid old) (Err (wire_of_input e))
  told_fault e h =
      let found = subst (λ t. FindsHead request_spans (input_state t mid.source) (Err e)) gave.joined h in
      record {
        next = record {
          given = gave.given;
          gives = gave.gives;
          found = head_fault_next max (first.held ++ gave.given) mid e found;
        };
        events = [];
        tells = nothing_told (first.held ++ gave.given) e found;
        told = refl;
      }

-- ---- one

module _ {D O : Type 0} (step : Moves D) (telling : Telling O) (max count : ℕ) (held rest : List ℕ)
    (first left : SourceState) (ask : Ask) (style : Style)
    (at new : D) (mid : SinkState) (was heard : O)
    (n : ReadsTold telling max (listening (input_state held first) was) (listening (input_state rest left) heard)
    (Ok (Request ask style)))
    (same : left.failed_reads ≡ first.failed_reads) where
  module _ (answer : Answer) (after : SinkState) (is : O) (replied : telling heard (event_of answer style) is)
      (answered : step at ask (Some answer) new) where
    both : List Event
    both = n.events ++ event_of answer style ∷ []

    heard_both : Hears telling was both is
    unfolding both
    heard_both = hears_more telling was heard is n.events (event_of answer style ∷ []) n.told (is, replied, refl)

    abbrev the_exchange : WireExchange
    the_exchange = record { message = n.next.found.message; ask = ask; style = style; answer = answer }

    tells_both : TellsExchange the_exchange both
    unfolding both
    tells_both = record {
      method = n.tells.method;
      target = n.tells.target;
      line =
          line_within max (held ++ n.next.given) n.next.found.message rest ask style n.tells.method n.tells.target
          n.next.found.cut n.next.found.request n.tells.line;
      events_are = ap (λ es. es ++ event_of answer style ∷ []) n.tells.events_are;
    }

    pub one_more_told : (kept : List ℕ) (next : ℕ) → kept ≡ rest → next ≡ count + 1 → (r : Option ConnEnd)
        → IsRepliedTo count (styled answer style) mid after r → r ≡ None
        → GoesOnTold (rules step telling max) (observed (progress count held first at mid) was)
        (observed (progress next kept left new after) is)
    unfolding one_more
    one_more_told kept next stays one None a e = record {
      goes_on =
          one_more step max count held rest first left ask style at new mid answer after kept next stays one None n.next
          same answered a e;
      events = both;
      tells = tells_both;
      told = heard_both;
    }
    one_more_told kept next stays one (Some x) a e = absurd (cc)

    -- how the connection stops behind the reply
    abbrev stopped : (kept : List ℕ) (next : ℕ) (r : Option ConnEnd)
        → IsRepliedTo count (styled answer style) mid after r
        → IfSome r (Stops step max (progress count held first at mid) (progress next kept left new after))
    stopped kept next r a =
        one_last step max count held rest first left ask style at new mid answer after kept next r n.next same answered
        a

    pub one_last_told : (kept : List ℕ) (next : ℕ) (r : Option ConnEnd)
        → IsRepliedTo count (styled answer style) mid after r
        → IfSome r (StopsTold (rules step telling max) (observed (progress count held first at mid) was)
        (observed (progress next kept left new after) is))
    unfolding one_last
    one_last_told kept next None a = tt
    one_last_told kept next (Some AfterClose) a =
        record { stops = stopped kept next (Some AfterClose) a; events = both; tells = tells_both; told = heard_both }
    one_last_told kept next (Some TooMany) a =
        record { stops = stopped kept next (Some TooMany) a; events = both; tells = tells_both; told = heard_both }
    one_last_told kept next (Some (Fault (Conn.Wire f))) a = absurd a
    one_last_told kept next (Some (Fault Conn.Write)) a = record {
      stops = stopped kept next (Some (Fault Conn.Write)) a;
      events = both;
      tells = tells_both;
      told = heard_both;
    }
    one_last_told kept next (Some other) a = absurd a

  -- the desk was gone
  pub gone_told : (kept : List ℕ) (next : ℕ) → step at ask None new
      → StopsTold (rules step telling max) (observed (progress count held first at mid) was)
      (observed (progress next kept left new mid) heard) DeskGone
  gone_told kept next gone = record {
    stops = stops n.next.given n.next.gives same (
      record {
        message = n.next.found.message;
        more = rest;
        ask = ask;
        style = style;
        read = n.next.found.cut;
        request = n.next.found.request;
        gone = gone;
      },
      refl,
    );
    events = n.events;
    tells = n.tells;
    told = n.told;
  }

  -- the desk can't be asked it
  pub unasked_told : (kept : List ℕ) (next : ℕ) → new ≡ at
      → StopsTold (rules step telling max) (observed (progress count held first at mid) was)
      (observed (progress next kept left new mid) heard) (Fault (Conn.Wire Wire.NoMemory))
  unasked_told kept next stays = record {
    stops = stops n.next.given n.next.gives same (tt, record { unasked = stays; unwritten = refl });
    events = n.events;
    tells = inr n.tells;
    told = n.told;
  }

module _ {D O : Type 0} (step : Moves D) (telling : Telling O) (max count : ℕ) (held rest : List ℕ)
    (first left : SourceState) (at : D) (mid : SinkState)
    (was heard : O) where
  -- what came was refused
  module _ (why : Bad)
      (n : ReadsTold telling max (listening (input_state held first) was) (listening (input_state rest left) heard)
      (Ok (nexts.Bad why)))
      (same : left.failed_reads ≡ first.failed_reads) (after : SinkState) (is : O)
      (replied : telling heard (Replied (status_number (bad_status why)) 0) is) where
    refused : List Event
    refused = n.events ++ Replied (status_number (bad_status why)) 0 ∷ []

    heard_refused : Hears telling was refused is
    unfolding refused
    heard_refused = search (rules, arith, hears_more)

    tells_refused : TellsRefusal (held ++ n.next.given) why refused
    unfolding refused
    tells_refused = search (rules, arith)

    abbrev as_refused : (kept : List ℕ) (next : ℕ) (end : ConnEnd) → RefusedWith mid after why end
        → Stops step max (progress count held first at mid) (progress next kept left at after) end
    as_refused kept next end a =
        after_refusal step max (progress count held first at mid) (progress next kept left at after) rest why end n.next
        same refl a

    pub refusal_told : (kept : List ℕ) (next : ℕ) (end : ConnEnd) → RefusedWith mid after why end
        → StopsTold (rules step telling max) (observed (progress count held first at mid) was)
        (observed (progress next kept left at after) is) end
    unfolding after_refusal
    refusal_told kept next AfterBad a = record {
      stops = as_refused kept next AfterBad a;
      events = refused;
      tells = tells_refused;
      told = heard_refused;
    }
    refusal_told kept next (Fault Conn.Write) a = record {
      stops = as_refused kept next (Fault Conn.Write) a;
      events = refused;
      tells = tells_refused;
      told = heard_refused;
    }
    refusal_told kept next (Fault (Conn.Wire fault)) a = absurd a
    refusal_told kept next other a = absurd a

  reads_fail : (fault : WireFault)
      → Costs (most_reads max) (◌≡◌ {A = Result Came WireFault} (Err fault) (Err Wire.Read)) first left
      → ReadsFail (Fault (Conn.Wire fault)) first.failed_reads left.failed_reads
  reads_fail Wire.Read costs = costs.failed refl
  reads_fail other costs = costs.unfailed (λ e. cc)

  wire_stops : (fault : WireFault) (text : List ℕ) → FindsNext max text (input_state rest left) (Err fault)
      → WireStops max text left fault
  wire_stops Wire.Truncated text found = found
  wire_stops other text found = found

  -- no more could be read
  pub stopped_told : (fault : WireFault)
      → ReadsTold telling max (listening (input_state held first) was) (listening (input_state rest left) heard)
      (Err fault)
      → Costs (most_reads max) (◌≡◌ {A = Result Came WireFault} (Err fault) (Err Wire.Read)) first left
      → (kept : List ℕ) (next : ℕ)
      → StopsTold (rules step telling max) (observed (progress count held first at mid) was)
      (observed (progress next kept left at mid) heard) (Fault (Conn.Wire fault))
  stopped_told fault n costs kept next = record {
    stops = stops n.next.given n.next.gives (reads_fail fault costs)
        (wire_stops fault (held ++ n.next.given) n.next.found, record { unasked = refl; unwritten = refl });
    events = n.events;
    tells = n.tells;
    told = n.told;
  }

-- ---- many

each_more : (xs : List WireExchange) (x : WireExchange) (es fs : List Event) → TellsEach xs es → TellsExchange x fs
    → TellsEach (xs ++ x ∷ []) (es ++ fs)
each_more [] x es fs h k = (fs, [], k, refl, ap (λ l. l ++ fs) h ∙ sym (append-nil fs))
each_more (y ∷ xs) x es fs h k = search (rules, arith, append_assoc, each_more xs x h.1 fs h.3 k)

-- what a connection has done, and what its observer was told of it
pub record SoFarTold {D O : Type 0} (r : Rules D O) (begun now : Observed D O) : Type 0 where
  pub so_far : SoFar r.moves r.max_body begun.progress now.progress
  pub events : List Event
  pub each : TellsEach so_far.exchanges events
  pub told : Hears r.told begun.observer events now.observer

pub starts_told : {D O : Type 0} (step : Moves D) (telling : Telling O) (max before : ℕ) (left : List ℕ)
    (source : SourceState) (desk : D) (sink : SinkState) (observer : O)
    (held : List ℕ) (answered : ℕ) → held ≡ [] → answered ≡ 0
    → SoFarTold (rules step telling max) (observed (progress before left source desk sink) observer)
    (observed (progress answered held source desk sink) observer)
unfolding starts
starts_told step telling max before left source desk sink observer held answered empty none = record {
  so_far = starts step max before left source desk sink held answered empty none;
  events = [];
  each = refl;
  told = refl;
}

pub goes_on_told : {D O : Type 0} (step : Moves D) (telling : Telling O) (max limit : ℕ) (begun now next : Observed D O)
    → limit ≡ max → SoFarTold (rules step telling max) begun now → GoesOnTold (rules step telling limit) now next
    → SoFarTold (rules step telling max) begun next
unfolding goes_on
goes_on_told step telling max limit begun now next same s more =
    let n = subst (λ k. GoesOnTold (rules step telling k) now next) same more in
    record {
      so_far = goes_on step max begun.progress now.progress next.progress s.so_far n.goes_on;
      events = s.events ++ n.events;
      each = each_more s.so_far.exchanges n.goes_on.exchange s.events n.events s.each n.tells;
      told = hears_more telling begun.observer now.observer next.observer s.events n.events s.told n.told;
    }

abbrev ending_at : {D : Type 0} → Moves D → ℕ → Progress D → Progress D → List ℕ → ℕ → Ending D
ending_at step max now last given count = record {
  moves = step;
  max_body = max;
  stood = stand count (now.held ++ given) now.desk now.sink;
  left = connection last.source last.desk last.sink;
}

pub ends_told : {D O : Type 0} (step : Moves D) (telling : Telling O) (max limit : ℕ) (begun now last : Observed D O)
    (end : ConnEnd) → limit ≡ max → SoFarTold (rules step telling max) begun now
    → StopsTold (rules step telling limit) now last end → IsTold (rules step telling max)
    (sides begun.progress.source begun.progress.desk begun.observer begun.progress.sink)
    (sides last.progress.source last.progress.desk last.observer last.progress.sink) end
unfolding ends
ends_told {D} {O} step telling max limit begun now last end same s stopped =
    let n = subst (λ k. StopsTold (rules step telling k) now last end) same stopped in
    let k : ℕ → Ending D = λ count. ending_at step max now.progress last.progress n.stops.given count in
    let e : (e : EndsAs (k (length s.so_far.exchanges)) end)
    × TellsEnd (k (length s.so_far.exchanges)) end e n.events =
    subst (λ count. (e : EndsAs (k count) end) × TellsEnd (k count) end e n.events) (sym s.so_far.counted)
    (n.stops.ended, n.tells) in
    record {
      conversation = ends step max begun.progress now.progress last.progress end s.so_far n.stops e.0;
      of_exchanges = s.events;
      of_end = n.events;
      each = s.each;
      last = e.1;
      told = hears_more telling begun.observer now.observer last.observer s.events n.events s.told n.told;
    }
