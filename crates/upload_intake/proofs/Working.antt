-- What a worker's loop keeps, and what all its conversations added to its seat.
use Rattle.std.proofs.Common.{◌≡◌, ℕ, ◌+◌, min, Bool, true, false, true≢false, List, [], ◌∷◌, ◌++◌, length}
use Rattle.std.proofs.Common.{cond, Option, Some, None, sym, refl, ap, ◌∙◌, subst, inl, inr, ◌⊎◌, ⊎_elim, append-nil}
use Rattle.std.proofs.Common.{append_assoc, length-append, arith}
use Rattle.std.proofs.lemmas.List.Elements.{filter-append}
use Rattle.upload_service.specs.declared.ask.Ask.{Ask}
use Rattle.upload_service.specs.declared.answer.Answer.{Answer}
use Rattle.upload_keeper.specs.Seats.{SeatState}
use Rattle.upload_intake.specs.Watched.{GateAt, WatchesEach, WatchesLast}
use Rattle.upload_intake.specs.Desks.{seat_of, secrets_of}
use Rattle.upload_intake.specs.declared.desk.GatedDesk.{GatedDesk}
use Rattle.upload_intake.specs.declared.work.WorkerEnd.{WorkerEnd}
use Rattle.upload_keeper.specs.Settled.{count_limit}
use Rattle.upload_intake.specs.SeatConversations.{Adds}
use Rattle.upload_intake.specs.Pools.Working.{Lending, Means, Lent, Behind, is_clean, is_gone, Serves, IsLast, Talk}
use Rattle.upload_intake.specs.Pools.Working.{connection_given, connection_left, steps}
use Rattle.upload_intake.specs.Pools.Working.{answered_on, unanswered_on, all_answered, all_unanswered, count_clean}
use Rattle.upload_intake.specs.Pools.Working.{TellsTalk, TellsTalks}
use Rattle.upload_intake.specs.Pools.Working.{IsWorked}
use Rattle.upload_intake.proofs.Conversations.{GatedSteps, gate_at}
use Rattle.upload_intake.proofs.SeatConversations.{adds_none, adds_twice, fills}
use Rattle.upload_intake.proofs.Watching.{each_twice, watched_on, watched_lost}
use Rattle.upload_wire.specs.Conversation as wire
use Rattle.upload_wire.specs.Conversation.{Moves, WireExchange, Answers, ConnectionState, connection, stand, EndsWith}
use Rattle.upload_wire.specs.Conversation.{IsConversation}
use Rattle.upload_wire.specs.Events.{Event, Hears}
use Rattle.upload_wire.specs.Told.{TellsEnd, IsTold, rules, sides}
use Rattle.upload_wire.proofs.ToldLemmas.{hears_more}
use Rattle.upload_wire.specs.ConnectionRuns.{answered_last, unanswered_last, answered, unanswered}
use Rattle.upload_wire.specs.declared.connection.ConnEnd.{ConnEnd}
use Rattle.upload_wire.specs.declared.connection.ConnEnd.TheVariants.{Clean, AfterClose, AfterBad, TooMany, DeskGone}
use Rattle.upload_wire.specs.declared.connection.ConnEnd.TheVariants.{Fault}
use Rattle.upload_wire.specs.declared.connection.ConnFault.TheVariants as Conn

-- ---- a conversation over a desk of which less is seen

module _ {D E : Type 0} (step : Moves D) (seen : Moves E) (see : D → E)
    (each : (old : D) (ask : Ask) (answer : Option Answer) (new : D) → step old ask answer new
    → seen (see old) ask answer (see new)) where
  see_answers : (xs : List WireExchange) (old at : D) → Answers step old xs at → Answers seen (see old) xs (see at)
  see_answers [] old at a = ap see a
  see_answers (x ∷ xs) old at a = (see a.0, each old x.ask (Some x.answer) a.0 a.1, see_answers xs a.0 at a.2)

  abbrev see_standing : wire.Standing D → wire.Standing E
  see_standing s = stand s.answered s.held (see s.desk) s.sink

  abbrev pub see_connection : ConnectionState D → ConnectionState E
  see_connection c = connection c.source (see c.desk) c.sink

  see_end : (max_body : ℕ) (s : wire.Standing D) (new : ConnectionState D) (end : ConnEnd)
      → EndsWith step max_body s new end → EndsWith seen max_body (see_standing s) (see_connection new) end
  see_end max_body s new Clean e = (e.0, e.1, record { unasked = ap see e.2.unasked; unwritten = e.2.unwritten })
  see_end max_body s new AfterClose e = (
    e.0,
    record {
      more = e.1.more;
      read = e.1.read;
      request = e.1.request;
      answered = each s.desk e.0.ask (Some e.0.answer) new.desk e.1.answered;
    },
    e.2,
    e.3,
  )
  see_end max_body s new AfterBad e = (e.0, record { bad = e.1.bad; unasked = ap see e.1.unasked }, e.2)
  see_end max_body s new TooMany e = (
    e.0,
    record {
      more = e.1.more;
      read = e.1.read;
      request = e.1.request;
      answered = each s.desk e.0.ask (Some e.0.answer) new.desk e.1.answered;
    },
    e.2,
    e.3,
    e.4,
  )
  see_end max_body s new DeskGone e = (
    record {
      message = e.0.message;
      more = e.0.more;
      ask = e.0.ask;
      style = e.0.style;
      read = e.0.read;
      request = e.0.request;
      gone = each s.desk e.0.ask None new.desk e.0.gone;
    },
    e.1,
  )
  see_end max_body s new (Fault (Conn.Wire fault)) e =
      (e.0, record { unasked = ap see e.1.unasked; unwritten = e.1.unwritten })
  see_end max_body s new (Fault Conn.Write) e =
      ⊎_elim (λ h. inl (
        h.0,
        record {
          more = h.1.more;
          read = h.1.read;
          request = h.1.request;
          answered = each s.desk h.0.ask (Some h.0.answer) new.desk h.1.answered;
        },
        h.2,
      ))
      (λ h. inr (h.0, record { bad = h.1.bad; unasked = ap see h.1.unasked }, h.2)) e

  pub seen_as : (max_body : ℕ) (old new : ConnectionState D) (end : ConnEnd)
      → IsConversation step max_body old new end
      → IsConversation seen max_body (see_connection old) (see_connection new) end
  seen_as max_body old new end c = record {
    bytes = c.bytes;
    gives = c.gives;
    reads = c.reads;
    exchanges = c.exchanges;
    rest = c.rest;
    at = see c.at;
    mid = c.mid;
    served = record {
      few = c.served.few;
      counted = c.served.counted;
      read = c.served.read;
      kept = c.served.kept;
      answered = see_answers c.exchanges old.desk c.at c.served.answered;
      written = c.served.written;
      handed_on = c.served.handed_on;
    };
    ended = see_end max_body (stand (length c.exchanges) c.rest c.at c.mid) new end c.ended;
  }

  -- the same is answered and unanswered there
  see_answered : (max_body : ℕ) (s : wire.Standing D) (new : ConnectionState D) (end : ConnEnd)
      (e : EndsWith step max_body s new end)
      → answered_last seen max_body (see_standing s) (see_connection new) end (see_end max_body s new end e)
      ≡ answered_last step max_body s new end e
  unfolding see_end
  see_answered max_body s new Clean e = refl
  see_answered max_body s new AfterClose e = refl
  see_answered max_body s new AfterBad e = refl
  see_answered max_body s new TooMany e = refl
  see_answered max_body s new DeskGone e = refl
  see_answered max_body s new (Fault (Conn.Wire fault)) e = refl
  see_answered max_body s new (Fault Conn.Write) (inl h) = refl
  see_answered max_body s new (Fault Conn.Write) (inr h) = refl

  see_unanswered : (max_body : ℕ) (s : wire.Standing D) (new : ConnectionState D) (end : ConnEnd)
      (e : EndsWith step max_body s new end)
      → unanswered_last seen max_body (see_standing s) (see_connection new) end (see_end max_body s new end e)
      ≡ unanswered_last step max_body s new end e
  unfolding see_end
  see_unanswered max_body s new Clean e = refl
  see_unanswered max_body s new AfterClose e = refl
  see_unanswered max_body s new AfterBad e = refl
  see_unanswered max_body s new TooMany e = refl
  see_unanswered max_body s new DeskGone e = refl
  see_unanswered max_body s new (Fault (Conn.Wire fault)) e = refl
  see_unanswered max_body s new (Fault Conn.Write) e = refl

  -- the same is told of it there
  see_tells : (max_body : ℕ) (s : wire.Standing D) (new : ConnectionState D) (end : ConnEnd)
      (e : EndsWith step max_body s new end) (events : List Event)
      → TellsEnd (record { moves = step; max_body = max_body; stood = s; left = new }) end e events
      → TellsEnd (record {
        moves = seen;
        max_body = max_body;
        stood = see_standing s;
        left = see_connection new;
      }) end (see_end max_body s new end e) events
  unfolding see_end
  see_tells max_body s new Clean e events told = told
  see_tells max_body s new AfterClose e events told = told
  see_tells max_body s new AfterBad e events told = told
  see_tells max_body s new TooMany e events told = told
  see_tells max_body s new DeskGone e events told = told
  see_tells max_body s new (Fault (Conn.Wire fault)) e events told = told
  see_tells max_body s new (Fault Conn.Write) (inl h) events told = told
  see_tells max_body s new (Fault Conn.Write) (inr h) events told = told

-- ---- ends

pub behind : (end : ConnEnd) (A B : Type 0) → Behind end A B → ((end ≡ DeskGone) × A) ⊎ ((end ≡ DeskGone → ⊥) × B)
behind end A B x = search (rules, arith)

goes_on : (end : ConnEnd) (A B : Type 0) → (end ≡ DeskGone → ⊥) → B → Behind end A B
goes_on end A B there x = search (rules, arith)

is_over : (end : ConnEnd) (A B : Type 0) → end ≡ DeskGone → A → Behind end A B
is_over end A B gone x = subst (λ e. Behind e A B) (sym gone) x

pub not_gone : (end : ConnEnd) → is_gone end ≡ false → end ≡ DeskGone → ⊥
not_gone end there gone = true≢false (sym (ap is_gone gone) ∙ there)

pub gone_is : (end : ConnEnd) → is_gone end ≡ true → end ≡ DeskGone
gone_is end gone = search (rules, arith)

module _ {D : Type 0} (step : Moves D) (max_body : ℕ) (s : wire.Standing D) (new : ConnectionState D) where
  all_heard : (end : ConnEnd) (e : EndsWith step max_body s new end) → (end ≡ DeskGone → ⊥)
      → unanswered_last step max_body s new end e ≡ []
  all_heard end e there = search (rules, arith)

-- ---- the history

module _ {L : Lending} {S G O : Type 0} (m : Means L S G O) (max_body : ℕ) where
  -- what a worker has served if it goes on
  abbrev pub SoFar : L.Conns → SeatState × S → List (Talk m max_body) → L.Conns → SeatState × S → Type 0
  SoFar conns desk [] conns' desk' = (conns' ≡ conns) × (desk' ≡ desk)
  SoFar conns desk (t ∷ ts) conns' desk' =
      (mid : L.Conns) × (back : L.Conns) × L.gives conns (Some (t.reader, t.writer)) mid
      × L.takes_back mid (t.reader_left, t.writer_left) back × (t.old ≡ desk) × (t.end ≡ DeskGone → ⊥)
      × SoFar back t.new ts conns' desk'

  -- it was given a connection and gave it back
  abbrev pub Passes : L.Conns → Talk m max_body → L.Conns → Type 0
  Passes conns t back =
      (mid : L.Conns) × L.gives conns (Some (t.reader, t.writer)) mid
      × L.takes_back mid (t.reader_left, t.writer_left) back

  one_more : (conns : L.Conns) (desk : SeatState × S) (ts : List (Talk m max_body)) (conns' : L.Conns)
      (desk' : SeatState × S) → SoFar conns desk ts conns' desk' → (t : Talk m max_body) (back : L.Conns)
      → Passes conns' t back → t.old ≡ desk' → (t.end ≡ DeskGone → ⊥) → SoFar conns desk (ts ++ t ∷ []) back t.new
  one_more conns desk [] conns' desk' so t back passed stands there = search (rules, arith)
  one_more conns desk (u ∷ us) conns' desk' so t back passed stands there =
      search (rules, arith, one_more so.1 u.new us conns' desk' so.6 t back passed stands there)

  none_came : (conns : L.Conns) (desk : SeatState × S) (ts : List (Talk m max_body)) (conns' : L.Conns)
      (desk' : SeatState × S) → SoFar conns desk ts conns' desk' → (left : L.Conns) → L.gives conns' None left
      → Serves m max_body conns desk ts left desk'
  none_came conns desk [] conns' desk' so left given = (subst (λ c. L.gives c None left) so.0 given, so.1)
  none_came conns desk (u ∷ us) conns' desk' so left given =
      search (rules, arith, goes_on, none_came so.1 u.new us conns' desk' so.6 left given)

  gone_at : (conns : L.Conns) (desk : SeatState × S) (ts : List (Talk m max_body)) (conns' : L.Conns)
      (desk' : SeatState × S) → SoFar conns desk ts conns' desk' → (t : Talk m max_body) (back : L.Conns)
      → Passes conns' t back → t.old ≡ desk' → t.end ≡ DeskGone
      → Serves m max_body conns desk (ts ++ t ∷ []) back t.new
  gone_at conns desk [] conns' desk' so t back passed stands gone = search (rules, arith, is_over)
  gone_at conns desk (u ∷ us) conns' desk' so t back passed stands gone =
      search (rules, arith, goes_on, gone_at so.1 u.new us conns' desk' so.6 t back passed stands gone)

  -- all that was asked and answered was added to the seat
  fills_by : (t : Talk m max_body) → Adds t.old.0 t.new.0 (answered_on m max_body t) (unanswered_on m max_body t)
  fills_by t =
      fills {D = SeatState × S} {S = S} m.draws (λ d. d.0) (λ d. d.1) max_body (connection_given m max_body t)
      (connection_left m max_body t) t.end t.conversation

  -- where a connection stood when it ended
  abbrev stood : Talk m max_body → wire.Standing (SeatState × S)
  stood t = stand (length t.conversation.exchanges) t.conversation.rest t.conversation.at t.conversation.mid

  pub adds_all : (conns left : L.Conns) (desk : SeatState × S) (ts : List (Talk m max_body)) (new : SeatState × S)
      → Serves m max_body conns desk ts left new
      → Adds desk.0 new.0 (all_answered m max_body ts) (all_unanswered m max_body ts)
  adds_all conns left desk [] new s = adds_none desk.0 new.0 (ap (λ d. d.0) s.1)
  adds_all conns left desk (t ∷ ts) new s =
      let first : Adds desk.0 t.new.0 (answered_on m max_body t) (unanswered_on m max_body t) =
      subst (λ d. Adds d.0 t.new.0 (answered_on m max_body t) (unanswered_on m max_body t)) s.4 (fills_by t) in
      ⊎_elim
      (λ (x : (t.end ≡ DeskGone) × IsLast m max_body s.1 t ts left new).
      subst (λ (us : List (Talk m max_body)).
      Adds desk.0 new.0 (all_answered m max_body (t ∷ us)) (all_unanswered m max_body (t ∷ us))) (sym x.1.0)
      (subst (λ (d : SeatState × S).
      Adds desk.0 d.0 (answered_on m max_body t ++ []) (unanswered_on m max_body t ++ [])) (sym x.1.2)
      (subst (λ (l : List WireExchange). Adds desk.0 t.new.0 l (unanswered_on m max_body t ++ []))
      (sym (append-nil (answered_on m max_body t)))
      (subst (λ (l : List Ask). Adds desk.0 t.new.0 (answered_on m max_body t) l)
      (sym (append-nil (unanswered_on m max_body t))) first))))
      (λ (x : (t.end ≡ DeskGone → ⊥) × Serves m max_body s.1 t.new ts left new).
      let heard : unanswered_on m max_body t ≡ [] =
      all_heard (steps m max_body) max_body (stood t) (connection_left m max_body t) t.end t.conversation.ended x.0 in
      subst (λ (l : List Ask). Adds desk.0 new.0 (all_answered m max_body (t ∷ ts)) (l ++ all_unanswered m max_body ts))
      (sym heard)
      (adds_twice desk.0 t.new.0 new.0 (answered_on m max_body t) (all_answered m max_body ts)
      (all_unanswered m max_body ts)
      (subst (λ (l : List Ask). Adds desk.0 t.new.0 (answered_on m max_body t) l) heard first)
      (adds_all s.1 left t.new ts new x.1)))
      (behind t.end (IsLast m max_body s.1 t ts left new) (Serves m max_body s.1 t.new ts left new) s.5)

  -- ---- what the gate and the observer are told, and the counts

  answered_more : (ts : List (Talk m max_body)) (t : Talk m max_body)
      → all_answered m max_body (ts ++ t ∷ []) ≡ all_answered m max_body ts ++ answered_on m max_body t
  answered_more [] t = append-nil (answered_on m max_body t)
  answered_more (u ∷ us) t = simp (append_assoc, answered_more us t)

  unanswered_more : (ts : List (Talk m max_body)) (t : Talk m max_body)
      → all_unanswered m max_body (ts ++ t ∷ []) ≡ all_unanswered m max_body ts ++ unanswered_on m max_body t
  unanswered_more [] t = append-nil (unanswered_on m max_body t)
  unanswered_more (u ∷ us) t = simp (append_assoc, unanswered_more us t)

  tells_more : (ts : List (Talk m max_body)) (t : Talk m max_body) (es fs : List Event) → TellsTalks m max_body ts es
      → TellsTalk m max_body t fs → TellsTalks m max_body (ts ++ t ∷ []) (es ++ fs)
  tells_more [] t es fs h k = (fs, [], k, refl, ap (λ l. l ++ fs) h ∙ sym (append-nil fs))
  tells_more (u ∷ us) t es fs h k = search (rules, arith, append_assoc, tells_more us t h.1 fs h.3 k)

  -- where a worker's loop stands: its connections, its seat with its secrets, its gate, its observer, and its counts
  pub record Standing : Type 0 where
    pub conns : L.Conns
    pub desk : SeatState × S
    pub gate : GateAt G
    pub observer : O
    pub end : WorkerEnd

  -- what it was lent stands so behind that
  abbrev pub back_at : Standing → Lent L S G O
  back_at at = record { conns = at.conns; secrets = at.desk.1; gate = at.gate.gate; observer = at.observer }

  abbrev pub standing : {R : Type 0} → L.Conns → GatedDesk R S G → O → WorkerEnd → Standing
  standing conns d observer end = record {
    conns = conns;
    desk = (seat_of d.desk, secrets_of d.desk);
    gate = gate_at d;
    observer = observer;
    end = end;
  }

  -- a worker that is done and stands there
  abbrev pub Ended : Lent L S G O → SeatState → Standing → Type 0
  Ended lent seat at = IsWorked m max_body lent seat (back_at at) at.desk.0 at.end

  -- a worker that goes on from there
  pub record Working (lent : Lent L S G O) (seat : SeatState) (at : Standing) : Type 0 where
    pub talks : List (Talk m max_body)
    pub so_far : SoFar lent.conns (seat, lent.secrets) talks at.conns at.desk
    pub watched : WatchesEach m.watches (record { gate = lent.gate; turn = 0 }) (all_answered m max_body talks) at.gate
    pub none_lost : all_unanswered m max_body talks ≡ []
    pub events : List Event
    pub tells : TellsTalks m max_body talks events
    pub heard : Hears m.told lent.observer events at.observer
    pub counted : at.end.conns ≡ min (length talks) count_limit
    pub clean_ones : at.end.clean ≡ min (count_clean m max_body talks) count_limit

  clean_step : (b : Bool) (t : Talk m max_body) → length (cond b (t ∷ []) []) ≡ cond b 1 0
  clean_step true t = refl
  clean_step false t = refl

  count_more : (ts : List (Talk m max_body)) (t : Talk m max_body)
      → count_clean m max_body (ts ++ t ∷ []) ≡ count_clean m max_body ts + cond (is_clean t.end) 1 0
  count_more ts t = simp (filter-append, length-append, clean_step)

  abbrev pub at_first : Lent L S G O → SeatState → Standing
  at_first lent seat = record {
    conns = lent.conns;
    desk = (seat, lent.secrets);
    gate = record { gate = lent.gate; turn = 0 };
    observer = lent.observer;
    end = record { conns = 0; clean = 0 };
  }

  pub begins : (lent : Lent L S G O) (seat : SeatState) → Working lent seat (at_first lent seat)
  begins lent seat = record {
    talks = [];
    so_far = (refl, refl);
    watched = refl;
    none_lost = refl;
    events = [];
    tells = refl;
    heard = refl;
    counted = refl;
    clean_ones = refl;
  }

  module _ (lent : Lent L S G O) (seat : SeatState) (at : Standing) (w : Working lent seat at) where
    pub ends_at_none : (left : L.Conns) → L.gives at.conns None left
        → Ended lent seat (record at { conns = left })
    ends_at_none left given = record {
      talks = w.talks;
      served = none_came lent.conns (seat, lent.secrets) w.talks at.conns at.desk w.so_far left given;
      watched = record {
        behind = at.gate;
        each = w.watched;
        last = subst (λ l. WatchesLast m.watches at.gate l at.gate.gate) (sym w.none_lost) refl;
      };
      events = w.events;
      tells = w.tells;
      heard = w.heard;
      counted = w.counted;
      clean_ones = w.clean_ones;
    }

    -- behind one connection more
    module _ (t : Talk m max_body) (next : Standing) (more : List Event) (tells : TellsTalk m max_body t more)
        (hears : Hears m.told at.observer more next.observer)
        (passed : Passes at.conns t next.conns) (stands : t.old ≡ at.desk)
        (left_so : next.desk ≡ t.new)
        (conns_count : next.end.conns ≡ min (at.end.conns + 1) count_limit)
        (clean_count : next.end.clean ≡ min (at.end.clean + cond (is_clean t.end) 1 0) count_limit) where
      counted : next.end.conns ≡ min (length (w.talks ++ t ∷ [])) count_limit
      counted = let n = w.counted in let l = length-append w.talks (t ∷ []) in omega arith

      clean_ones : next.end.clean ≡ min (count_clean m max_body (w.talks ++ t ∷ [])) count_limit
      clean_ones = let n = w.clean_ones in let l = count_more w.talks t in omega arith

      -- with what the gate was told on this connection
      told_too : (gate : GateAt G) → WatchesEach m.watches at.gate (answered_on m max_body t) gate
          → WatchesEach m.watches (record { gate = lent.gate; turn = 0 }) (all_answered m max_body (w.talks ++ t ∷ []))
          gate
      told_too gate told = search (rules, arith, answered_more, each_twice)

      lost_too : all_unanswered m max_body (w.talks ++ t ∷ []) ≡ unanswered_on m max_body t
      lost_too = unanswered_more w.talks t ∙ ap (λ l. l ++ unanswered_on m max_body t) w.none_lost

      heard_too : Hears m.told lent.observer (w.events ++ more) next.observer
      heard_too = hears_more m.told lent.observer at.observer next.observer w.events more w.heard hears

      pub talked : WatchesEach m.watches at.gate (answered_on m max_body t) next.gate → (t.end ≡ DeskGone → ⊥)
          → Working lent seat next
      talked told there =
          search (rules, arith, one_more, told_too, lost_too, all_heard, tells_more, heard_too, counted, clean_ones)

      pub ends_gone : (gate : GateAt G) → WatchesEach m.watches at.gate (answered_on m max_body t) gate
          → WatchesLast m.watches gate (unanswered_on m max_body t) next.gate.gate → t.end ≡ DeskGone
          → Ended lent seat next
      ends_gone gate told last gone = record {
        talks = w.talks ++ t ∷ [];
        served =
            subst (Serves m max_body lent.conns (seat, lent.secrets) (w.talks ++ t ∷ []) next.conns) (sym left_so)
            (gone_at lent.conns (seat, lent.secrets) w.talks at.conns at.desk w.so_far t next.conns passed stands gone);
        watched = record {
          behind = gate;
          each = told_too gate told;
          last = subst (λ l. WatchesLast m.watches gate l next.gate.gate) (sym lost_too) last;
        };
        events = w.events ++ more;
        tells = tells_more w.talks t w.events more w.tells tells;
        heard = heard_too;
        counted = counted;
        clean_ones = clean_ones;
      }

  -- ---- the same, seen from elsewhere

  -- a connection as it was served at the limit of this server
  pub at_limit : {R : Type 0} (reader reader_left : L.In) (writer writer_left : L.Out) (old new : GatedDesk R S G)
      (was is : O) (end : ConnEnd) (limit : ℕ) → limit ≡ max_body
      → IsTold (rules (GatedSteps {R = R} m.draws m.watches) m.told limit)
      (sides (L.reads reader) old was (L.writes writer)) (sides (L.reads reader_left) new is (L.writes writer_left)) end
      → IsTold (rules (GatedSteps {R = R} m.draws m.watches) m.told max_body)
      (sides (L.reads reader) old was (L.writes writer)) (sides (L.reads reader_left) new is (L.writes writer_left)) end
  at_limit {R} reader reader_left writer writer_left old new was is end limit same told =
      search (rules, arith, GatedSteps)

  module _ {R : Type 0} (reader reader_left : L.In) (writer writer_left : L.Out) (old new : GatedDesk R S G)
      (was is : O) (end : ConnEnd)
      (told : IsTold (rules (GatedSteps {R = R} m.draws m.watches) m.told max_body) (sides (L.reads reader) old was
      (L.writes writer)) (sides (L.reads reader_left) new is (L.writes writer_left)) end) where
    abbrev given : ConnectionState (GatedDesk R S G)
    given = connection (L.reads reader) old (L.writes writer)

    abbrev left : ConnectionState (GatedDesk R S G)
    left = connection (L.reads reader_left) new (L.writes writer_left)

    abbrev c : IsConversation (GatedSteps {R = R} m.draws m.watches) max_body given left end
    c = told.conversation

    abbrev stood_there : wire.Standing (GatedDesk R S G)
    stood_there = stand (length c.exchanges) c.rest c.at c.mid

    abbrev see : GatedDesk R S G → SeatState × S
    see d = (seat_of d.desk, secrets_of d.desk)

    -- a conversation over a gated desk is one over its seat
    abbrev pub talk_of : Talk m max_body
    talk_of = record {
      reader = reader;
      writer = writer;
      reader_left = reader_left;
      writer_left = writer_left;
      old = see old;
      new = see new;
      end = end;
      conversation =
          seen_as {D = GatedDesk R S G} {E = SeatState × S} (GatedSteps {R = R} m.draws m.watches)
          (steps m max_body) see (λ a ask answer b moved. moved.0)
          max_body given left end c;
    }

    same_answered : answered_on m max_body talk_of
        ≡ answered (GatedSteps {R = R} m.draws m.watches) max_body given left end c
    unfolding seen_as
    same_answered =
        ap (λ l. c.exchanges ++ l) (see_answered {D = GatedDesk R S G} {E = SeatState × S}
        (GatedSteps {R = R} m.draws m.watches) (steps m max_body) see (λ a ask answer b moved. moved.0)
        max_body stood_there left end c.ended)

    same_unanswered : unanswered_on m max_body talk_of
        ≡ unanswered (GatedSteps {R = R} m.draws m.watches) max_body given left end c
    unfolding seen_as
    same_unanswered =
        see_unanswered {D = GatedDesk R S G} {E = SeatState × S} (GatedSteps {R = R} m.draws m.watches)
        (steps m max_body) see (λ a ask answer b moved. moved.0) max_body stood_there left end c.ended

    -- what was told of it tells the talk
    pub tells_talk : TellsTalk m max_body talk_of (told.of_exchanges ++ told.of_end)
    unfolding seen_as
    tells_talk = record {
      of_exchanges = told.of_exchanges;
      of_end = told.of_end;
      each = told.each;
      last =
          see_tells {D = GatedDesk R S G} {E = SeatState × S} (GatedSteps {R = R} m.draws m.watches)
          (steps m max_body) see (λ a ask answer b moved. moved.0) max_body stood_there left end c.ended told.of_end
          told.last;
      events_are = refl;
    }

    -- and the gate was told of it
    pub told_on : (end ≡ DeskGone → ⊥)
        → WatchesEach m.watches (gate_at old) (answered_on m max_body talk_of) (gate_at new)
    told_on there = subst (λ l. WatchesEach m.watches (gate_at old) l (gate_at new)) (sym same_answered)
        (watched_on {D = GatedDesk R S G} m.watches (GatedSteps {R = R} m.draws m.watches) (λ d. gate_at d)
        (λ a ask answer b moved. moved.1) max_body given left end c there)

    pub told_gone : end ≡ DeskGone → (gate : GateAt G)
        × WatchesEach m.watches (gate_at old) (answered_on m max_body talk_of) gate
        × WatchesLast m.watches gate (unanswered_on m max_body talk_of) new.gate
    told_gone gone =
        let l =
        watched_lost {D = GatedDesk R S G} m.watches (GatedSteps {R = R} m.draws m.watches) (λ d. gate_at d)
        (λ a ask answer b moved. moved.1) max_body given left end c gone in (
          l.0,
          subst (λ xs. WatchesEach m.watches (gate_at old) xs l.0) (sym same_answered) l.1,
          subst (λ us. WatchesLast m.watches l.0 us new.gate) (sym same_unanswered) l.2,
        )
