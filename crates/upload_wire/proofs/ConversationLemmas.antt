-- One exchange after another.
use Rattle.std.proofs.Common.{◌≡◌, ℕ, ◌+◌, List, [], ◌∷◌, ◌++◌, length, refl, sym, ap, ◌∙◌, subst, append_assoc, inl}
use Rattle.std.proofs.Common.{inr, arith, length-append, lit<, rules}
use Rattle.std.specs.Prelude.{Option, Some, None, IfSome, Result, Ok, Err}
use Rattle.std.proofs.lemmas.List.{append-nil}
use Rattle.std.proofs.lemmas.Grind.{flat_map-append}
use Rattle.upload_service.specs.declared.ask.Ask.{Ask}
use Rattle.upload_service.specs.declared.answer.Answer.{Answer}
use Rattle.http_wire.specs.declared.fault.Bad.{Bad}
use Rattle.http_wire.specs.declared.fault.WireFault.TheVariants as Wire
use Rattle.upload_wire.specs.declared.request.Style.{Style}
use Rattle.upload_wire.specs.declared.request.Next.TheVariants.{Request}
use Rattle.upload_wire.specs.declared.request.Next.TheVariants as nexts
use Rattle.upload_wire.specs.declared.connection.ConnEnd.{ConnEnd}
use Rattle.upload_wire.specs.declared.connection.ConnEnd.TheVariants.{AfterClose, AfterBad, TooMany}
use Rattle.upload_wire.specs.declared.connection.ConnEnd.TheVariants.{Fault}
use Rattle.upload_wire.specs.declared.connection.ConnFault.TheVariants as Conn
use Rattle.upload_wire.specs.RequestText.{ReadsNext}
use Rattle.upload_wire.specs.ReplyText.{reply}
use Rattle.http_wire.specs.States.{SourceState, SinkState, input_state}
use Rattle.http_wire.specs.Reading.{Gives}
use Rattle.http_wire.specs.Writing.{TookAll}
use Rattle.upload_wire.specs.Conversation.{Moves, WireExchange, IsKept, messages, replies, Answers, HandedOn}
use Rattle.upload_wire.specs.Conversation.{HandedOnEach}
use Rattle.upload_wire.specs.Conversation.{AnswersEach, AnswersNext, ConnectionState, connection, stand, EndsWith}
use Rattle.upload_wire.specs.Conversation.{ReadsFail, IsConversation}
use Rattle.upload_wire.specs.Inner.ConversationSteps.{IsRepliedTo, styled, RefusedWith, Progress, progress, GoesOn}
use Rattle.upload_wire.specs.Inner.ConversationSteps.{Stops}
use Rattle.http_wire.proofs.GaveLemmas.{gives_none, gives_both}
use Rattle.http_wire.proofs.WritingLemmas.{takes_none, took_both}
use Rattle.upload_wire.proofs.Lists.{all_both}

pub took_none : (a : SinkState) → TookAll a a []
took_none a = record { takes = takes_none a; unfailed = refl }

pub ok_not_err : {T E : Type 0} (value : T) (error : E) → ◌≡◌ {A = Result T E} (Ok value) (Err error) → ⊥
ok_not_err value error same = cc

-- ---- one

-- an end at which the connection stops
abbrev pub stops : {D : Type 0} {step : Moves D} {max : ℕ} {old new : Progress D} {end : ConnEnd} (given : List ℕ)
    → Gives old.source new.source given → ReadsFail end old.source.failed_reads new.source.failed_reads
    → EndsWith step max (stand old.answered (old.held ++ given) old.desk old.sink)
    (connection new.source new.desk new.sink) end → Stops step max old new end
stops given gives reads ended = record { given = given; gives = gives; reads = reads; ended = ended }

module _ {D : Type 0} (step : Moves D) (max count : ℕ) (held rest : List ℕ) (first left : SourceState)
    (ask : Ask) (style : Style)
    (at new : D) (mid : SinkState) (answer : Answer) (after : SinkState) where
  unfoldable pub one_more : (kept : List ℕ) (next : ℕ) → kept ≡ rest → next ≡ count + 1 → (r : Option ConnEnd)
      → ReadsNext max (input_state held first) (input_state rest left) (Ok (Request ask style))
      → left.failed_reads ≡ first.failed_reads
      → step at ask (Some answer) new → IsRepliedTo count (styled answer style) mid after r → r ≡ None
      → GoesOn step max (progress count held first at mid) (progress next kept left new after)
  one_more kept next stays one None n same answered a e = record {
    given = n.given;
    gives = n.gives;
    unfailed = same;
    exchange = record { message = n.found.message; ask = ask; style = style; answer = answer };
    read = n.found.cut ∙ ap (λ t. n.found.message ++ t) (sym stays);
    kept = (n.found.request, a.1);
    answered = answered;
    written = a.0;
    counted = one;
    few = a.2;
  }
  one_more kept next stays one (Some x) n same answered a e = absurd (cc)

  -- the exchange that ended the connection
  abbrev last_exchange : ReadsNext max (input_state held first) (input_state rest left) (Ok (Request ask style))
      → WireExchange
  last_exchange n = record { message = n.found.message; ask = ask; style = style; answer = answer }

  pub answers_next : (n : ReadsNext max (input_state held first) (input_state rest left) (Ok (Request ask style)))
      → step at ask (Some answer) new
      → AnswersNext step max (stand count (held ++ n.given) at mid) new (last_exchange n)
  answers_next n answered = record { more = rest; read = n.found.cut; request = n.found.request; answered = answered }

  unfoldable pub one_last : (kept : List ℕ) (next : ℕ) (r : Option ConnEnd)
      → ReadsNext max (input_state held first) (input_state rest left) (Ok (Request ask style))
      → left.failed_reads ≡ first.failed_reads → step at ask (Some answer) new
      → IsRepliedTo count (styled answer style) mid after r
      → IfSome r (Stops step max (progress count held first at mid) (progress next kept left new after))
  one_last kept next None n same answered a = tt
  one_last kept next (Some AfterClose) n same answered a =
      stops n.given n.gives same (last_exchange n, answers_next n answered, a.1, a.0)
  one_last kept next (Some TooMany) n same answered a =
      stops n.given n.gives same (last_exchange n, answers_next n answered, a.1, a.2, a.0)
  one_last kept next (Some (Fault (Conn.Wire f))) n same answered a = absurd a
  one_last kept next (Some (Fault Conn.Write)) n same answered a =
      stops n.given n.gives same (inl (last_exchange n, answers_next n answered, a))
  one_last kept next (Some other) n same answered a = absurd a

unfoldable pub after_refusal : {D : Type 0} (step : Moves D) (max : ℕ) (old new : Progress D)
    (rest : List ℕ) (why : Bad) (end : ConnEnd)
    → ReadsNext max (input_state old.held old.source) (input_state rest new.source) (Ok (nexts.Bad why))
    → new.source.failed_reads ≡ old.source.failed_reads → new.desk ≡ old.desk → RefusedWith old.sink new.sink why end
    → Stops step max old new end
after_refusal step max old new rest why AfterBad n same unasked told =
    stops n.given n.gives same (why, record { bad = n.found; unasked = unasked }, told)
after_refusal step max old new rest why (Fault Conn.Write) n same unasked front =
    stops n.given n.gives same (inr (why, record { bad = n.found; unasked = unasked }, front))
after_refusal step max old new rest why (Fault (Conn.Wire fault)) n same unasked h = absurd h
after_refusal step max old new rest why other n same unasked h = absurd h

-- ---- many

pub answers_more : {D : Type 0} (step : Moves D) (old mid new : D) (xs : List WireExchange) (x : WireExchange)
    → Answers step old xs mid → step mid x.ask (Some x.answer) new → Answers step old (xs ++ x ∷ []) new
answers_more step old mid new [] x h k = (new, subst (λ d. step d x.ask (Some x.answer) new) (sym h) k, refl)
answers_more step old mid new (y ∷ xs) x h k = (h.0, h.1, answers_more step h.0 mid new xs x h.2 k)

pub handed_on_more : (old mid new : SinkState) (xs : List WireExchange) (x : WireExchange) → HandedOnEach old xs mid
    → HandedOn mid new (reply x.answer x.style) → HandedOnEach old (xs ++ x ∷ []) new
handed_on_more old mid new [] x h k = (new, subst (λ s. HandedOn s new (reply x.answer x.style)) (sym h) k, refl)
handed_on_more old mid new (y ∷ xs) x h k = (h.0, h.1, handed_on_more h.0 mid new xs x h.2 k)

pub messages_more : (xs : List WireExchange) (x : WireExchange) → messages (xs ++ x ∷ []) ≡ messages xs ++ x.message
messages_more xs x = search (rules, arith, flat_map-append, append-nil)

pub replies_more : (xs : List WireExchange) (x : WireExchange)
    → replies (xs ++ x ∷ []) ≡ replies xs ++ reply x.answer x.style
replies_more xs x = search (rules, arith, flat_map-append, append-nil)

-- what a connection has done that stood so when it began
pub record SoFar {D : Type 0} (step : Moves D) (max : ℕ) (begun now : Progress D) : Type 0 where
  pub given : List ℕ
  pub gives : Gives begun.source now.source given
  pub unfailed : now.source.failed_reads ≡ begun.source.failed_reads
  pub exchanges : List WireExchange
  pub counted : length exchanges ≡ now.answered
  pub served : AnswersEach step max (stand 0 given begun.desk begun.sink)
      (stand now.answered now.held now.desk now.sink) exchanges

unfoldable pub starts : {D : Type 0} (step : Moves D) (max : ℕ) (before : ℕ) (left : List ℕ)
    (source : SourceState) (desk : D) (sink : SinkState) (held : List ℕ) (answered : ℕ) → held ≡ [] → answered ≡ 0
    → SoFar step max (progress before left source desk sink) (progress answered held source desk sink)
starts step max before left source desk sink held answered empty none = record {
  given = [];
  gives = gives_none source;
  unfailed = refl;
  exchanges = [];
  counted = sym none;
  served = record {
    few = lit< tt;
    counted = none;
    read = sym empty;
    kept = tt;
    answered = refl;
    written = took_none sink;
    handed_on = refl;
  };
}

unfoldable pub goes_on : {D : Type 0} (step : Moves D) (max : ℕ) (begun now next : Progress D)
    → SoFar step max begun now → GoesOn step max now next → SoFar step max begun next
goes_on step max begun now next s n =
    let counted = s.counted in
    let one = n.counted in
    record {
      given = s.given ++ n.given;
      gives = gives_both begun.source now.source next.source s.given n.given s.gives n.gives;
      unfailed = n.unfailed ∙ s.unfailed;
      exchanges = s.exchanges ++ n.exchange ∷ [];
      counted = omega (arith, counted, one, length-append s.exchanges (n.exchange ∷ []));
      served = record {
        few = omega (arith, counted, n.few, length-append s.exchanges (n.exchange ∷ []));
        counted = omega (arith, counted, one, length-append s.exchanges (n.exchange ∷ []));
        read = ap (λ t. t ++ n.given) s.served.read ∙ append_assoc (messages s.exchanges) now.held n.given
            ∙ ap (λ t. messages s.exchanges ++ t) n.read
            ∙ sym (append_assoc (messages s.exchanges) n.exchange.message next.held)
            ∙ ap (λ t. t ++ next.held) (sym (messages_more s.exchanges n.exchange));
        kept = all_both (IsKept max) s.exchanges (n.exchange ∷ []) s.served.kept (n.kept, tt);
        answered = answers_more step begun.desk now.desk next.desk s.exchanges n.exchange s.served.answered n.answered;
        written = subst (TookAll begun.sink next.sink) (sym (replies_more s.exchanges n.exchange))
            (took_both begun.sink now.sink next.sink (replies s.exchanges) (reply n.exchange.answer n.exchange.style)
            s.served.written n.written.took);
        handed_on = handed_on_more begun.sink now.sink next.sink s.exchanges n.exchange s.served.handed_on n.written;
      };
    }

pub reads_fail_from : (end : ConnEnd) (a b c : ℕ) → b ≡ a → ReadsFail end b c → ReadsFail end a c
reads_fail_from end a b c same h = subst (λ n. ReadsFail end n c) same h

unfoldable pub ends : {D : Type 0} (step : Moves D) (max : ℕ) (begun now last : Progress D) (end : ConnEnd)
    (s : SoFar step max begun now)
    (n : Stops step max now last end)
    → EndsWith step max (stand (length s.exchanges) (now.held ++ n.given) now.desk now.sink)
    (connection last.source last.desk last.sink) end
    → IsConversation step max (connection begun.source begun.desk begun.sink)
    (connection last.source last.desk last.sink) end
ends step max begun now last end s n ended = record {
  bytes = s.given ++ n.given;
  gives = gives_both begun.source now.source last.source s.given n.given s.gives n.gives;
  reads =
      reads_fail_from end begun.source.failed_reads now.source.failed_reads last.source.failed_reads s.unfailed n.reads;
  exchanges = s.exchanges;
  rest = now.held ++ n.given;
  at = now.desk;
  mid = now.sink;
  served = record {
    few = s.served.few;
    counted = omega arith;
    read = ap (λ t. t ++ n.given) s.served.read ∙ append_assoc (messages s.exchanges) now.held n.given;
    kept = s.served.kept;
    answered = s.served.answered;
    written = s.served.written;
    handed_on = s.served.handed_on;
  };
  ended = ended;
}

-- no buffer could be made
pub ends_at_once : {D : Type 0} (step : Moves D) (max : ℕ) (c : ConnectionState D)
    → IsConversation step max c c (Fault (Conn.Wire Wire.NoMemory))
ends_at_once step max c = record {
  bytes = [];
  gives = gives_none c.source;
  reads = refl;
  exchanges = [];
  rest = [];
  at = c.desk;
  mid = c.sink;
  served = record {
    few = lit< tt;
    counted = refl;
    read = refl;
    kept = tt;
    answered = refl;
    written = took_none c.sink;
    handed_on = refl;
  };
  ended = (tt, record { unasked = refl; unwritten = refl });
}
