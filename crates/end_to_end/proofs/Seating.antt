-- What the marks of a seat say of its steps.
use Rattle.std.proofs.Common.{◌≡◌, ℕ, ◌<◌, ◌⊎◌, Bool, true, false, List, [], ◌∷◌, ◌++◌, length, map, filter, refl, sym}
use Rattle.std.proofs.Common.{ap, subst, ◌∙◌, append-nil, append_assoc, inl, inr, Option, Some, None, cond, arith}
use Rattle.std.specs.Prelude.{⊤, ◌==◌, ◌^◌}
use Rattle.std.specs.List.{AllByRecursion, flat_map}
use Rattle.std.proofs.Common.{⊎_elim, rules}
use Rattle.std.proofs.lemmas.Bool.{eq-eqb}
use Rattle.std.proofs.lemmas.List.{map-append}
use Rattle.std.proofs.lemmas.List.Elements.{All-filter, All-from_recursion, recursion_from_All}
use Rattle.upload_service.specs.Machine.{State, AreLawful, IsLawful, Turn}
use Rattle.upload_service.specs.declared.ask.Ask.{Ask}
use Rattle.upload_service.specs.declared.answer.Answer.{Answer}
use Rattle.upload_wire.specs.Conversation.{Moves, WireExchange, ConnectionState, Standing, stand, EndsWith}
use Rattle.upload_wire.specs.ConnectionRuns.{unanswered_last}
use Rattle.upload_wire.specs.declared.connection.ConnEnd.{ConnEnd}
use Rattle.upload_wire.specs.declared.connection.ConnEnd.TheVariants.{DeskGone}
use Rattle.upload_client.specs.declared.heard.Heard.{Heard}
use Rattle.upload_keeper.specs.Log.{Step}
use Rattle.upload_keeper.specs.Seats.{SeatState}
use Rattle.upload_intake.specs.Pools.ServedPool.{of_seat, asked_and_answered, read_and_replied, asks}
use Rattle.upload_intake.specs.Transcripts.{GivesUnused}
use Rattle.upload_intake.specs.Pools.Working.{Lending, Means, Talk, Serves, IsLast, steps, answered_on, unanswered_on}
use Rattle.upload_intake.specs.Pools.Working.{connection_given, connection_left, all_answered, all_unanswered}
use Rattle.upload_intake.proofs.Working.{behind}
use Rattle.upload_push.specs.Runs.{IsHeardOf}
use Rattle.upload_push.specs.Slices.{Push, IsLawfulPush, IsSound, IsSoundAsk}
use Rattle.upload_push.specs.Slices as push
use Rattle.upload_push.proofs.Requests.{by_sound}
use Rattle.wire_laws.specs.Joined.{TransportCall, IsAudible, IsNoGet, IsOneOf, AnswerSays, AreUnanswered, AreJoined}
use Rattle.wire_laws.specs.WrittenAsks.{HasLawfulParts, written_style}
use Rattle.wire_laws.specs.WrittenExchanges.{HasSize, IsWritable, MayBeAsked}
use Rattle.upload_wire.proofs.Lists.{all_weaker, all_both, all_first, all_second}
use Rattle.wire_laws.proofs.ShortAnswers.{short_answers}
use Rattle.wire_laws.proofs.WrittenExchanges.{answers_heard}
use Rattle.wire_laws.proofs.JoinedEnds.{connections_joined}
use Rattle.end_to_end.specs.Marks.{Mark, other, heard, unheard, mark_of, Marked, steps_in, Agrees, IsOwn}
use Rattle.end_to_end.specs.Network.{marks_asked, unanswered_marks, marks_on, IsAskOf, at_seat, Whose, IsWhose}
use Rattle.end_to_end.specs.Network.{Connection, IsCarried, IsFor, marks_of}
use Rattle.end_to_end.proofs.Asking.{all_may_be_asked, sound_writable}

-- ---- requests and marks, place by place

-- a request that a worker read, and its answer, if it has one
abbrev pub Item : Type 0
Item = Ask × Option Answer

abbrev pub answered_item : WireExchange → Item
answered_item y = (y.ask, Some y.answer)

abbrev pub unanswered_item : Ask → Item
unanswered_item u = (u, None)

abbrev pub items : List WireExchange → List Ask → List Item
items ys us = map answered_item ys ++ map unanswered_item us

-- a mark fits a request
abbrev pub Fits : Item → Mark → Type 0
Fits i other = ⊤
Fits (ask, Some answer) (heard a what) = (ask ≡ a) × IsHeardOf answer (Some what)
Fits (ask, None) (heard a what) = ⊥
Fits (ask, answer) (unheard a) = ask ≡ a

abbrev pub AllFit : List Item → List Mark → Type 0
AllFit [] [] = ⊤
AllFit (i ∷ is) (k ∷ ks) = Fits i k × AllFit is ks
AllFit [] (k ∷ ks) = ⊥
AllFit (i ∷ is) [] = ⊥

both_fit : (is js : List Item) (ks ls : List Mark) → AllFit is ks → AllFit js ls → AllFit (is ++ js) (ks ++ ls)
both_fit [] js [] ls a b = b
both_fit [] js (k ∷ ks) ls a b = absurd a
both_fit (i ∷ is) js [] ls a b = absurd a
both_fit (i ∷ is) js (k ∷ ks) ls a b = (a.0, both_fit is js ks ls a.1 b)

unanswered_fits : (u ask : Ask) (told : Option Heard) → u ≡ ask → told ≡ None
    → Fits (unanswered_item u) (mark_of ask told)
unanswered_fits u ask None is none = is
unanswered_fits u ask (Some what) is none = absurd (cc none)

answered_fits : (ask : Ask) (answer : Answer) (asked : Ask) (told : Option Heard) → ask ≡ asked → AnswerSays answer told
    → Fits (ask, Some answer) (mark_of asked told)
answered_fits ask answer asked None is says = is
answered_fits ask answer asked (Some what) is says = (is, says)

-- the mark of an ask, or that of no request of the push
abbrev pub MarksOne : TransportCall → Mark → Type 0
MarksOne x k = (k ≡ other) ⊎ (k ≡ mark_of x.ask x.heard)

abbrev pub MarksAll : List TransportCall → List Mark → Type 0
MarksAll [] [] = ⊤
MarksAll (x ∷ xs) (k ∷ ks) = MarksOne x k × MarksAll xs ks
MarksAll [] (k ∷ ks) = ⊥
MarksAll (x ∷ xs) [] = ⊥

own_marked : (asks : List TransportCall) → MarksAll asks (map (λ (x : TransportCall). mark_of x.ask x.heard) asks)
own_marked [] = tt
own_marked (x ∷ asks) = (inr refl, own_marked asks)

pub all_marked : (before asks : List TransportCall)
    → MarksAll (before ++ asks)
    (map (λ (x : TransportCall). other) before ++ map (λ (x : TransportCall). mark_of x.ask x.heard) asks)
all_marked [] asks = own_marked asks
all_marked (x ∷ before) asks = (inl refl, all_marked before asks)

marked_fits : (i : Item) (x : TransportCall) (k : Mark) → MarksOne x k → Fits i (mark_of x.ask x.heard) → Fits i k
marked_fits i x k (inl is) fits = subst (Fits i) (sym is) tt
marked_fits i x k (inr is) fits = subst (Fits i) (sym is) fits

unanswered_fit : (xs : List TransportCall) (ks : List Mark) (us : List Ask) → MarksAll xs ks → AreUnanswered xs us
    → AllFit (map unanswered_item us) (unanswered_marks ks us)
unanswered_fit xs ks [] marked joined = tt
unanswered_fit [] ks (u ∷ us) marked joined = absurd joined
unanswered_fit (x ∷ xs) [] (u ∷ us) marked joined = absurd marked
unanswered_fit (x ∷ xs) (k ∷ ks) (u ∷ us) marked joined =
    search (rules, arith, marked_fits, unanswered_fits, unanswered_fit xs ks us marked.1 joined.2)

joined_fit : (xs : List TransportCall) (ks : List Mark) (ys : List WireExchange) (us : List Ask) → MarksAll xs ks
    → AreJoined xs ys us → AllFit (items ys us) (marks_on ks ys us)
joined_fit xs ks [] us marked joined = unanswered_fit xs ks us marked joined
joined_fit [] ks (y ∷ ys) us marked joined = absurd joined
joined_fit (x ∷ xs) [] (y ∷ ys) us marked joined = absurd marked
joined_fit (x ∷ xs) (k ∷ ks) (y ∷ ys) us marked joined =
    search (rules, arith, marked_fits, answered_fits, joined_fit xs ks ys us marked.1 joined.2)

others_unanswered_fit : (us : List Ask) → AllFit (map unanswered_item us) (unanswered_marks [] us)
others_unanswered_fit [] = tt
others_unanswered_fit (u ∷ us) = (tt, others_unanswered_fit us)

others_fit : (ys : List WireExchange) (us : List Ask) → AllFit (items ys us) (marks_on [] ys us)
others_fit [] us = others_unanswered_fit us
others_fit (y ∷ ys) us = (tt, others_fit ys us)

-- ---- marks of the push's own requests

abbrev pub IsOwnMark : Push → Mark → Type 0
IsOwnMark p other = ⊤
IsOwnMark p (heard ask what) = IsOwn p ask
IsOwnMark p (unheard ask) = IsOwn p ask

own_mark : (p : Push) (ask : Ask) (told : Option Heard) → IsOwn p ask → IsOwnMark p (mark_of ask told)
own_mark p ask None own = own
own_mark p ask (Some what) own = own

own_asked : (p : Push) (before asks : List TransportCall) → AllByRecursion (λ x. IsOwn p x.ask) asks
    → AllByRecursion (IsOwnMark p)
    (map (λ (x : TransportCall). other) before ++ map (λ (x : TransportCall). mark_of x.ask x.heard) asks)
own_asked p [] [] own = tt
own_asked p [] (x ∷ asks) own = (own_mark p x.ask x.heard own.0, own_asked p [] asks own.1)
own_asked p (x ∷ before) asks own = (tt, own_asked p before asks own)

own_unanswered : (p : Push) (ks : List Mark) (us : List Ask) → AllByRecursion (IsOwnMark p) ks
    → AllByRecursion (IsOwnMark p) (unanswered_marks ks us)
own_unanswered p ks [] own = tt
own_unanswered p [] (u ∷ us) own = (tt, own_unanswered p [] us tt)
own_unanswered p (k ∷ ks) (u ∷ us) own = (own.0, own_unanswered p ks us own.1)

own_marks : (p : Push) (ks : List Mark) (ys : List WireExchange) (us : List Ask) → AllByRecursion (IsOwnMark p) ks
    → AllByRecursion (IsOwnMark p) (marks_on ks ys us)
own_marks p ks [] us own = own_unanswered p ks us own
own_marks p [] (y ∷ ys) us own = (tt, own_marks p [] ys us tt)
own_marks p (k ∷ ks) (y ∷ ys) us own = (own.0, own_marks p ks ys us own.1)

-- a push asks for no blob by a GET
sound_no_get : (p : Push) (log : List push.Attempt) (ask : Ask) → IsSoundAsk p log ask → IsNoGet ask
sound_no_get p log ask sound = search (rules, arith, by_sound)

-- a request of a push is sound behind those before it
sound_behind : (p : Push) (later earlier : List push.Attempt) (e : push.Attempt) → IsSound p (later ++ e ∷ earlier)
    → IsSoundAsk p earlier e.ask
sound_behind p [] earlier e sound = sound.0
sound_behind p (x ∷ later) earlier e sound = sound_behind p later earlier e sound.1

own_ask : (p : Push) (log : List push.Attempt) (ask : Ask) → IsSound p log → IsAskOf log ask → IsOwn p ask
own_ask p log ask sound is = search (rules, arith, sound_behind)

own_asks : (p : Push) (log : List push.Attempt) (xs : List TransportCall) → IsSound p log
    → AllByRecursion (λ x. IsAskOf log x.ask) xs → AllByRecursion (λ x. IsOwn p x.ask) xs
own_asks p log xs sound all = all_weaker (λ x. own_ask p log x.ask sound) xs all

-- ---- what a service answered can be heard

-- the service, in some lawful state, answered the ask so
pub record IsAnswered (ask : Ask) (answer : Answer) : Type 0 where
  pub state : State
  pub secret : List ℕ
  pub now : ℕ
  pub after : State
  pub lawful : IsLawful state
  pub limits : AreLawful state.limits
  pub turn : Turn state ask secret now answer after
  pub sized : HasSize answer

-- what is known of an ask of a connection
record IsKnown (ask : Ask) : Type 0 where
  parts : HasLawfulParts ask
  no_get : IsNoGet ask

answer_audible : (y : WireExchange) → IsAnswered y.ask y.answer → IsKnown y.ask
    → y.style ≡ written_style y.ask → IsAudible y
answer_audible y is known style_is = search (rules, arith, answers_heard, short_answers)

known_of : (max : ℕ) (host : List ℕ) (xs : List TransportCall) (ask : Ask)
    → AllByRecursion (λ x. MayBeAsked max x.ask host) xs → AllByRecursion (λ x. IsNoGet x.ask) xs
    → IsOneOf xs ask → IsKnown ask
known_of max host [] ask may none one = absurd one
known_of max host (x ∷ xs) ask may none (inl is) = search (rules, arith)
known_of max host (x ∷ xs) ask may none (inr one) = known_of max host xs ask may.1 none.1 one

abbrev pub AreAnswered : List WireExchange → Type 0
AreAnswered ys = AllByRecursion (λ (y : WireExchange). IsAnswered y.ask y.answer) ys

pub all_audible : (max : ℕ) (host : List ℕ) (xs : List TransportCall) (ys : List WireExchange)
    → AllByRecursion (λ x. MayBeAsked max x.ask host) xs → AllByRecursion (λ x. IsNoGet x.ask) xs → AreAnswered ys
    → AllByRecursion (λ y. IsOneOf xs y.ask → y.style ≡ written_style y.ask → IsAudible y) ys
all_audible max host xs [] may none is = tt
all_audible max host xs (y ∷ ys) may none is = (
  λ one style_is. answer_audible y is.0 (known_of max host xs y.ask may none one) style_is,
  all_audible max host xs ys may none is.1,
)

-- ---- a worker's conversations

module _ {D : Type 0} (step : Moves D) (max : ℕ) (s : Standing D) (new : ConnectionState D) where
  all_heard : (end : ConnEnd) (e : EndsWith step max s new end) → (end ≡ DeskGone → ⊥)
      → unanswered_last step max s new end e ≡ []
  all_heard end e h = search (rules, arith)

module _ {L : Lending} {S G O : Type 0} (m : Means L S G O) (max : ℕ) where
  abbrev pub items_on : Talk m max → List Item
  items_on t = items (answered_on m max t) (unanswered_on m max t)

  -- but for the last conversation, each request was answered
  pub items_are : (conns left : L.Conns) (desk new : SeatState × S) (ts : List (Talk m max))
      → Serves m max conns desk ts left new
      → flat_map items_on ts ≡ items (all_answered m max ts) (all_unanswered m max ts)
  items_are conns left desk new [] s = refl
  items_are conns left desk new (t ∷ ts) s =
      let ans : List WireExchange = answered_on m max t in
      let una : List Ask = unanswered_on m max t in
      ⊎_elim
      (λ (x : (t.end ≡ DeskGone) × IsLast m max s.1 t ts left new).
      subst (λ (us : List (Talk m max)). flat_map items_on (t ∷ us)
      ≡ items (all_answered m max (t ∷ us)) (all_unanswered m max (t ∷ us))) (sym x.1.0)
      (append-nil (items ans una) ∙ ap (λ l. items l una) (sym (append-nil ans))
      ∙ ap (λ l. items (ans ++ []) l) (sym (append-nil una))))
      (λ (x : (t.end ≡ DeskGone → ⊥) × Serves m max s.1 t.new ts left new).
      let none : una ≡ [] =
      all_heard (steps m max) max
      (stand (length t.conversation.exchanges) t.conversation.rest t.conversation.at t.conversation.mid)
      (connection_left m max t) t.end t.conversation.ended x.0 in
      cc (
        ap (map unanswered_item) none,
        ap (λ l. l ++ all_unanswered m max ts) none,
        append-nil (map answered_item ans),
        items_are s.1 left t.new new ts x.1,
        map-append answered_item ans (all_answered m max ts),
        append_assoc (map answered_item ans) (map answered_item (all_answered m max ts))
            (map unanswered_item (all_unanswered m max ts)),
      ))
      (behind t.end (IsLast m max s.1 t ts left new) (Serves m max s.1 t.new ts left new) s.5)

  -- on the connection nothing was read and nothing written when it was given
  abbrev pub IsUnused : Talk m max → Type 0
  IsUnused t = ((L.reads t.reader).given ≡ []) × ((L.writes t.writer).taken ≡ [])

  pub all_unused : GivesUnused L → (conns left : L.Conns) (desk new : SeatState × S) (ts : List (Talk m max))
      → Serves m max conns desk ts left new → AllByRecursion IsUnused ts
  all_unused unused conns left desk new [] s = tt
  all_unused unused conns left desk new (t ∷ ts) s = (
    unused conns s.0 t.reader t.writer s.2,
    ⊎_elim
        (λ (x : (t.end ≡ DeskGone) × IsLast m max s.1 t ts left new). subst (AllByRecursion IsUnused) (sym x.1.0) tt)
        (λ (x : (t.end ≡ DeskGone → ⊥) × Serves m max s.1 t.new ts left new).
        all_unused unused s.1 left t.new new ts x.1)
        (behind t.end (IsLast m max s.1 t ts left new) (Serves m max s.1 t.new ts left new) s.5),
  )

  module _ (p : Push) (lawful : IsLawfulPush p) (is_for : IsFor max p) (small : max < 2 ^ 64) (log : List push.Attempt)
      (sound : IsSound p log) where
    -- each request on a connection of the push may be asked
    may : (t : Talk m max) (c : Connection) → IsCarried m max log t c
        → AllByRecursion (λ x. MayBeAsked max x.ask c.made.host) (c.before ++ c.asks)
    may t c is =
        all_may_be_asked max small c.made.host is.to_host (c.before ++ c.asks)
        (all_both (λ x. IsWritable max x.ask) c.before c.asks is.writable
        (all_weaker (λ x own. sound_writable max p lawful is_for own.0 x.ask own.1) c.asks
        (own_asks p log c.asks sound is.own)))

    -- what was asked and heard over a connection of the push, and what the worker read and answered on it
    pub joined_on : (t : Talk m max) (c : Connection) → IsCarried m max log t c → IsUnused t
        → AreAnswered (answered_on m max t)
        → AreJoined (c.before ++ c.asks) (answered_on m max t) (unanswered_on m max t)
    joined_on t c is new answered =
        let all : List TransportCall = c.before ++ c.asks in
        let may_be = may t c is in
        let none : AllByRecursion (λ x. IsNoGet x.ask) all =
        all_both (λ x. IsNoGet x.ask) c.before c.asks is.no_gets
        (all_weaker (λ x own. sound_no_get p own.0 x.ask own.1) c.asks (own_asks p log c.asks sound is.own)) in
        connections_joined (steps m max) max (connection_given m max t) (connection_left m max t) t.end t.conversation
        all
        (record {
          given = new.0;
          taken = new.1;
          audible = all_audible max c.made.host all (answered_on m max t) may_be none answered;
        })
        c.made c.left c.is_new c.turn may_be is.carries

    one_fits : (w : Whose m max log) → IsWhose m max log w → IsUnused w.0 → AreAnswered (answered_on m max w.0)
        → AllFit (items_on w.0) (marks_of m max log w)
    one_fits (t, None) is new answered = others_fit (answered_on m max t) (unanswered_on m max t)
    one_fits (t, Some c) is new answered =
        joined_fit (c.before ++ c.asks) (marks_asked c) (answered_on m max t) (unanswered_on m max t)
        (all_marked c.before c.asks) (joined_on t c is new answered)

    one_owns : (w : Whose m max log) → IsWhose m max log w → AllByRecursion (IsOwnMark p) (marks_of m max log w)
    one_owns (t, None) is = own_marks p [] (answered_on m max t) (unanswered_on m max t) tt
    one_owns (t, Some c) is =
        own_marks p (marks_asked c) (answered_on m max t) (unanswered_on m max t)
        (own_asked p c.before c.asks (own_asks p log c.asks sound is.own))

    pub all_fit : (ws : List (Whose m max log)) → AllByRecursion (IsWhose m max log) ws
        → AllByRecursion IsUnused (map (λ (w : Whose m max log). w.0) ws)
        → AreAnswered (all_answered m max (map (λ (w : Whose m max log). w.0) ws))
        → AllFit (flat_map items_on (map (λ (w : Whose m max log). w.0) ws)) (flat_map (marks_of m max log) ws)
    all_fit [] each new answered = tt
    all_fit (w ∷ ws) each new answered =
        search (rules, arith, both_fit, one_fits, all_first, all_second, all_fit ws each.1 new.1)

    pub all_own : (ws : List (Whose m max log)) → AllByRecursion (IsWhose m max log) ws
        → AllByRecursion (IsOwnMark p) (flat_map (marks_of m max log) ws)
    all_own [] each = tt
    all_own (w ∷ ws) each = search (rules, arith, all_both, one_owns, all_own ws each.1)

-- ---- a seat's steps

-- the mark of a step that has this request and this answer
agrees_answered : (step : Step) (ask : Ask) (answer : Answer) (k : Mark) → asked_and_answered step ≡ (ask, answer)
    → Fits (ask, Some answer) k → Agrees (step, k)
agrees_answered step ask answer k h1 h2 = search (rules, arith)

agrees_unanswered : (step : Step) (ask : Ask) (k : Mark) → step.exchange.ask ≡ ask → Fits (ask, None) k
    → Agrees (step, k)
agrees_unanswered step ask k h1 h2 = search (rules, arith)

abbrev pub marks_in : List Marked → List Mark
marks_in ms = map (λ (n : Marked). n.1) ms

-- steps that nobody answered on a connection
lost_agree : (ms : List Marked) (us : List Ask) (more : List Mark) → asks (steps_in ms) ≡ us
    → AllFit (map unanswered_item us) (marks_in ms ++ more) → AllByRecursion Agrees ms
lost_agree [] us more is fit = tt
lost_agree (n ∷ ms) [] more is fit = absurd (cc is)
lost_agree (n ∷ ms) (u ∷ us) more is fit = search (rules, arith, agrees_unanswered, lost_agree ms us more (cc) fit.1)

no_steps : (ms : List Marked) → asks (steps_in ms) ≡ [] → AllByRecursion Agrees ms
no_steps [] is = tt
no_steps (n ∷ ms) is = absurd (cc is)

lost_asks : (ms : List Marked) (unheard : List Step)
    → map asked_and_answered (steps_in ms) ≡ map asked_and_answered unheard → asks (steps_in ms) ≡ asks unheard
lost_asks [] [] is = refl
lost_asks (n ∷ ms) (s ∷ ss) is = search (rules, arith, lost_asks ms ss)
lost_asks ms ss is = absurd (cc is)

pub seat_agrees : (ms : List Marked) (ys : List WireExchange) (us : List Ask) (lost : List Step) (more : List Mark)
    → map asked_and_answered (steps_in ms) ≡ map read_and_replied ys ++ map asked_and_answered lost
    → (asks lost ≡ []) ⊎ (asks lost ≡ us) → AllFit (items ys us) (marks_in ms ++ more) → AllByRecursion Agrees ms
seat_agrees ms [] us lost more is sent fit = search (rules, arith, lost_asks, no_steps, lost_agree)
seat_agrees [] (y ∷ ys) us lost more is sent fit = absurd (cc is)
seat_agrees (n ∷ ms) (y ∷ ys) us lost more is sent fit =
    search (rules, arith, agrees_answered, seat_agrees ms ys us lost more (cc) sent fit.1)

-- the answered requests of a seat are steps of it
pub steps_answered : (ss : List Step) (ys : List WireExchange) (lost : List Step)
    → map asked_and_answered ss ≡ map read_and_replied ys ++ map asked_and_answered lost
    → AllByRecursion (λ (s : Step). IsAnswered s.exchange.ask s.exchange.answer) ss → AreAnswered ys
steps_answered ss [] lost is all = tt
steps_answered [] (y ∷ ys) lost is all = absurd (cc is)
steps_answered (s ∷ ss) (y ∷ ys) lost is all = search (rules, arith, steps_answered ss ys lost)

pub all_kept : {A : Type 0} (P : A → Type 0) (test : A → Bool) (xs : List A) → AllByRecursion P xs
    → AllByRecursion P (filter test xs)
all_kept P test xs all = search (rules, arith, recursion_from_All, All-filter, All-from_recursion)

-- the steps of one seat
pub steps_at : (seat : ℕ) (ms : List Marked) → steps_in (at_seat seat ms) ≡ of_seat seat (steps_in ms)
steps_at seat [] = refl
steps_at seat (n ∷ ms) = search (rules, arith, steps_at seat ms)

-- what holds of the steps of each seat holds of all
pub by_seats : (P : Marked → Type 0) (number : ℕ) (ms : List Marked)
    → AllByRecursion (λ (n : Marked). n.0.seat < number) ms
    → ((seat : ℕ) → seat < number → AllByRecursion P (at_seat seat ms)) → AllByRecursion P ms
by_seats P number [] seated each = tt
by_seats P number (n ∷ ms) seated each = (
  (subst (λ b. AllByRecursion P (cond b (n ∷ at_seat n.0.seat ms) (at_seat n.0.seat ms)))
      ((eq-eqb n.0.seat n.0.seat refl)) (each n.0.seat seated.0)).0,
  by_seats P number ms seated.1 (λ seat within. without (seat == n.0.seat) seat (each seat within)),
)
  where
    without : (b : Bool) (seat : ℕ) → AllByRecursion P (cond b (n ∷ at_seat seat ms) (at_seat seat ms))
        → AllByRecursion P (at_seat seat ms)
    without true seat all = all.1
    without false seat all = all
