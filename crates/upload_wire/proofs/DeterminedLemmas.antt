-- What was read determines a conversation.
use Rattle.std.proofs.Common.{◌≡◌, ◌≢◌, ℕ, ◌+◌, ◌<◌, List, [], ◌∷◌, ◌++◌, length, map, refl, sym, ap, subst, ◌∙◌, arith}
use Rattle.std.proofs.Common.{append_assoc, length-append, inl, inr, subst₂, true≢false, rules}
use Rattle.std.specs.Prelude.{◌⊎◌, Option, Some, None}
use Rattle.std.specs.List.{AllByRecursion}
use Rattle.std.proofs.lemmas.List.{append_cancel_right, length-map, map-append}
use Rattle.upload_service.specs.declared.ask.Ask.{Ask}
use Rattle.upload_service.specs.declared.answer.Answer.{Answer}
use Rattle.upload_service.specs.declared.answer.Answer.TheVariants.{NoMemory}
use Rattle.upload_service.specs.Machine.{State, Outcome, Comes, Turn}
use Rattle.upload_wire.specs.ServiceTurns.{StepsService}
use Rattle.http_wire.specs.declared.fault.Bad.TheVariants.{Head}
use Rattle.http_wire.specs.declared.fault.WireFault.{WireFault}
use Rattle.http_wire.specs.declared.fault.WireFault.TheVariants as Wire
use Rattle.upload_wire.specs.declared.request.Style.{Style}
use Rattle.upload_wire.specs.declared.connection.ConnEnd.{ConnEnd}
use Rattle.upload_wire.specs.declared.connection.ConnEnd.TheVariants.{Clean, AfterClose, AfterBad, TooMany, DeskGone}
use Rattle.upload_wire.specs.declared.connection.ConnEnd.TheVariants.{Fault}
use Rattle.upload_wire.specs.declared.connection.ConnFault.TheVariants as Conn
use Rattle.upload_wire.specs.RequestText.{IsBad}
use Rattle.http_wire.specs.Writing.{TookAll}
use Rattle.upload_wire.specs.Conversation.{Moves, WireExchange, IsKept, IsRead, messages, replies, last_reply, Answers}
use Rattle.upload_wire.specs.Conversation.{ConnectionState, Standing, stand, EndsWith, AnswersNext, FindsNoDesk}
use Rattle.upload_wire.specs.Conversation.{max_requests}
use Rattle.http_wire.specs.HeadText.{bad as bad_reply}
use Rattle.upload_wire.specs.ConnectionRuns.{answered_last}
use Rattle.upload_wire.specs.Unambiguous.{RequestParse, request, bad, cut, nothing, ParsesAsRequest}
use Rattle.upload_wire.specs.Determined.{Dialogue, answered_in_dialogue, asked, IsUndecided, IsDecided, IsDeterministic}
use Rattle.upload_wire.specs.Determined.{HasMemory, AskTheSame, AreTheSame, ConversationsAreDetermined}
use Rattle.http_wire.proofs.WritingLemmas.{took_both}
use Rattle.upload_wire.proofs.ConversationLemmas.{took_none}
use Rattle.upload_wire.proofs.Lists.{all_first, all_second}
use Rattle.upload_wire.proofs.UnambiguousRequests.{requests_are_unambiguous, same_request}

-- ---- requests in a row

-- what is parsed as something else is no request
not_request : (max : ℕ) (rest : List ℕ) (p : RequestParse) (y : WireExchange) (more : List ℕ)
    → ParsesAsRequest max rest p → p ≢ bad Head → ((ask : Ask) (style : Style) (r : List ℕ) → p ≢ request ask style r)
    → rest ≡ y.message ++ more → IsKept max y → ⊥
not_request max rest p y more x other never read kept =
    never y.ask y.style more
    (requests_are_unambiguous.one max rest p (request y.ask y.style more) x
    (record { message = y.message; cut = read; request = kept.0 })
    other (λ e. absurd (cc e)))

asked_same : (max : ℕ) (x y : WireExchange) (r q : List ℕ) → IsRead max x → IsRead max y
    → x.message ++ r ≡ y.message ++ q → (asked x ≡ asked y) × (r ≡ q)
asked_same max x y r q is other e =
    let s = same_request is other e in
    (λ i. record { message = s.message i; ask = s.ask i; style = s.style i }, s.rest)

-- the requests go on behind the first of them with one that keeps the connection
record GoesOn (max : ℕ) (rest : List ℕ) (xs ys : List WireExchange) : Type 0 where
  front : List WireExchange
  next : WireExchange
  behind : List WireExchange
  more : List ℕ
  split : ys ≡ front ++ next ∷ behind
  same : map asked xs ≡ map asked front
  read : rest ≡ next.message ++ more
  kept : IsKept max next

one_more : (max : ℕ) (rest : List ℕ) (x y : WireExchange) (xs ys : List WireExchange) → asked x ≡ asked y
    → GoesOn max rest xs ys → GoesOn max rest (x ∷ xs) (y ∷ ys)
one_more max rest x y xs ys e g = record {
  front = y ∷ g.front;
  next = g.next;
  behind = g.behind;
  more = g.more;
  split = ap (λ zs. y ∷ zs) g.split;
  same = λ i. e i ∷ g.same i;
  read = g.read;
  kept = g.kept;
}

-- two readings of the same bytes as requests in a row
abbrev Compare : ℕ → List ℕ → List ℕ → List WireExchange → List WireExchange → Type 0
Compare max r q xs ys = ((map asked xs ≡ map asked ys) × (r ≡ q)) ⊎ (GoesOn max r xs ys ⊎ GoesOn max q ys xs)

compare_more : (max : ℕ) (r q : List ℕ) (x y : WireExchange) (xs ys : List WireExchange) → asked x ≡ asked y
    → Compare max r q xs ys → Compare max r q (x ∷ xs) (y ∷ ys)
compare_more max r q x y xs ys e (inl s) = inl (λ i. e i ∷ s.0 i, s.1)
compare_more max r q x y xs ys e (inr (inl g)) = inr (inl (one_more max r x y xs ys e g))
compare_more max r q x y xs ys e (inr (inr g)) = inr (inr (one_more max q y x ys xs (sym e) g))

begins : (max : ℕ) (r q : List ℕ) (y : WireExchange) (ys : List WireExchange) → r ≡ messages (y ∷ ys) ++ q
    → IsKept max y → GoesOn max r [] (y ∷ ys)
begins max r q y ys e kept = record {
  front = [];
  next = y;
  behind = ys;
  more = messages ys ++ q;
  split = refl;
  same = refl;
  read = e ∙ append_assoc y.message (messages ys) q;
  kept = kept;
}

compare : (max : ℕ) (r q : List ℕ) (xs ys : List WireExchange) → AllByRecursion (IsKept max) xs
    → AllByRecursion (IsKept max) ys → messages xs ++ r ≡ messages ys ++ q → Compare max r q xs ys
compare max r q [] [] kept other e = inl (refl, e)
compare max r q [] (y ∷ ys) kept other e = inr (inl (begins max r q y ys e other.0))
compare max r q (x ∷ xs) [] kept other e = inr (inr (begins max q r x xs (sym e) kept.0))
compare max r q (x ∷ xs) (y ∷ ys) kept other e =
    let s = asked_same max x y (messages xs ++ r) (messages ys ++ q) kept.0.0 other.0.0
    (sym (append_assoc x.message (messages xs) r) ∙ e ∙ append_assoc y.message (messages ys) q) in
    compare_more max r q x y xs ys s.0 (compare max r q xs ys kept.1 other.1 s.1)

-- ---- ends

-- what stands where a conversation ended behind so many requests, what was answered of it, and what was written
abbrev LastOf : {D : Type 0} → Moves D → ℕ → List ℕ → D → D → ConnEnd → RequestParse → List WireExchange
    → List ℕ → Type 0
LastOf step count rest at new end (request ask style more) xs text =
    ((x : WireExchange) × (xs ≡ x ∷ []) × (x.ask ≡ ask) × (x.style ≡ style) × (rest ≡ x.message ++ more)
    × step at x.ask (Some x.answer) new
    × (text ≡ last_reply count x))
    ⊎ ((xs ≡ []) × step at ask None new × (end ≡ DeskGone) × (text ≡ []))
LastOf step count rest at new end (bad why) xs text = (xs ≡ []) × (new ≡ at) × (text ≡ bad_reply why)
LastOf step count rest at new end cut xs text = (xs ≡ []) × (new ≡ at) × (text ≡ [])
LastOf step count rest at new end nothing xs text = (xs ≡ []) × (new ≡ at) × (text ≡ [])

record Ends {D : Type 0} (step : Moves D) (max : ℕ) (s : Standing D) (new : ConnectionState D) (end : ConnEnd)
    (xs : List WireExchange) : Type 0 where
  parse : RequestParse
  parses : ParsesAsRequest max s.held parse
  no_bad_head : parse ≢ bad Head
  text : List ℕ
  last : LastOf step s.answered s.held s.desk new.desk end parse xs text
  took : TookAll s.sink new.sink text

module _ {D : Type 0} (step : Moves D) (max : ℕ) (s : Standing D) (new : ConnectionState D) where
  -- an end at which nothing was written
  silent : {end : ConnEnd} (parse : RequestParse) → ParsesAsRequest max s.held parse → parse ≢ bad Head
      → LastOf step s.answered s.held s.desk new.desk end parse [] [] → new.sink ≡ s.sink → Ends step max s new end []
  silent parse parses no_bad_head last unwritten = search (rules, arith, took_none)

  ends_wire : (fault : WireFault) → EndsWith step max s new (Fault (Conn.Wire fault))
      → ¬ (IsUndecided max s.held (Fault (Conn.Wire fault))) → Ends step max s new (Fault (Conn.Wire fault)) []
  ends_wire Wire.Truncated e decided = search (rules, arith, silent)
  ends_wire Wire.Read e decided = search (rules, arith, silent)
  ends_wire Wire.NoMemory e decided = absurd (decided tt)
  ends_wire Wire.Ended e decided = absurd e.0

  ends_answered : (end : ConnEnd) (x : WireExchange) → AnswersNext step max s new.desk x
      → TookAll s.sink new.sink (last_reply s.answered x) → Ends step max s new end (x ∷ [])
  ends_answered end x a took = record {
    parse = request x.ask x.style a.more;
    parses = record { message = x.message; cut = a.read; request = a.request };
    no_bad_head = λ same. absurd (cc same);
    text = last_reply s.answered x;
    last = inl (x, refl, refl, refl, a.read, a.answered, refl);
    took = took;
  }

  ends : (end : ConnEnd) (e : EndsWith step max s new end) → ¬ (IsUndecided max s.held end)
      → Ends step max s new end (answered_last step max s new end e)
  ends Clean e decided = silent nothing e.0 (λ same. absurd (cc same)) (refl, e.2.unasked, refl) e.2.unwritten
  ends AfterClose e decided = ends_answered AfterClose e.0 e.1 e.3.took
  ends AfterBad e decided = record {
    parse = bad e.0;
    parses = e.1.bad;
    no_bad_head = λ same. let is : e.0 ≡ Head = cc in decided (subst (IsBad max s.held) is e.1.bad);
    text = bad_reply e.0;
    last = (refl, e.1.unasked, refl);
    took = e.2.took;
  }
  ends TooMany e decided = ends_answered TooMany e.0 e.1 e.4.took
  ends DeskGone e decided =
      silent (request e.0.ask e.0.style e.0.more)
      (record { message = e.0.message; cut = e.0.read; request = e.0.request }) (λ same. absurd (cc same))
      (inr (refl, e.0.gone, refl, refl)) e.1
  ends (Fault (Conn.Wire fault)) e decided = ends_wire fault e decided
  ends (Fault Conn.Write) e decided = absurd (decided tt)

  -- if a request stands that keeps the connection, and more may come, no conversation ends but by a desk that is
  -- gone
  goes_on : (end : ConnEnd) → EndsWith step max s new end → ¬ (IsUndecided max s.held end)
      → s.answered + 1 < max_requests → (end ≡ DeskGone → FindsNoDesk step max s new.desk → ⊥)
      → (y : WireExchange) (more : List ℕ) → s.held ≡ y.message ++ more → IsKept max y → ⊥
  goes_on Clean e decided few there y more read kept =
      not_request max s.held nothing y more e.0 (λ same. absurd (cc same)) (λ a s r same. absurd (cc same)) read kept
  goes_on AfterClose e decided few there y more read kept =
      let one = same_request e.1.request kept.0 (sym e.1.read ∙ read) in
      true≢false (sym kept.1 ∙ ap (λ t. t.keep) (sym one.style) ∙ e.2)
  goes_on AfterBad e decided few there y more read kept =
      not_request max s.held (bad e.0) y more e.1.bad
      (λ same. let is : e.0 ≡ Head = cc in decided (subst (IsBad max s.held) is e.1.bad))
      (λ a s r same. absurd (cc)) read kept
  goes_on TooMany e decided few there y more read kept = let full = e.3 in omega (arith, full, few)
  goes_on DeskGone e decided few there y more read kept = there refl e.0
  goes_on (Fault (Conn.Wire Wire.Truncated)) e decided few there y more read kept =
      not_request max s.held cut y more e.0.0 (λ s. absurd (cc)) (λ a s r same. absurd (cc)) read kept
  goes_on (Fault (Conn.Wire Wire.Read)) e decided few there y more read kept = elim e.0 [
    | inl none ↦ not_request max s.held nothing y more none (λ s. absurd (cc)) (λ a s r same. absurd (cc)) read kept
    | inr short ↦ not_request max s.held cut y more short (λ s. absurd (cc)) (λ a s r same. absurd (cc)) read kept
  ]
  goes_on (Fault (Conn.Wire Wire.NoMemory)) e decided few there y more read kept = decided tt
  goes_on (Fault (Conn.Wire Wire.Ended)) e decided few there y more read kept = e.0
  goes_on (Fault Conn.Write) e decided few there y more read kept = decided tt

-- ---- what is asked

-- two exchanges of one request in front of one rest
one_asked : (rest more : List ℕ) (ask : Ask) (style : Style) (x y : WireExchange) → x.ask ≡ ask → x.style ≡ style
    → rest ≡ x.message ++ more → y.ask ≡ ask → y.style ≡ style → rest ≡ y.message ++ more → asked x ≡ asked y
one_asked rest more ask style x y a s r b u q = cc (append_cancel_right x.message y.message more (cc))

same_exchange : (x y : WireExchange) → asked x ≡ asked y → x.answer ≡ y.answer → x ≡ y
same_exchange x y first answers = search (rules, arith)

-- the same stands there, and what was asked of it is the same
module _ {D : Type 0} (step : Moves D) (count count2 : ℕ) (rest : List ℕ) (at new at2 new2 : D) (end end2 : ConnEnd)
    (there : end ≢ DeskGone) (there2 : end2 ≢ DeskGone) (text text2 : List ℕ) where
  last_asked : (p : RequestParse) (xs ys : List WireExchange) → LastOf step count rest at new end p xs text
      → LastOf step count2 rest at2 new2 end2 p ys text2 → map asked xs ≡ map asked ys
  last_asked (request ask style more) xs ys (inl x) (inl y) =
      cc (one_asked rest more ask style x.0 y.0 x.2 x.3 x.4 y.2 y.3 y.4)
  last_asked (request ask style more) xs ys (inl x) (inr y) = absurd (there2 y.2)
  last_asked (request ask style more) xs ys (inr x) y = absurd (there x.2)
  last_asked other xs ys x y = ap (map asked) (x.0 ∙ sym y.0)

-- ends at one rest have one parse
same_parse : {D : Type 0} (step : Moves D) (max : ℕ) (s s2 : Standing D) (new new2 : ConnectionState D)
    (end end2 : ConnEnd) (xs ys : List WireExchange) → s.held ≡ s2.held → (a : Ends step max s new end xs)
    (b : Ends step max s2 new2 end2 ys)
    → LastOf step s2.answered s.held s2.desk new2.desk end2 a.parse ys b.text
same_parse step max s s2 new new2 end end2 xs ys e a b =
    let same =
    requests_are_unambiguous.one max s.held b.parse a.parse
    (subst (λ r. ParsesAsRequest max r b.parse) (sym e) b.parses) a.parses b.no_bad_head a.no_bad_head in
    subst (λ p. LastOf step s2.answered s.held s2.desk new2.desk end2 p ys b.text) same
    (subst (λ r. LastOf step s2.answered r s2.desk new2.desk end2 b.parse ys b.text) (sym e) b.last)

-- how many come before one that goes on
few_before : (max : ℕ) (rest : List ℕ) (xs ys : List WireExchange) → GoesOn max rest xs ys → length ys < max_requests
    → length xs + 1 < max_requests
few_before max rest xs ys g few = search (rules, arith, length-append, length-map)

module _ {D : Type 0} (step : Moves D) (max : ℕ) where
  -- where a dialogue stood when it ended
  abbrev stood : Dialogue step max → Standing D
  stood d = stand (length d.is.exchanges) d.is.rest d.is.at d.is.mid

  -- the end of a dialogue
  ends_of : (d : Dialogue step max) → IsDecided step max d
      → Ends step max (stood d) d.new d.end (answered_last step max (stood d) d.new d.end d.is.ended)
  ends_of d decided = ends step max (stood d) d.new d.end d.is.ended decided

  -- of two with one rest, the end of the other at what this one found
  the_other : (d e : Dialogue step max) → d.is.rest ≡ e.is.rest → {xs ys : List WireExchange}
      → (a : Ends step max (stood d) d.new d.end xs) (b : Ends step max (stood e) e.new e.end ys)
      → LastOf step (length e.is.exchanges) d.is.rest e.is.at e.new.desk e.end a.parse ys b.text
  the_other d e same {xs} {ys} a b = search (rules, arith, same_parse)

  compared : (d e : Dialogue step max) → d.is.bytes ≡ e.is.bytes
      → Compare max d.is.rest e.is.rest d.is.exchanges e.is.exchanges
  compared d e same =
      compare max d.is.rest e.is.rest d.is.exchanges e.is.exchanges d.is.served.kept e.is.served.kept
      (sym d.is.served.read ∙ same ∙ e.is.served.read)

  -- no dialogue goes on where the other ended
  none_goes_on : (d e : Dialogue step max) → IsDecided step max d
      → (g : GoesOn max d.is.rest d.is.exchanges e.is.exchanges)
      → (d.end ≡ DeskGone → FindsNoDesk step max (stood d) d.new.desk → ⊥) → ⊥
  none_goes_on d e decided g there =
      goes_on step max (stood d) d.new d.end d.is.ended decided
      (few_before max d.is.rest d.is.exchanges e.is.exchanges g e.is.served.few) there g.next g.more g.read g.kept

  ask_the_same : (d e : Dialogue step max) → d.is.bytes ≡ e.is.bytes → IsDecided step max d → IsDecided step max e
      → d.end ≢ DeskGone → e.end ≢ DeskGone → AskTheSame step max d e
  ask_the_same d e same decided decided2 there there2 = by (compared d e same)
    where
      by : Compare max d.is.rest e.is.rest d.is.exchanges e.is.exchanges → AskTheSame step max d e
      by (inl s) =
          let a = ends_of d decided in
          let b = ends_of e decided2 in
          let lasts =
          last_asked step (length d.is.exchanges) (length e.is.exchanges) d.is.rest d.is.at d.new.desk e.is.at
          e.new.desk d.end e.end there there2 a.text b.text a.parse _ _ a.last (the_other d e s.1 a b) in
          record {
            requests =
                map-append asked d.is.exchanges _ ∙ (λ i. s.0 i ++ lasts i) ∙ sym (map-append asked e.is.exchanges _);
            rest = s.1;
          }
      by (inr (inl g)) = absurd (none_goes_on d e decided g (λ gone f. there gone))
      by (inr (inr g)) = absurd (none_goes_on e d decided2 g (λ gone f. there2 gone))

-- ---- what is answered

-- memory was there for the answer
abbrev HasAnswer : WireExchange → Type 0
HasAnswer x = x.answer ≢ NoMemory

enough : (a : Answer) → a ≢ NoMemory → ◌≢◌ {A = Option Answer} (Some a) (Some NoMemory)
enough a other e = other (cc e)

none_is_enough : ◌≢◌ {A = Option Answer} None (Some NoMemory)
none_is_enough e = absurd (cc e)

module _ {D : Type 0} (step : Moves D) (det : IsDeterministic step) where
  -- the same was asked of one state, so the same was answered
  same_answers : (old old2 at at2 : D) (xs ys : List WireExchange) → HasMemory xs → HasMemory ys → old ≡ old2
      → map asked xs ≡ map asked ys → Answers step old xs at → Answers step old2 ys at2 → (xs ≡ ys) × (at ≡ at2)
  same_answers old old2 at at2 [] [] m n e same x y = (refl, sym x ∙ e ∙ y)
  same_answers old old2 at at2 [] (b ∷ ys) m n e same x y = absurd (let l = ap length same in omega (arith, l))
  same_answers old old2 at at2 (a ∷ xs) [] m n e same x y = absurd (let l = ap length same in omega (arith, l))
  same_answers old old2 at at2 (a ∷ xs) (b ∷ ys) m n e same x y =
      let first : asked a ≡ asked b = cc in
      let others : map asked xs ≡ map asked ys = cc in
      let asks : a.ask ≡ b.ask = ap (λ q. q.ask) first in
      let once = det old2 b.ask (Some a.answer) (Some b.answer) x.0 y.0
      (subst₂ (λ s q. step s q (Some a.answer) x.0) e asks x.1) y.1 (enough a.answer m.0) (enough b.answer n.0) in
      let next = same_answers x.0 y.0 at at2 xs ys m.1 n.1 once.1 others x.2 y.2 in
      (λ i. same_exchange a b first (cc (once.0)) i ∷ next.0 i, next.1)

  answers_split : (old at : D) (front behind : List WireExchange) (y : WireExchange)
      → Answers step old (front ++ y ∷ behind) at
      → (mid : D) × (next : D) × Answers step old front mid × step mid y.ask (Some y.answer) next
  answers_split old at [] behind y h = (old, h.0, refl, h.1)
  answers_split old at (x ∷ front) behind y h =
      let more = answers_split h.0 at front behind y h.2 in
      (more.0, more.1, (h.0, h.1, more.2), more.3)

  -- what was answered last, how that left the desk, and what was written of it
  abbrev LastSame : D → D → List WireExchange → List WireExchange → List ℕ → List ℕ → Type 0
  LastSame new new2 xs ys text text2 = (xs ≡ ys) × (new ≡ new2) × (text ≡ text2)

  module _ (count count2 : ℕ) (c : count ≡ count2) (rest : List ℕ) (at at2 new new2 : D) (e : at ≡ at2)
      (end end2 : ConnEnd) (text text2 : List ℕ) where
    last_same : (p : RequestParse) (xs ys : List WireExchange) → HasMemory xs → HasMemory ys
        → LastOf step count rest at new end p xs text → LastOf step count2 rest at2 new2 end2 p ys text2
        → LastSame new new2 xs ys text text2
    last_same (request ask style more) xs ys m n (inl x) (inl y) =
        let first = one_asked rest more ask style x.0 y.0 x.2 x.3 x.4 y.2 y.3 y.4 in
        let once =
        det at2 y.0.ask (Some x.0.answer) (Some y.0.answer) new new2
        (subst₂ (λ s q. step s q (Some x.0.answer) new) e (x.2 ∙ sym y.2) x.5) y.5
        (enough x.0.answer (subst HasMemory x.1 m).0) (enough y.0.answer (subst HasMemory y.1 n).0) in
        let exchange : x.0 ≡ y.0 = same_exchange x.0 y.0 first (cc (once.0)) in (
          x.1 ∙ ap (λ z. z ∷ []) exchange ∙ sym y.1,
          once.1,
          x.6 ∙ (λ i. last_reply (c i) (exchange i)) ∙ sym y.6,
        )
    last_same (request ask style more) xs ys m n (inl x) (inr y) = search (rules, arith, enough, none_is_enough)
    last_same (request ask style more) xs ys m n (inr x) (inl y) = search (rules, arith, enough, none_is_enough)
    last_same (request ask style more) xs ys m n (inr x) (inr y) = search (rules, arith, none_is_enough)
    last_same other xs ys m n x y = (x.0 ∙ sym y.0, x.1 ∙ e ∙ sym y.1, x.2 ∙ sym y.2)

  -- a desk that answers in one dialogue isn't gone in the other
  not_gone : (max : ℕ) (d e : Dialogue step max) → HasMemory d.is.exchanges → HasMemory e.is.exchanges
      → d.old.desk ≡ e.old.desk → (g : GoesOn max d.is.rest d.is.exchanges e.is.exchanges)
      → FindsNoDesk step max (stood step max d) d.new.desk → ⊥
  not_gone max d e m n same g f =
      grind (
        arith,
        answers_split e.old.desk e.is.at g.front g.behind g.next,
        same_answers d.old.desk e.old.desk d.is.at,
        all_first HasAnswer g.front (g.next ∷ g.behind),
        same_request f.request g.kept.0 (sym f.read ∙ g.read),
        enough g.next.answer,
        all_second HasAnswer g.front (g.next ∷ g.behind),
      )

  are_the_same : (max : ℕ) (d e : Dialogue step max) → d.is.bytes ≡ e.is.bytes → IsDecided step max d
      → IsDecided step max e → d.old.desk ≡ e.old.desk → HasMemory (answered_in_dialogue step max d)
      → HasMemory (answered_in_dialogue step max e) → AreTheSame step max d e
  are_the_same max d e same decided decided2 from m n = by (compared step max d e same)
    where
      m_served : HasMemory d.is.exchanges
      m_served = all_first HasAnswer d.is.exchanges _ m

      n_served : HasMemory e.is.exchanges
      n_served = all_first HasAnswer e.is.exchanges _ n

      by : Compare max d.is.rest e.is.rest d.is.exchanges e.is.exchanges → AreTheSame step max d e
      by (inl s) =
          let a = ends_of step max d decided in
          let b = ends_of step max e decided2 in
          let whole =
          same_answers d.old.desk e.old.desk d.is.at e.is.at d.is.exchanges e.is.exchanges m_served n_served from s.0
          d.is.served.answered e.is.served.answered in
          let lasts =
          last_same (length d.is.exchanges) (length e.is.exchanges) (ap length whole.0) d.is.rest d.is.at e.is.at
          d.new.desk e.new.desk whole.1 d.end e.end a.text b.text a.parse _ _
          (all_second HasAnswer d.is.exchanges _ m) (all_second HasAnswer e.is.exchanges _ n) a.last
          (the_other step max d e s.1 a b) in
          let texts : replies e.is.exchanges ++ b.text ≡ replies d.is.exchanges ++ a.text =
          λ i. replies (sym whole.0 i) ++ sym lasts.2 i in
          record {
            exchanges = λ i. whole.0 i ++ lasts.0 i;
            rest = s.1;
            desk = lasts.1;
            written = replies d.is.exchanges ++ a.text;
            taken =
                took_both d.old.sink d.is.mid d.new.sink (replies d.is.exchanges) a.text d.is.served.written a.took;
            taken_too =
                subst (TookAll e.old.sink e.new.sink) texts
                (took_both e.old.sink e.is.mid e.new.sink (replies e.is.exchanges) b.text e.is.served.written b.took);
          }
      by (inr (inl g)) =
          absurd (none_goes_on step max d e decided g (λ gone f. not_gone max d e m_served n_served from g f))
      by (inr (inr g)) =
          absurd (none_goes_on step max e d decided2 g (λ gone f. not_gone max e d n_served m_served (sym from) g f))

pub conversations_determined : {D : Type 0} (step : Moves D) → ConversationsAreDetermined step
conversations_determined step = search (rules, arith, ask_the_same, are_the_same)

-- ---- a service

same_turn : (old : State) (o : Outcome) (now : ℕ) (a b : Answer) (new other : State) → Comes old now o a new
    → Comes old now o b other → a ≢ NoMemory → b ≢ NoMemory → (a ≡ b) × (new ≡ other)
same_turn old o now a b new other h h1 m n = search (rules, arith)

turns_same : (old : State) (ask : Ask) (secret : List ℕ) (now : ℕ) (a b : Answer) (new other : State)
    → Turn old ask secret now a new → Turn old ask secret now b other → a ≢ NoMemory → b ≢ NoMemory
    → (a ≡ b) × (new ≡ other)
unfolding Turn
turns_same old ask secret now a b new other x y m n = search (rules, arith, same_turn)

pub service_deterministic : IsDeterministic StepsService
service_deterministic old ask answer other new another x y m n = search (rules, arith, turns_same)
