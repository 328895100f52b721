-- The connections of a push that makes them as it needs them.
use Rattle.std.proofs.Common.{◌≡◌, ℕ, Bool, true, false, List, [], ◌∷◌, ◌++◌, refl, sym, ap, subst, ◌∙◌, append-nil}
use Rattle.std.proofs.Common.{append_assoc, inl, inr, Option, Some, None, arith, rules}
use Rattle.std.specs.Prelude.{⊤, if◌then◌else◌}
use Rattle.std.specs.List.{AllByRecursion}
use Rattle.upload_service.specs.declared.ask.Ask.{Ask}
use Rattle.upload_client.specs.TransportText.{WireState, AsksOverWire, stays_open}
use Rattle.upload_intake.specs.Pools.Working.{Lending, Means}
use Rattle.upload_push.specs.Dialed.{AsksDialed, Connects, kept_or}
use Rattle.upload_push.specs.Slices.{Attempt, Leads}
use Rattle.upload_push.proofs.Turns.{same_inside}
use Rattle.wire_laws.specs.Joined.{TransportCall, AsksInTurn, IsNoGet}
use Rattle.wire_laws.specs.WrittenExchanges.{IsShortHost, IsWritable}
use Rattle.end_to_end.specs.Network.{Connection, IsAskOf}
use Rattle.end_to_end.specs.Dialing.{Leg, over, unmet, asked_in, asked_by, IsLegTo, DialedPushesHaveConnections}
use Rattle.end_to_end.specs.Dialing.{DialedConnectionsAreCarried}
use Rattle.upload_wire.proofs.Lists.{all_both, all_second, all_weaker}

-- ---- one more ask over a connection

abbrev asked_of : Attempt → TransportCall
asked_of e = record { ask = e.ask; heard = e.heard }

in_turn_too : (made : WireState) (xs : List TransportCall) (left : WireState) (x : TransportCall) (new : WireState)
    → AsksInTurn made xs left → AsksOverWire left x.ask x.heard new → AsksInTurn made (xs ++ x ∷ []) new
in_turn_too made [] left x new turn asks = (new, subst (λ w. AsksOverWire w x.ask x.heard new) turn asks, refl)
in_turn_too made (y ∷ ys) left x new turn asks = (turn.0, turn.1, in_turn_too turn.0 ys left x new turn.2 asks)

-- ---- requests of a list, and of a longer one

ask_of_newest : (e : Attempt) (log : List Attempt) → IsAskOf (e ∷ log) e.ask
ask_of_newest e log = record { later = []; at = e; earlier = log; split = refl; same = refl }

ask_of_longer : (e : Attempt) (log : List Attempt) (ask : Ask) → IsAskOf log ask → IsAskOf (e ∷ log) ask
ask_of_longer e log ask is =
    record { later = e ∷ is.later; at = is.at; earlier = is.earlier; split = ap (λ l. e ∷ l) is.split; same = is.same }

-- ---- connections behind some asks

module _ (host : List ℕ) (earlier : List Attempt) where
  leg_of_longer : (e : Attempt) (log : List Attempt) (leg : Leg) → IsLegTo host earlier log leg
      → IsLegTo host earlier (e ∷ log) leg
  leg_of_longer e log (over c) is = search (rules, arith, all_weaker, ask_of_longer)
  leg_of_longer e log (unmet ask) is = tt

  -- the connection that is kept is the newest one, as it was left
  abbrev IsKept : Option WireState → List Leg → Type 0
  IsKept None legs = ⊤
  IsKept (Some wire) [] = ⊥
  IsKept (Some wire) (over c ∷ legs) = c.left ≡ wire
  IsKept (Some wire) (unmet ask ∷ legs) = ⊥

  record Connected (log : List Attempt) (kept : Option WireState) : Type 0 where
    legs : List Leg
    all : asked_in legs ≡ asked_by log
    each : AllByRecursion (IsLegTo host earlier log) legs
    newest : IsKept kept legs

  kept_newest : (c : Connection) (legs : List Leg) (stays : Bool)
      → IsKept (if stays then Some c.left else None) (over c ∷ legs)
  kept_newest c legs true = refl
  kept_newest c legs false = tt

  -- an ask over a connection that was made for it
  over_new : (e : Attempt) (log : List Attempt) (wire new : WireState) (kept behind : Option WireState)
      → Connected log kept → Connects host None (Some wire) → AsksOverWire wire e.ask e.heard new
      → behind ≡ kept_or None new → Connected (e ∷ log) behind
  over_new e log wire new kept behind at made asks is =
      let c : Connection = record {
        made = wire;
        before = [];
        asks = asked_of e ∷ [];
        left = new;
        is_new = record {
          given = ap (λ (w : WireState). w.reader.input.source.given) made.2;
          taken = ap (λ (w : WireState). w.writer.taken) made.2;
        };
        turn = (new, asks, refl);
      } in
      record {
        legs = over c ∷ at.legs;
        all = ap (λ l. l ++ asked_of e ∷ []) at.all;
        each = (
          record { host_is = ap (λ (w : WireState). w.host) made.2; own = (ask_of_newest e log, tt); before_it = tt },
          all_weaker (leg_of_longer e log) at.legs at.each,
        );
        newest = subst (λ k. IsKept k (over c ∷ at.legs)) (sym is) (kept_newest c at.legs (stays_open new));
      }

  -- an ask over the connection that was kept
  over_kept : (e : Attempt) (log : List Attempt) (wire new : WireState) (behind : Option WireState) (legs : List Leg)
      → asked_in legs ≡ asked_by log → AllByRecursion (IsLegTo host earlier log) legs → IsKept (Some wire) legs
      → AsksOverWire wire e.ask e.heard new → behind ≡ kept_or None new → Connected (e ∷ log) behind
  over_kept e log wire new behind [] all each newest asks is = absurd newest
  over_kept e log wire new behind (unmet ask ∷ legs) all each newest asks is = absurd newest
  over_kept e log wire new behind (over c ∷ legs) all each newest asks is =
      let x : TransportCall = asked_of e in
      let longer : AsksInTurn c.made ((c.before ++ c.asks) ++ x ∷ []) new =
      in_turn_too c.made (c.before ++ c.asks) c.left x new c.turn
      (subst (λ w. AsksOverWire w e.ask e.heard new) (sym newest) asks) in
      let d : Connection = record {
        made = c.made;
        before = c.before;
        asks = c.asks ++ x ∷ [];
        left = new;
        is_new = c.is_new;
        turn = subst (λ l. AsksInTurn c.made l new) (append_assoc c.before c.asks (x ∷ [])) longer;
      } in
      record {
        legs = over d ∷ legs;
        all = sym (append_assoc (asked_in legs) c.asks (x ∷ [])) ∙ ap (λ l. l ++ x ∷ []) all;
        each = (
          record {
            host_is = each.0.host_is;
            own =
                all_both (λ y. IsAskOf (e ∷ log) y.ask) c.asks (x ∷ [])
                (all_weaker (λ y. ask_of_longer e log y.ask) c.asks each.0.own) (ask_of_newest e log, tt);
            before_it = each.0.before_it;
          },
          all_weaker (leg_of_longer e log) legs each.1,
        );
        newest = subst (λ k. IsKept k (over d ∷ legs)) (sym is) (kept_newest d legs (stays_open new));
      }

  -- an ask for which there was no connection
  over_none : (e : Attempt) (log : List Attempt) (kept behind : Option WireState) → Connected log kept
      → e.heard ≡ None → behind ≡ None → Connected (e ∷ log) behind
  over_none e log kept behind at none is = record {
    legs = unmet e.ask ∷ at.legs;
    all = λ i. at.all i ++ record { ask = e.ask; heard = (sym none) i } ∷ [];
    each = (tt, all_weaker (leg_of_longer e log) at.legs at.each);
    newest = subst (λ k. IsKept k (unmet e.ask ∷ at.legs)) (sym is) tt;
  }

  over_one : (e : Attempt) (log : List Attempt) (wire new : WireState) (kept behind : Option WireState)
      → Connected log kept → Connects host kept (Some wire) → AsksOverWire wire e.ask e.heard new
      → behind ≡ kept_or None new → Connected (e ∷ log) behind
  over_one e log wire new None behind at made asks is = over_new e log wire new None behind at made asks is
  over_one e log wire new (Some w) behind at same asks is = search (rules, arith, over_kept, same_inside)

  one_more : (e : Attempt) (log : List Attempt) (kept behind : Option WireState) → Connected log kept
      → AsksDialed host kept e.ask e.heard behind → Connected (e ∷ log) behind
  one_more e log kept behind at (inl asks) = over_one e log asks.0 asks.1 kept behind at asks.2 asks.3 asks.4
  one_more e log kept behind at (inr none) = over_none e log kept behind at none.1 none.2

  connected : (first kept : Option WireState) (log : List Attempt) → Connected [] first
      → Leads (AsksDialed host) first log kept → Connected log kept
  connected first kept [] at leads = subst (Connected []) (sym leads) at
  connected first kept (e ∷ log) at leads = one_more e log leads.0 kept (connected first leads.0 log at leads.1) leads.2

  -- ---- what was asked before a push

  abbrev before_push : Connection → Connection
  before_push c = record {
    made = c.made;
    before = c.before ++ c.asks;
    asks = [];
    left = c.left;
    is_new = c.is_new;
    turn = subst (λ l. AsksInTurn c.made l c.left) (sym (append-nil (c.before ++ c.asks))) c.turn;
  }

  abbrev all_before : List Leg → List Leg
  all_before [] = []
  all_before (over c ∷ legs) = over (before_push c) ∷ all_before legs
  all_before (unmet ask ∷ legs) = all_before legs

  none_asked : (legs : List Leg) → asked_in (all_before legs) ≡ []
  none_asked [] = refl
  none_asked (over c ∷ legs) = append-nil (asked_in (all_before legs)) ∙ none_asked legs
  none_asked (unmet ask ∷ legs) = none_asked legs

  each_before : (legs : List Leg) → AllByRecursion (IsLegTo host earlier earlier) legs
      → AllByRecursion (IsLegTo host earlier []) (all_before legs)
  each_before [] each = tt
  each_before (over c ∷ legs) each = search (rules, arith, all_both, each_before legs each.1)
  each_before (unmet ask ∷ legs) each = each_before legs each.1

  still_kept : (kept : Option WireState) (legs : List Leg) → IsKept kept legs → IsKept kept (all_before legs)
  still_kept kept legs h = search (rules, arith)

  push_begins : (kept : Option WireState) → Leads (AsksDialed host) None earlier kept → Connected [] kept
  push_begins kept leads = search (rules, arith, connected, none_asked, each_before, still_kept)

pub have_connections : DialedPushesHaveConnections
have_connections host earlier log kept last first leads =
    let at = connected host earlier kept last log (push_begins host earlier kept first) leads in
    record { legs = at.legs; all = at.all; each = at.each }

-- ---- connections that a network carried

of_log : (P : Ask → Type 0) (log : List Attempt) (ask : Ask) → AllByRecursion (λ (e : Attempt). P e.ask) log
    → IsAskOf log ask → P ask
of_log P log ask all is = search (rules, arith, all_second)

pub are_carried : {L : Lending} {S G O : Type 0} (m : Means L S G O) → DialedConnectionsAreCarried m
are_carried m max_body host earlier log c made none writable short t carries = record {
  carries = carries;
  to_host = subst IsShortHost (sym made.host_is) short;
  own = made.own;
  no_gets = all_weaker (λ x. of_log IsNoGet earlier x.ask none) c.before made.before_it;
  writable = all_weaker (λ x. of_log (IsWritable max_body) earlier x.ask writable) c.before made.before_it;
}
