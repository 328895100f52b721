-- One ask of a transport over a wire, from what its two halves say.
use Rattle.std.proofs.Common.{◌≡◌, List, ℕ, Bool, subst, sym, ap, ◌∙◌, length, arith, rules}
use Rattle.std.specs.Prelude.{IsTrue, OnOk, Option, Result, ⊤, true, not, ◌==◌}
use Rattle.upload_service.specs.declared.ask.Ask.{Ask}
use Rattle.http_wire.specs.States.{SinkState}
use Rattle.http_wire.specs.Writing.{Wrote}
use Rattle.upload_client.specs.AskText.{ask_text, message_of, wants_head}
use Rattle.upload_client.specs.TransportText.{AsksOverWire, AsksWhere, HearsBehind, WireState, awaited, has_body}
use Rattle.upload_client.specs.TransportText.{stays_open}
use Rattle.upload_client.specs.declared.heard.Heard.{Heard}
use Rattle.http_wire.specs.declared.writing.WriteFault.{WriteFault}

-- what is heard is said of the reader alone
hears_same : (written : Result ⊤ WriteFault) (body head : Bool) (old mid new : WireState) (heard : Option Heard)
    → mid.reader ≡ old.reader → HearsBehind (awaited written body) head mid heard new
    → HearsBehind (awaited written body) head old heard new
hears_same written body head old mid new heard same h = search (rules, arith)

-- a request that was written and what was heard behind it, if the host and the body were sliced
pub exchanges : (old mid between new : WireState) (ask : Ask) (host body : List ℕ) (goes empty head : Bool)
    (sent : SinkState) (written : Result ⊤ WriteFault) (heard : Option Heard)
    → mid ≡ old → goes ≡ stays_open old → goes ≡ true → host ≡ mid.host → new.host ≡ mid.host
    → Wrote mid.writer sent (ask_text ask host) written → OnOk written (IsTrue sent.flushed) → new.writer ≡ sent
    → empty ≡ (length body == 0) → body ≡ (message_of ask).body → head ≡ wants_head ask
    → HearsBehind (awaited written (not empty)) head between heard new → between.reader ≡ mid.reader
    → AsksOverWire old ask heard new
exchanges old mid between new ask host body goes empty head sent written heard old_is goes_is open_now host_is
    same_host wrote flushed sent_is empty_is body_is head_is hears same_reader =
    let text = subst (λ h. Wrote mid.writer sent (ask_text ask h) written) host_is wrote in
    let bodied = ap not (empty_is ∙ ap (λ (b : List ℕ). length b == 0) body_is) in
    let heard_behind = subst (λ h. HearsBehind (awaited written (has_body ask)) h mid heard new) head_is
    (subst (λ b. HearsBehind (awaited written b) head mid heard new) bodied
    (hears_same written (not empty) head mid between new heard same_reader hears)) in
    let asked : AsksWhere true mid ask heard new = record {
      written = written;
      wrote = subst (λ w. Wrote mid.writer w (ask_text ask mid.host) written) (sym sent_is) text;
      flushed = subst (λ w. OnOk written (IsTrue w.flushed)) (sym sent_is) flushed;
      hears = heard_behind;
      same_host = same_host;
    } in
    subst (λ b. AsksWhere b old ask heard new) (sym open_now ∙ goes_is)
    (subst (λ o. AsksWhere true o ask heard new) old_is asked)
