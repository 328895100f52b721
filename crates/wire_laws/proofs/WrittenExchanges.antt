-- What a service answers to an ask with lawful parts can be heard.
use Rattle.std.proofs.Common.{ℕ, ◌≤◌, Bool, true, false, List, length, refl, arith, sym, subst, Some, None, inl, inr}
use Rattle.std.proofs.Common.{IsTrue, length-append, rules}
use Rattle.std.specs.Prelude.{if◌then◌else◌}
use Rattle.upload_names.specs.Digest.{Digest}
use Rattle.upload_names.specs.NamePass.{is_name}
use Rattle.upload_service.specs.Machine.{AreLawful, IsLawful, Outcome, Replies, State, Turn, answer_of}
use Rattle.upload_service.specs.UploadView.{Act}
use Rattle.upload_service.specs.declared.ask.Ask.{Ask}
use Rattle.upload_service.specs.declared.ask.Ask.TheVariants as asks
use Rattle.upload_service.specs.declared.answer.Answer.{Answer}
use Rattle.upload_service.specs.declared.answer.Answer.TheVariants as answers
use Rattle.upload_service.proofs.Effects.{Found}
use Rattle.upload_service.proofs.Steps.{HoldsOfEach, by_ask, session_ask}
use Rattle.upload_client.specs.AskText.{wants_head}
use Rattle.wire_laws.specs.WrittenAsks.{HasLawfulParts, written_style}
use Rattle.wire_laws.specs.WrittenExchanges.{ExchangesAreHeard, HasSize}
use Rattle.wire_laws.specs.WrittenReplies.{FitsMethod, HasLawfulValues, most_told}
use Rattle.wire_laws.proofs.WrittenReplies.{replies_heard}
use Rattle.wire_laws.proofs.WrittenRequests.{asked_request}

-- the answer to such an ask can be heard
abbrev IsAudible : Bool → Answer → Type 0
IsAudible head answer = HasSize answer → HasLawfulValues answer × FitsMethod answer head

abbrev Leads : Ask → Outcome → Type 0
Leads ask o = HasLawfulParts ask → IsAudible (wants_head ask) (answer_of o)

handed_out : (name : List ℕ) (digest : Digest) (head : Bool) (blob : List ℕ) → Leads (asks.Has name digest head)
    (Replies (answers.Blob digest (length blob) (if head then None else Some blob)))
handed_out name digest true blob h sized = ((h.1, sized, tt), refl)
handed_out name digest false blob h sized = ((h.1, sized, refl), tt)

-- the name in a request to a session
name_of_act : (name at : List ℕ) (act : Act) → HasLawfulParts (session_ask name at act) → IsTrue (is_name name)
name_of_act name at act = search (rules, arith)

module _ (s : State) (lawful : IsLawful s) (limits : AreLawful s.limits) (secret : List ℕ) (now : ℕ) where
  small : (name at : List ℕ) (found : Found s now name at) → length found.session.received ≤ most_told
  small name at found = search (rules, arith)

  each : HoldsOfEach s secret now Leads
  each = search (rules, arith, handed_out, small, name_of_act, length-append)

  audible : (ask : Ask) (answer : Answer) (after : State) → HasLawfulParts ask → Turn s ask secret now answer after
      → IsAudible (wants_head ask) answer
  unfolding Turn
  audible ask answer after h (inl does) =
      subst (IsAudible (wants_head ask)) (sym does.0) (by_ask s secret now Leads each ask h)
  audible ask answer after h (inr lacks) = subst (IsAudible (wants_head ask)) (sym lacks.1) (λ sized. (tt, tt))

pub exchanges_heard : ExchangesAreHeard
exchanges_heard max_body ask host service answer asked answers =
    let heard_of = audible service answers.lawful answers.limits answers.secret answers.now in
    let fits = heard_of ask answer answers.after asked.parts answers.turn answers.sized in
    record {
      read = asked_request asked;
      heard = λ rest new. replies_heard answer (written_style ask) rest new fits.0 fits.1;
    }

-- the answer of a lawful service to an ask with lawful parts can be heard
pub answers_heard : (s : State) → IsLawful s → AreLawful s.limits
    → (secret : List ℕ) (now : ℕ) (ask : Ask) (answer : Answer) (after : State) → HasLawfulParts ask
    → Turn s ask secret now answer after → HasSize answer → HasLawfulValues answer × FitsMethod answer (wants_head ask)
answers_heard s lawful limits secret now ask answer after parts turn sized = search (rules, arith, audible)
