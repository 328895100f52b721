-- What a push left is handed out behind the step of its close.
use Rattle.std.proofs.Common.{◌≡◌, ℕ, ◌≤◌, ◌⊎◌, List, [], ◌∷◌, ◌++◌, length, false, sym, ap, subst, ◌∙◌, arith}
use Rattle.std.proofs.Common.{inl, inr, Some, rules}
use Rattle.std.specs.Prelude.{IsTrue}
use Rattle.std.specs.FinMap as map
use Rattle.std.proofs.lemmas.List.{map-append}
use Rattle.upload_names.specs.Digest.{HasDigest}
use Rattle.upload_service.specs.Machine.{Comes, IsLawful, Outcome, State, Turn, blob_reply, holds}
use Rattle.upload_service.specs.Machine.Outcome.{Replies}
use Rattle.upload_service.specs.Run as served
use Rattle.upload_service.specs.Run.{NeverBefore, NeverFall, Run}
use Rattle.upload_service.specs.Stored.{last_under, stored}
use Rattle.upload_service.specs.UploadView.{answer_view}
use Rattle.upload_service.specs.declared.answer.Answer.{Answer}
use Rattle.upload_service.specs.declared.answer.Answer.TheVariants.{Blob, NoMemory}
use Rattle.upload_service.specs.declared.ask.Ask.TheVariants.{Has}
use Rattle.upload_wire.specs.ReplyText.{reply_body}
use Rattle.upload_keeper.specs.Log.{Step, exchanges_of}
use Rattle.upload_intake.specs.Pools.ServedPool.{Given, Left, IsServedPool}
use Rattle.upload_intake.specs.Pools.Working.{Lending, Means, Lent}
use Rattle.upload_push.specs.Slices.{Push}
use Rattle.upload_push.proofs.Cases.{cond_yes}
use Rattle.upload_push.proofs.Ends.{there_by_pair}
use Rattle.upload_push.proofs.Turns.{same_inside, turn_case}
use Rattle.upload_push.proofs.Worth.{Laws}
use Rattle.end_to_end.specs.Gets.{FilesAreHandedBack, HandsBack}
use Rattle.end_to_end.specs.Network.{IsLeftThere}
use Rattle.end_to_end.proofs.Serving.{held_by_run, lawful_by_run}

-- ---- moments of what comes behind

never_earlier : (earlier moment : ℕ) (xs : List served.Exchange) → earlier ≤ moment → NeverBefore moment xs
    → NeverBefore earlier xs
never_earlier earlier moment [] before never = tt
never_earlier earlier moment (x ∷ xs) before never = (omega (arith, before, never.0), never.1)

never_before_back : (moment : ℕ) (xs ys : List served.Exchange) → NeverBefore moment (xs ++ ys) → NeverFall ys
never_before_back moment [] ys never = never_earlier 0 moment ys (omega arith) never
never_before_back moment (x ∷ xs) ys never = never_before_back x.now xs ys never.1

-- ---- what a GET is answered of a blob that is there

gets : (p : Push) (s : State) (secret : List ℕ) (now : ℕ) (answer : Answer) (new : State) (content : List ℕ)
    → Turn s (Has p.name p.digest false) secret now answer new → IsTrue (holds s p.name p.digest)
    → map.get s.blobs p.digest ≡ Some content
    → (answer ≡ NoMemory) ⊎ (answer ≡ Blob p.digest (length content) (Some content))
gets p s secret now answer new content turn held bytes =
    turn_case (λ a t. (a ≡ NoMemory) ⊎ (a ≡ Blob p.digest (length content) (Some content))) s
    (Has p.name p.digest false) secret now answer new
    (λ a t comes.
    let comes_so : Comes s now (Replies (Blob p.digest (length content) (Some content))) a t =
    subst (λ (o : Outcome). Comes s now o a t) (cond_yes _ _ held ∙ ap (blob_reply p.digest false) bytes) comes in
    elim comes_so [
      | inl c ↦ inr c.0
      | inr c ↦ inl c.1
    ]) turn

module _ {L : Lending} {S G O M : Type 0} (m : Means L S G O) (tells : M → ℕ → M → Type 0) (laws : Laws)
    (given : Given M (Lent L S G O)) (left : Left M (Lent L S G O)) (pool : IsServedPool m tells given left)
    (p : Push) (lawful : IsLawful given.service) (push : IsLeftThere p given.service pool.steps left.service)
    (between later : List Step) (get : Step) (split : push.after ≡ between ++ get ∷ later)
    (asked : get.exchange.ask ≡ Has p.name p.digest false) where
  lawful_then : IsLawful push.at
  lawful_then = search (rules, arith, lawful_by_run)

  moments : NeverFall (exchanges_of push.after)
  moments = search (rules, arith, never_earlier, never_before_back, map-append)

  handed_back : (get.exchange.answer ≡ NoMemory) ⊎ HandsBack p push.at between get.exchange.answer
  handed_back =
      let exchanges = ap exchanges_of split ∙ map-append (λ (s : Step). s.exchange) between (get ∷ later) in
      let headline = laws.headline push.at (exchanges_of push.after) left.service lawful_then moments push.second in
      let at = headline.each (exchanges_of between) get.exchange (exchanges_of later) exchanges in
      let turn =
      subst (λ a. Turn at.0 a get.exchange.secret get.exchange.now get.exchange.answer at.1) asked at.3 in
      let held = held_by_run push.at (exchanges_of between) at.0 p.name p.digest at.2 push.stored.pair in
      let there =
      there_by_pair p at.0 (lawful_by_run laws push.at (exchanges_of between) at.0 lawful_then at.2) held in
      let got =
      gets p at.0 get.exchange.secret get.exchange.now get.exchange.answer at.1 there.blob turn held there.bytes in
      elim got [
        | inl none ↦ inl none
        | inr is ↦
            let out = at.5.blob p.name p.digest false p.digest (length there.blob) (Some there.blob) asked is in
            inr (record {
              content = out.content;
              is_last =
                  subst (λ had. last_under p.digest (stored push.at (exchanges_of between)) had ≡ Some out.content)
                  push.stored.bytes out.is_content;
              own_digest =
                  subst (λ b. HasDigest b p.digest)
                  (same_inside (ap (λ a. (answer_view a).bytes) (sym is ∙ out.is_answer))) there.own_digest;
              is_answer = out.is_answer;
              is_body = ap (λ a. reply_body a false) out.is_answer;
            })
      ]

pub files_handed_back : {L : Lending} {S G O M : Type 0} (m : Means L S G O) (tells : M → ℕ → M → Type 0) → Laws
    → FilesAreHandedBack m tells
files_handed_back m tells laws = search (rules, arith, handed_back)
