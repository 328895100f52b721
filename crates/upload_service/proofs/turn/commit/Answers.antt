use Rattle.std.proofs.Common.{arith, rules}
use Rattle.std.proofs.Common.{◌≡◌, ℕ, ◌+◌, ◌<◌, ◌^◌, List, ◌++◌, [], length, Some, None, refl, sym, ◌∙◌, ap, subst}
use Rattle.std.specs.Prelude.{is_some, IsSome, box_value}
use Rattle.std.specs.FinMap as map
use Rattle.std.specs.FinMap.{FinMap}
use Rattle.std.proofs.lemmas.Bool.{true≢false}
use Rattle.upload_names.specs.Digest.{digest_cmp}
use Rattle.upload_bytes.specs.Blobs.{body_in}
use Rattle.upload_service.specs.Machine.{Commits, Session, Table}
use Rattle.upload_service.proofs.Keeping.Tables.{blob-insert_same, get-insert_same}
use Rattle.upload_service.proofs.Keeping.Stocked.{put_again}
use Rattle.upload_service.proofs.Keeping.Taken.{put_back_same, taken_leaves}
use Rattle.upload_service.proofs.Serving.{does, lacks}
use Rattle.upload_service.proofs.turn.commit.Goals as goal

pub put_back-requires : goal.put_back-requires
put_back-requires c =
    let table = c.args.tables.now.sessions in
    let at = c.args.last.at in
    elim (map.get table at) as (λ o. IsSome o → ((session : Session) → o ≡ Some session
    → (c.in-Some.received ≡ session.received) × (c.take.new.self
    ≡ map.insert table at (record { name = session.name; received = []; seen = session.seen })))
    → IsSome (map.get c.take.new.self at)) [
      | None ↦ λ none _. absurd (true≢false (sym none))
      | Some session ↦ λ _ taken.
          ap (λ (m : Table Session). is_some (map.get m at)) (taken session refl).1
          ∙ ap is_some (get-insert_same table at _)
    ] c.requires.open c.in-Some.ensures.taken

pub of_received-blob-requires : goal.of_received-blob-requires
of_received-blob-requires c =
    let table = c.args.tables.now.sessions in
    let at = c.args.last.at in
    let body : body_in (box_value c.in-Ok-of.place) ≡ c.args.last.body = c.in-Ok-of.ensures ∙ c.in-Ok-admit.ensures.same in
    elim (map.get table at) as (λ o. IsSome o → ((session : Session) → o ≡ Some session
    → (c.in-Some.received ≡ session.received) × (c.take.new.self
    ≡ map.insert table at (record { name = session.name; received = []; seen = session.seen })))
    → ((session : Session) → o ≡ Some session → length session.received + length c.args.last.body < 2 ^ 64)
    → length c.in-Some.received + length (body_in (box_value c.in-Ok-of.place)) < 2 ^ 64) [
      | None ↦ λ none _ _. absurd (true≢false (sym none))
      | Some session ↦ λ _ taken fits.
          subst (λ (r : List ℕ). length r + length (body_in (box_value c.in-Ok-of.place)) < 2 ^ 64)
          (sym (taken session refl).0)
          (subst (λ (b : List ℕ). length session.received + length b < 2 ^ 64) (sym body) (fits session refl))
    ] c.requires.open c.in-Some.ensures.taken c.requires.fits

pub put-requires : goal.put-requires
put-requires c = search (rules, arith, blob-insert_same)

pub returns-clause-turn : goal.returns-clause-turn
returns-clause-turn c = λ now session e.
    let had = c.args.tables.now.stock.blobs in
    let at = c.args.last.at in
    let taken = c.in-Some.ensures.taken session e in
    let sessions : c.close.new.self ≡ map.remove c.args.tables.now.sessions at =
    c.close.ensures
    ∙ ap (λ (m : Table Session). map.remove m at) taken.1
    ∙ taken_leaves c.args.tables.now.sessions at _ in
    let blob : c.of_received-blob.result ≡ session.received ++ c.args.last.body =
    c.of_received-blob.ensures
    ∙ ap (λ (r : List ℕ). r ++ body_in (box_value c.in-Ok-of.place)) taken.0
    ∙ ap (λ l. session.received ++ l) (c.in-Ok-of.ensures ∙ c.in-Ok-admit.ensures.same) in
    let blobs : c.put.new.self.blobs ≡ map.insert had c.args.digest (session.received ++ c.args.last.body) =
    c.put.ensures.blobs
    ∙ ap (λ (m : FinMap digest_cmp (List ℕ)). map.insert m c.args.digest c.of_received-blob.result)
    c.in-Ok-hold.ensures.blobs
    ∙ put_again had c.args.digest _ c.of_received-blob.result
    ∙ ap (map.insert had c.args.digest) blob in
    does _ now _ (Commits c.args.last.name at c.args.digest (session.received ++ c.args.last.body)) _ _
    refl refl
    (λ i. record {
      limits = c.args.tables.now.limits;
      issued = c.args.tables.now.issued;
      sessions = sessions i;
      blobs = blobs i;
      pairs = (c.put.ensures.pairs ∙ c.in-Ok-hold.ensures.pairs) i;
    })

pub returns-in_default-hold-clause-turn : goal.returns-in_default-hold-clause-turn
returns-in_default-hold-clause-turn c = λ now session e.
    let table = c.args.tables.now.sessions in
    let at = c.args.last.at in
    let taken = c.in-Some.ensures.taken session e in
    let bare : Session = record { name = session.name; received = []; seen = session.seen } in
    let there : map.get c.take.new.self at ≡ Some bare =
    ap (λ (m : Table Session). map.get m at) taken.1 ∙ get-insert_same table at bare in
    let sessions : c.put_back.new.self ≡ table =
    c.put_back.ensures bare there
    ∙ (λ i. map.insert (taken.1 i) at
    (record { name = session.name; received = taken.0 i; seen = session.seen }))
    ∙ put_back_same table at session bare e in
    lacks _ now _ (Commits c.args.last.name at c.args.digest (session.received ++ c.args.last.body)) _ _
    refl refl refl
    (λ i. record {
      limits = c.args.tables.now.limits;
      issued = c.args.tables.now.issued;
      sessions = sessions i;
      blobs = (c.in_default-hold.ensures.err i).blobs;
      pairs = (c.in_default-hold.ensures.err i).pairs;
    })
