-- Each move of a line keeps its rule, whatever the other threads did.
use Rattle.std.proofs.Common.{◌≡◌, ◌≢◌, ℕ, zero, suc, ◌≤◌, ◌==◌, Bool, true, false, true≢false, cond, List}
use Rattle.std.proofs.Common.{[], ◌∷◌, ◌++◌, length, length-append, map, filter, set, sym, refl, ap, ◌∙◌, inl}
use Rattle.std.proofs.Common.{inr, ◌⊎◌, ⊎_elim, append_assoc, append-nil, arith, rules}
use Rattle.std.proofs.lemmas.List.{map-append}
use Rattle.std.proofs.lemmas.List.Elements.{filter-append}
use Rattle.std.proofs.lemmas.Bool.{eq-eqb, eqb-true, le-leb, leb-true}
use mathlib.Core.Option.{some, some-injective, some-ne-none}
use lib.ListN.{get_elem?}
use Rattle.crossbeam_channel.specs.Fifo.{Pushes, Pops, Forks, Merges}
use Rattle.atomic_table.proofs.Lists.{at_set}
use Rattle.upload_keeper.specs.declared.line.Item.{Item}
use Rattle.upload_keeper.specs.declared.line.Sending.{Sending}
use Rattle.upload_keeper.specs.declared.line.LineView.{LineView}
use Rattle.upload_keeper.specs.Line.{Ports, items_of, sends, is_sender, sent, Fits, InOrder, IsOfAnother, unused}
use Rattle.upload_keeper.specs.Line.{idle, after, next, more, without_next, next_alone, joined, with_sent, with_taken}
use Rattle.upload_keeper.specs.Passes.{taker_view}

pub same : (n : ℕ) → (n == n) ≡ true
same n = eq-eqb n n refl

pub is_either : (b : Bool) → (b ≡ true) ⊎ (b ≡ false)
is_either true = inl refl
is_either false = inr refl

pub differ : (a b : ℕ) → a ≢ b → (a == b) ≡ false
differ a b n = ⊎_elim (λ t. absurd (n (eqb-true a b t))) (λ f. f) (is_either (a == b))

stays : (b : Bool) (n m : ℕ) → (b ≡ true → ⊥) → cond b n m ≡ m
stays true n m never = absurd (never refl)
stays false n m never = refl

none : {A : Type 0} → false ≡ true → A
none p = absurd (true≢false (sym p))

module _ {T : Type 0} where
  pub items_of-append : (seat : ℕ) (xs ys : List (Item T))
      → items_of seat (xs ++ ys) ≡ items_of seat xs ++ items_of seat ys
  items_of-append seat xs ys = simp (filter-append, map-append)

  at_end : (l : List (LineView T)) (a b : LineView T) (j : ℕ) → get_elem? l j ≢ some b
      → get_elem? (l ++ a ∷ []) j ≡ some b → j ≡ length l
  at_end [] a b zero n e = refl
  at_end [] a b (suc j) n e = absurd (some-ne-none b (sym e))
  at_end (x ∷ xs) a b zero n e = absurd (n e)
  at_end (x ∷ xs) a b (suc j) n e = ap suc (at_end xs a b j n e)

  -- a fact of each port and its pass
  abbrev Each : (ℕ → LineView T → Type 0) → List (LineView T) → Type 0
  Each F views = (port : ℕ) (v : LineView T) → get_elem? views port ≡ some v → F port v

  each_set : (F : ℕ → LineView T → Type 0) (views : List (LineView T)) (port : ℕ) (w : LineView T) → F port w
      → ((j : ℕ) (u : LineView T) → j ≢ port → get_elem? views j ≡ some u → F j u) → Each F (set views port w)
  each_set F views port w mine others j u e = search (rules, arith, at_set)

  each_one : (F : ℕ → LineView T → Type 0) (w : LineView T) → F 0 w → Each F (w ∷ [])
  each_one F w mine j u e = search (rules, arith, each_set, at_end)

  pub begins : InOrder {T = T} [] (unused ∷ [])
  begins =
      let ports : Ports = record { sender = λ _. 0; taker = 0 } in
      (ports, [], each_one (Fits ports [] []) unused ((λ seat _. (refl, refl)), λ _. (refl, refl)))

  -- what a seat sent, with one item more behind all
  grown : (seat : ℕ) (x : Item T) (taken items : List (Item T))
      → items_of seat (taken ++ (items ++ x ∷ [])) ≡ items_of seat (taken ++ items) ++ items_of seat (x ∷ [])
  grown seat x taken items = cc (append_assoc taken items (x ∷ []), items_of-append seat (taken ++ items) (x ∷ []))

  -- one item more, of its own seat and of another
  pub of_own : (seat : ℕ) (x : Item T) → (seat == x.seat) ≡ true → items_of seat (x ∷ []) ≡ x.what ∷ []
  of_own seat x e = ap (λ b. map (λ (y : Item T). y.what) (cond b (x ∷ []) [])) e

  of_other : (seat : ℕ) (x : Item T) → (seat == x.seat) ≡ false → items_of seat (x ∷ []) ≡ []
  of_other seat x e = ap (λ b. map (λ (y : Item T). y.what) (cond b (x ∷ []) [])) e

  more_sends : (seat : ℕ) (t : T) (k : Sending T) → sends seat (more t k) ≡ true → sends seat k ≡ true
  more_sends seat t k p = search (rules, arith)

  more_sent : (seat : ℕ) (t : T) (k : Sending T) → is_sender seat k ≡ true → sent (more t k) ≡ sent k ++ t ∷ []
  more_sent seat t k p = search (rules, arith, none)

  is_sending : (seat : ℕ) (k : Sending T) → is_sender seat k ≡ true → sends seat k ≡ true
  is_sending seat k p = search (rules, arith, none)

  only : (seat other : ℕ) (k : Sending T) → is_sender seat k ≡ true → sends other k ≡ true → other ≡ seat
  only seat other k p q = search (rules, arith, eqb-true, none)

  pub sending : (n port : ℕ) (v : LineView T) (x : Item T) → is_sender x.seat v.sending ≡ true
      → Pushes InOrder n port v x (λ w. w ≡ with_sent x v)
  sending n port v x may items views room h at =
      let w : LineView T = with_sent x v in
      let mine = h.2 port v at in
      let first = mine.0 x.seat (is_sending x.seat v.sending may) in (
        w,
        (
          h.0,
          h.1,
          each_set (Fits h.0 h.1 (items ++ x ∷ [])) views port w (
            (λ s p.
                let was = more_sends s x.what v.sending p in
                let own = eq-eqb s x.seat (only x.seat s v.sending may was) in (
                  (mine.0 s was).0,
                  more_sent x.seat x.what v.sending may ∙ (λ i. (mine.0 s was).1 i ++ sym (of_own s x own) i)
                      ∙ sym (grown s x h.1 items),
                )),
            mine.1,
          )
              (λ j u other e. (
                (λ s p.
                    let it = (h.2 j u e).0 s p in
                    let apart : (s == x.seat) ≡ false =
                    differ s x.seat (λ q. other (it.0 ∙ ap h.0.sender q ∙ sym first.0)) in (
                      it.0,
                      it.1 ∙ sym (append-nil (items_of s (h.1 ++ items)))
                          ∙ (λ i. items_of s (h.1 ++ items) ++ sym (of_other s x apart) i) ∙ sym (grown s x h.1 items),
                    )),
                (h.2 j u e).1,
              )),
        ),
        refl,
      )

  -- an item is among those of its seat
  never_none : (x : Item T) (xs ys : List (Item T)) → items_of x.seat (xs ++ x ∷ ys) ≢ []
  never_none x xs ys e =
      let ours = λ (y : Item T). x.seat == y.seat in
      let front : items_of x.seat (x ∷ ys) ≡ x.what ∷ items_of x.seat ys =
      ap (λ b. map (λ (y : Item T). y.what) (cond b (x ∷ filter ours ys) (filter ours ys))) (same x.seat) in
      let all = ap length (sym e ∙ items_of-append x.seat xs (x ∷ ys) ∙ ap (λ l. items_of x.seat xs ++ l) front) in
      let n = length-append (items_of x.seat xs) (x.what ∷ items_of x.seat ys) in
      omega arith

  pub taking : (port : ℕ) (v : LineView T) → v.takes ≡ true
      → Pops InOrder port v (λ x w. (w ≡ with_taken x v) × IsOfAnother v x)
  taking port v may x items views h at =
      let w : LineView T = with_taken x v in
      let mine = h.2 port v at in
      let taken : List (Item T) = h.1 ++ x ∷ [] in
      let as_one : (s : ℕ) → items_of s (h.1 ++ x ∷ items) ≡ items_of s (taken ++ items) =
      λ s. ap (items_of s) (sym (append_assoc h.1 (x ∷ []) items)) in (
        w,
        (
          h.0,
          taken,
          each_set (Fits h.0 taken items) views port w (
            (λ s p. ((mine.0 s p).0, (mine.0 s p).1 ∙ as_one s)),
            λ _. ((mine.1 may).0, ap (λ l. l ++ x ∷ []) (mine.1 may).1),
          )
              (λ j u other e. (
                (λ s p. (((h.2 j u e).0 s p).0, ((h.2 j u e).0 s p).1 ∙ as_one s)),
                λ p. absurd (other (((h.2 j u e).1 p).0 ∙ sym (mine.1 may).0)),
              )),
        ),
        (refl, λ may_send empty. never_none x h.1 items (sym (mine.0 x.seat may_send).1 ∙ empty)),
      )

  -- an item of a list with one more at the end, and where it is
  at_more : (l : List (LineView T)) (a b : LineView T) (j : ℕ) → get_elem? (l ++ a ∷ []) j ≡ some b
      → (get_elem? l j ≡ some b) ⊎ ((j ≡ length l) × (a ≡ b))
  at_more [] a b zero e = inr (refl, some-injective a b e)
  at_more [] a b (suc j) e = absurd (some-ne-none b (sym e))
  at_more (x ∷ xs) a b zero e = inl e
  at_more (x ∷ xs) a b (suc j) e = ⊎_elim (λ p. inl p) (λ p. inr (ap suc p.0, p.1)) (at_more xs a b j e)

  each_more : (F : ℕ → LineView T → Type 0) (views : List (LineView T)) (w : LineView T) → Each F views
      → F (length views) w → Each F (views ++ w ∷ [])
  each_more F views w old new j u e = search (rules, arith, at_more)

  -- what is kept if the next seat's sender is cut off, and what is cut off
  kept : (seat : ℕ) (k : Sending T) → sends seat (after k) ≡ true
      → (sends seat k ≡ true) × (sent (after k) ≡ sent k) × (sends seat (next k) ≡ true → ⊥)
  kept seat k p = search (rules, arith, leb-true, le-leb, eqb-true, none)

  cut : (seat : ℕ) (k : Sending T) → sends seat (next k) ≡ true → (sends seat k ≡ true) × (sent (next k) ≡ sent k)
  cut seat k p = search (rules, arith, eqb-true, le-leb, none)

  pub cuts_next : (port : ℕ) (v : LineView T) → Forks InOrder port v (without_next v) (next_alone v)
  cuts_next port v items views h at =
      let l : LineView T = without_next v in
      let r : LineView T = next_alone v in
      let mine = h.2 port v at in
      let vs : List (LineView T) = set views port l in
      let n : ℕ = length vs in
      let before : ℕ → ℕ = h.0.sender in
      let ports : Ports = record { sender = λ s. cond (sends s r.sending) n (before s); taker = h.0.taker } in (
        ports,
        h.1,
        each_more (Fits ports h.1 items) vs r
            (each_set (Fits ports h.1 items) views port l (
              (λ s p. let k = kept s v.sending p in
                  ((mine.0 s k.0).0 ∙ sym (stays (sends s r.sending) n (before s) k.2), k.1 ∙ (mine.0 s k.0).1)),
              mine.1,
            )
            (λ j u other e. (
              (λ s p. let it = (h.2 j u e).0 s p in (
                it.0 ∙ sym
                    (stays (sends s r.sending) n (before s)
                    (λ q. other (it.0 ∙ sym (mine.0 s (cut s v.sending q).0).0))),
                it.1,
              )),
              (h.2 j u e).1,
            ))) (
              (λ s p. let c = cut s v.sending p in (sym (ap (λ b. cond b n (before s)) p), c.1 ∙ (mine.0 s c.0).1)),
              λ p. none p,
            ),
      )

  pub merging : (port : ℕ) (v : LineView T) (other : ℕ) (u : LineView T)
      → Merges InOrder port v other u (joined v u) idle
  merging port v other u items views h at two at' =
      let both : LineView T = joined v u in
      let mine = h.2 port v at in
      let vs : List (LineView T) = set views port both in
      let was : get_elem? views other ≡ some u =
      ⊎_elim (λ x. absurd (two x.0)) (λ x. x.1) (at_set views port other both u at') in
      let theirs = h.2 other u was in
      let before : ℕ → ℕ = h.0.sender in
      let ports : Ports = record { sender = λ s. cond (sends s u.sending) port (before s); taker = h.0.taker } in
      let Now : ℕ → LineView T → Type 0 = λ j y. j ≢ other → Fits ports h.1 items j y in
      let now : Each Now vs = each_set Now views port both
      (λ _. ((λ s q. (sym (ap (λ b. cond b port (before s)) q), (theirs.0 s q).1)), mine.1))
      (λ j y _ e apart. (
        (λ s p. let it = (h.2 j y e).0 s p in
            (it.0 ∙ sym (stays (sends s u.sending) port (before s) (λ q. apart (it.0 ∙ sym (theirs.0 s q).0))), it.1)),
        (h.2 j y e).1,
      )) in (
        ports,
        h.1,
        each_set (Fits ports h.1 items) vs other idle ((λ s p. none p), λ p. none p)
            (λ j y apart e. now j y e apart),
      )

  -- a taken item is of a seat that was cut off
  pub seat_below : (seats : ℕ) (taken : List (Item T)) (v : LineView T) (x : Item T) → v ≡ taker_view seats taken
      → IsOfAnother v x → seats ≤ x.seat → ⊥
  seat_below seats taken v x e other above = search (rules, arith, le-leb)
