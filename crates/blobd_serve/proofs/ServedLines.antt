-- The two lines of a server that is done.
use Rattle.std.proofs.Common.{◌≡◌, ◌≤◌, ℕ, zero, suc, List, [], ◌∷◌, ◌++◌, map, arith, inl, inr, subst}
use Rattle.std.proofs.Common.{Option, Some}
use Rattle.std.specs.Prelude.{All, Bool, true, ◌⊎◌, codes}
use Rattle.std.specs.Io.KnownBytes.{Appends}
use Rattle.std.specs.Net.Text.{socket_text}
use Rattle.std.specs.declared.net.socket_addr.SocketAddr.{SocketAddr}
use Rattle.http_wire.proofs.WritingLemmas.{appends_both}
use Rattle.blobd_shared.specs.Connections.{ConnEvent}
use Rattle.blobd_shared.specs.Status.{line}
use Rattle.blobd_serve.specs.Serving.{Ends}

module _ {B : Type 0} (over : (ℕ → Type 0) → B → B → Type 0) (count : ℕ) (addr : SocketAddr) (asked lent back : B)
    (same : asked ≡ lent) (most : over (λ n. n ≤ count) asked back) (before between after : Option (List ℕ))
    (result : ℕ) where
  -- over what was lent
  here : (so_many : ℕ → Type 0) → over so_many asked back → over so_many lent back
  here so_many is = subst (λ l. over so_many l back) same is

  -- the address was printed, and how the workers ended
  pub ended : (took : Bool) → (took ≡ true → over (λ n. n ≡ count) asked back)
      → Appends before between (line (codes "listening " ++ socket_text addr))
      → ((took ≡ true) × (result ≡ 0) × Appends between after (line (codes "served"))) ⊎ (result ≡ 3)
      → Ends over count lent addr (Some back) before after result
  ended took all listening (inr fault) = inr (fault, here (λ n. n ≤ count) most)
  ended took all listening (inl (is, done, last)) =
      inl (
        done,
        here (λ n. n ≡ count) (all is),
        appends_both before between after (line (codes "listening " ++ socket_text addr)) (line (codes "served"))
            listening last,
      )

-- nothing was accepted at these doors
pub all_new : {D : Type 0} (history : D → List ConnEvent) (doors : List D) → All (λ door. history door ≡ []) doors
    → All (λ h. h ≡ []) (map history doors)
all_new history [] new k d below = absurd (omega arith)
all_new history (x ∷ xs) new zero d below = new 0 x (omega arith)
all_new history (x ∷ xs) new (suc k) d below =
    all_new history xs (λ j e b. new (suc j) e (omega arith)) k d (omega arith)
