-- A power cut, one number after the other.
use Rattle.std.proofs.Common.{inl, inr, ℕ, List, Option, sym, subst}
use Rattle.std.proofs.lemmas.Bool.Decides.{eqb_tells}
use Rattle.bodies.specs.declared.memory.MemoryShelf.{MemoryShelf}
use Rattle.bodies.specs.MemoryShelf.{held_of, left_of, IsCut, IsCutAt}

module _ (old mid new : MemoryShelf) (number : ℕ) (first : IsCut old mid) (then' : IsCutAt mid new number) where
  fewer_here : (n : ℕ) (file : Option (List ℕ)) → left_of new n file → left_of mid n file
  fewer_here n file h =
      elim (eqb_tells n number) [
        | inl same ↦ subst (λ k. left_of mid k file) (sym same.1)
            (then'.fewer file (subst (λ k. left_of new k file) same.1 h))
        | inr other ↦ (then'.others.each n other.1).left file h
      ]

  left_here : (n : ℕ) → left_of old n (held_of new n)
  left_here n =
      elim (eqb_tells n number) [
        | inl same ↦ subst (λ k. left_of old k (held_of new k)) (sym same.1)
            (first.fewer number (held_of new number) then'.left)
        | inr other ↦ subst (left_of old n) (sym (then'.others.each n other.1).same) (first.left n)
      ]

  pub cut_more : IsCut old new
  cut_more = record { left = left_here; fewer = λ n file h. first.fewer n file (fewer_here n file h) }
