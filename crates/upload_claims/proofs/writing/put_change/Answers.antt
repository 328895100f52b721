use Rattle.std.proofs.Common.{◌≡◌, ◌∙◌, sym, ap, ℕ, List, [], ◌∷◌, ◌++◌, append_assoc}
use Rattle.upload_claims.specs.Texts.{change_text}
use Rattle.upload_claims.proofs.writing.put_change.Goals as goal

-- four fields, one after another
four : (out a b c d : List ℕ) (mark : ℕ) (at now further : List ℕ) → a ≡ out ++ mark ∷ [] → b ≡ a ++ at
    → c ≡ b ++ now → d ≡ c ++ further → d ≡ out ++ mark ∷ (at ++ (now ++ further))
four out a b c d mark at now further e f g h =
    h ∙ ap (λ xs. xs ++ further) g ∙ append_assoc b now further ∙ ap (λ xs. xs ++ (now ++ further)) f
    ∙ append_assoc a at (now ++ further) ∙ ap (λ xs. xs ++ (at ++ (now ++ further))) e
    ∙ append_assoc out (mark ∷ []) (at ++ (now ++ further))

pub returns-in_ok-put_further-in-Took : goal.returns-in_ok-put_further-in-Took
returns-in_ok-put_further-in-Took c =
    four _ _ _ _ _ 5 _ _ _ c.in_ok-push-in-Took.ensures.items c.in_ok-put_reference-in-Took.ensures
    c.in_ok-put_number-in-Took.ensures c.in_ok-put_further-in-Took.ensures
    ∙ ap (λ change. c.args.out.now.items ++ change_text change) (sym c.in-Took.is)
