-- Reads one after another.
use Rattle.std.proofs.Common.{◌≡◌, List, ℕ, [], ◌++◌, refl, sym, ◌∙◌, ap, append_assoc, arith, rules}
use Rattle.std.specs.Prelude.{Option, Some, None}
use Rattle.std.proofs.lemmas.List.{append-nil}
use Rattle.std.specs.Io.KnownBytes.{Consumes, Keeps}
use Rattle.http_wire.specs.States.{SourceState, InputState}
use Rattle.http_wire.specs.Reading.{Gives, Gave}

pub consumes_none : (known : Option (List ℕ)) → Consumes known known []
consumes_none None = tt
consumes_none (Some xs) = refl

pub consumes_kept : (old new : Option (List ℕ)) → Keeps old new → Consumes old new []
consumes_kept None new kept = tt
consumes_kept (Some xs) None kept = absurd kept
consumes_kept (Some xs) (Some ys) kept = sym kept

pub consumes_both : (a b c : Option (List ℕ)) (xs ys : List ℕ) → Consumes a b xs → Consumes b c ys
    → Consumes a c (xs ++ ys)
consumes_both None b c xs ys h k = tt
consumes_both (Some s) None c xs ys h k = absurd h
consumes_both (Some s) (Some t) None xs ys h k = absurd k
consumes_both (Some s) (Some t) (Some u) xs ys h k = h ∙ ap (λ r. xs ++ r) k ∙ sym (append_assoc xs ys u)

pub gives_none : (known : SourceState) → Gives known known []
gives_none known = record { told = sym (append-nil known.given); consumed = consumes_none known.remaining }

pub gives_both : (a b c : SourceState) (xs ys : List ℕ) → Gives a b xs → Gives b c ys → Gives a c (xs ++ ys)
gives_both a b c xs ys h k = search (rules, arith, append_assoc, consumes_both)

pub gave_none : (known : InputState) → Gave known known.source known.held
gave_none known = record { given = []; gives = gives_none known.source; joined = sym (append-nil known.held) }

-- the same text, cut in another way
pub gave_as : {a : InputState} {b : SourceState} {t u : List ℕ} → u ≡ t → Gave a b t → Gave a b u
gave_as e g = record { given = g.given; gives = g.gives; joined = e ∙ g.joined }

pub gave_both : (a b : InputState) (c : SourceState) (text : List ℕ) → Gave a b.source b.held → Gave b c text
    → Gave a c text
gave_both a b c text g h = search (rules, arith, gives_both, append_assoc)

-- a read behind the part that is left, after a prefix of the text was taken
pub gave_after : (a b : InputState) (c : SourceState) (front text : List ℕ) → Gave a b.source (front ++ b.held)
    → Gave b c text
    → Gave a c (front ++ text)
gave_after a b c front text g h = search (rules, arith, gave_both, append_assoc)
