use Rattle.std.proofs.Common.{◌++◌, length, sym, ◌∙◌, ap, subst}
use Rattle.std.proofs.lemmas.List.{length-append}
use Rattle.upload_bytes.specs.Room.{Covers}
use Rattle.upload_bytes.proofs.granted.Granted.join.Goals as goal

pub invariant_of-self-2 : goal.invariant_of-self-2
invariant_of-self-2 c =
    subst (Covers c.join.new.self)
    (sym (length-append c.self.inside.bytes.items c.others.inside.bytes.items)
    ∙ sym (ap (λ l. length (c.self.inside.bytes.items ++ l)) c.as_slice.ensures.value)
    ∙ sym (ap length c.in_ok-extend_from_slice.ensures.items))
    (c.join.ensures (length c.self.inside.bytes.items) (length c.others.inside.bytes.items) c.self.invariant
    c.others.invariant)
