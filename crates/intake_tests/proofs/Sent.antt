-- What goes from one thread to another: three values, if each of them may.
use Rattle.std.specs.Prelude.{[], ◌∷◌}
use mir.Syntax.{Sym}
use denote.RattleType.{RattleType}
use denote.Struct.Tuple.{TupleAt, field_at, type_at}
use denote.Struct.Declared.{shape}
use denote.Builtin.{usize}
use denote.Param.Send.{IsSend, sendable, struct_send, recorded_send}
use Rattle.std.proofs.Crossing as crossing

pub three_sent : (ν : Sym) (A B C : RattleType) → IsSend A → IsSend B → IsSend C → IsSend (TupleAt ν (A ∷ B ∷ C ∷ []))
three_sent ν A B C a b c =
    recorded_send (field_at ν (A ∷ B ∷ C ∷ [])).row _ _ (type_at ν (A ∷ B ∷ C ∷ [])).to_one
    (struct_send (shape (type_at ν (A ∷ B ∷ C ∷ []))) (a, (b, (c, tt))))

-- a count may
pub count_sent : IsSend usize
count_sent = search (crossing.crosses, sendable) depth 20
