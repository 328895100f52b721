-- What a machine keeps over its records.

-- what the old one kept, the new one keeps
abbrev pub KeepsMore : {M : Type 0} → (M → M → Type 0) → M → M → Type 0
KeepsMore {M} keeps old new = (first : M) → keeps first old → keeps first new
