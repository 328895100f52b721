-- What a `FuseShelf` shows.
use Rattle.std.specs.Prelude.{ℕ}
use Rattle.bodies.specs.declared.fuse.FuseShelf.{FuseShelf}

module _ {S F : Type 0} where
  -- the shelf that it passes calls on to
  abbrev pub inner_of : FuseShelf S F → S
  inner_of f = f.inner

  abbrev pub calls_left : FuseShelf S F → ℕ
  calls_left f = f.calls_left
