-- What a shelf shows that reads ahead.
use Rattle.bodies.specs.declared.ahead.AheadShelf.{AheadShelf}

module _ {R S F : Type 0} where
  -- the shelf that it reads
  abbrev pub inner_of : AheadShelf R S F → S
  inner_of shelf = shelf.inner
