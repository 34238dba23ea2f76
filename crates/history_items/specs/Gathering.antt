-- What came of an item, and the room for it.
use Rattle.std.specs.Prelude.{ℕ, ◌+◌, List}
use Rattle.ex_base.specs.declared.geometry.Geometry.{Geometry}
use Rattle.ex_base.specs.Sizes.{leaf_bytes}

pub record Gathering : Type 0 where
  pub held : List ℕ
  -- how many bytes it has room for
  pub room : ℕ

-- the bytes of the longest item: a leaf's, behind its length
abbrev pub item_most : Geometry → ℕ
item_most g = 4 + leaf_bytes g
