-- What each call asks of a root.
use Rattle.std.specs.Prelude.{◌≡◌, ◌≤◌, None}
use Rattle.ex_base.specs.declared.geometry.Geometry.{Geometry}
use Rattle.ex_base.specs.declared.names.Root.{Root}
use Rattle.ex_base.specs.Sizes.{leaf_bytes, object_most}

-- A root of size 0 has height 0 and no page, one of size above 0 has a page. The numbers are in their limits.
pub record IsRootFor (g : Geometry) (root : Root) : Type 0 where
  pub none : root.page ≡ None → (root.size ≡ 0) × (root.height ≡ 0)
  pub some : root.size ≡ 0 → root.page ≡ None
  pub low : root.height ≤ 64
  pub small : root.size ≤ object_most
  pub leaf : root.height ≡ 0 → root.size ≤ leaf_bytes g
