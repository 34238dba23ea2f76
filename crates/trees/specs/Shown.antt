-- The bytes of an object that is kept as a tree, or in memory.
use Rattle.std.specs.Prelude.{◌≡◌, ℕ, ◌<◌, ◌≤◌, List, length, Option, Some, None}
use Rattle.ex_base.specs.declared.geometry.Geometry.{Geometry}
use Rattle.ex_base.specs.declared.names.Root.{Root}
use Rattle.ex_base.specs.Sizes.{object_most}
use Rattle.trees.specs.Trees.{Units, RootSpells}

-- the bytes of an object: what its root spells or, without a root, those that are held, which are fewer than a page
abbrev pub BytesShown : Geometry → Units → List ℕ → List ℕ → Option Root → Type 0
BytesShown g units bytes small None = (bytes ≡ small) × (length bytes < g.page_size)
BytesShown g units bytes small (Some root) = RootSpells g units root bytes × (root.size ≤ object_most)
