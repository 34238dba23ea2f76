-- What holds of the trees of a volume: which are well formed, which are balanced, and which units they have.
use Rattle.std.specs.Prelude.{◌≡◌, ◌⊎◌, ◌↔◌, ◌<◌, ◌≤◌, ℕ, Bool, true, false, List, length, map, slice_index_or, Contains}
use Rattle.std.specs.List.{flat_map, AllByRecursion}
use Rattle.ex_base.specs.declared.geometry.Geometry.{Geometry}
use Rattle.ex_base.specs.declared.names.Root.{Root}
use Rattle.ex_base.specs.Area.{InPageArea}
use Rattle.trees.specs.Trees.{Units, RootNamed, root_units}
use Rattle.session_views.specs.declared.part.Part.{Part}
use Rattle.session_views.specs.declared.part.Part.TheVariants.{Node, Balance}
use Rattle.volume_model.specs.Links.{Apart}
use Rattle.volume_model.specs.Parts.{HasBalance}
use Rattle.node_walk.specs.declared.ObjectRoot.{ObjectRoot}

-- each page of the page area is as it is read
abbrev pub ShowsPages : Geometry → (ℕ → List ℕ) → Units → Type 0
ShowsPages g pages units = (p : ℕ) → InPageArea g p → units p ≡ pages p

-- no unit of the list is in use
abbrev pub AreFree : (ℕ → Bool) → List ℕ → Type 0
AreFree used pages = AllByRecursion (λ p. used p ≡ false) pages

abbrev pub tree_in : ObjectRoot → Root
tree_in r = r.root

-- the roots of the trees of objects
abbrev pub trees_in : List ObjectRoot → List Root
trees_in roots = map tree_in roots

-- Each tree is well formed, none of its units is in use, and no unit is one of the trees of two objects.
pub record AreNamed (g : Geometry) (units : Units) (used : ℕ → Bool) (roots : List ObjectRoot) : Type 0 where
  pub named : AllByRecursion (λ (r : ObjectRoot). RootNamed g units r.root.height r.root.page) roots
  pub free : AllByRecursion (λ (r : ObjectRoot). AreFree used (root_units units r.root)) roots
  pub apart : (r s : ObjectRoot) → Contains roots r → Contains roots s → (r.object ≡ s.object → ⊥) → Apart (root_units units r.root) (root_units units s.root)

-- the roots of each object stand beside each other, in order of the objects
abbrev pub AreGrouped : List ObjectRoot → Type 0
AreGrouped roots = (i j : ℕ) (d : ObjectRoot) → i ≤ j → j < length roots → (slice_index_or roots i d).object ≤ (slice_index_or roots j d).object

-- The counts of each tree agree, and its leaves and nodes are as full as they must be.
abbrev pub AreBalanced : Geometry → Units → List Root → Type 0
AreBalanced g units roots = AllByRecursion (HasBalance g units) roots

-- A unit is in use exactly where it was, or is a unit of one of the trees.
abbrev pub UsesTrees : Units → List Root → (ℕ → Bool) → (ℕ → Bool) → Type 0
UsesTrees units roots before after = (p : ℕ) → (after p ≡ true) ↔ ((before p ≡ true) ⊎ Contains (flat_map (root_units units) roots) p)

-- The part is the first that the trees fail: the nodes, or the balance where all nodes pass.
abbrev pub FailsFirst : Geometry → Units → (ℕ → Bool) → List ObjectRoot → Part → Type 0
FailsFirst g units used roots part =
    ((part ≡ Node) × (AreNamed g units used roots → ⊥)) ⊎ ((part ≡ Balance) × AreNamed g units used roots × (AreBalanced g units (trees_in roots) → ⊥))
