-- The trees beside a range that a delete opens too, so that no new node or leaf is less than half full.
use Rattle.std.specs.Prelude.{◌≡◌, ◌⊎◌, ℕ, zero, suc, ◌+◌, ◌-◌, ◌/◌, ◌<◌, ◌≤◌, List, [], ◌∷◌, ◌++◌}
use Rattle.std.specs.List.{AllByRecursion, flat_map}
use Rattle.ex_base.specs.declared.geometry.Geometry.{Geometry}
use Rattle.ex_base.specs.Area.{NamesLeaf}
use Rattle.ex_base.specs.Sizes.{leaf_bytes}
use Rattle.trees.specs.Node.{pairs_on}
use Rattle.trees.specs.Trees.{Units}
use Rattle.trees.specs.declared.rows.Part.{Part}
use Rattle.trees.specs.Damage.{IsNodeAt}
use Rattle.trees.specs.Rows.{parts_of, row_size}
use Rattle.tree_delete.specs.declared.cut.Cut.{Cut}
use Rattle.tree_delete.specs.Cuts.{sides, IsCutOf}

-- the children that the pages of a row of nodes show
abbrev pub children_on : Units → List Part → List Part
children_on units row = flat_map (λ part. parts_of 0 (pairs_on (units part.page.0))) row

-- each tree of a row is the node that names it
abbrev pub AreNodesAt : Geometry → Units → ℕ → ℕ → List Part → Type 0
AreNodesAt g units level least row = AllByRecursion (λ part. IsNodeAt g units level part.size least part.page.0) row

-- P holds of the tree beside a run, where there is one: of the last one before it, or else of the first one behind it.
pub data AtNear (P : Part → Type 0) (left right : List Part) : Type 0 where
  nowhere : left ≡ [] → right ≡ [] → AtNear P left right
  before : (front : List Part) (near : Part) → left ≡ front ++ (near ∷ []) → P near → AtNear P left right
  behind : (near : Part) (back : List Part) → left ≡ [] → right ≡ near ∷ back → P near → AtNear P left right

-- P holds of the trees on both sides of a cut through children. Where fewer than the fan of the children stay, and a tree stands beside the run, this
-- tree is the node that names it, and its children are among those that stay.
pub data Widens (g : Geometry) (units : Units) (level : ℕ) (left right : List Part) (below : Cut) (P : List Part → List Part → Type 0) : Type 0 where
  enough : g.fan ≤ sides below → P below.left.items below.right.items → Widens g units level left right below P
  alone : left ≡ [] → right ≡ [] → P below.left.items below.right.items → Widens g units level left right below P
  widens_before : (front : List Part) (near : Part) → left ≡ front ++ (near ∷ []) → IsNodeAt g units level near.size g.fan near.page.0
      → P (children_on units (near ∷ []) ++ below.left.items) below.right.items → Widens g units level left right below P
  widens_behind : (near : Part) (back : List Part) → left ≡ [] → right ≡ near ∷ back → IsNodeAt g units level near.size g.fan near.page.0
      → P below.left.items (below.right.items ++ children_on units (near ∷ [])) → Widens g units level left right below P

-- Each tree that a delete opens is what names it, from a row of trees of this level down, of which the range takes a part of the run alone: the nodes of
-- the run, the node beside them where too few of their children stay, and the leaf beside the last run where too little of that is left. Below them the
-- same holds of their children.
abbrev pub IsSoundBeside : Geometry → Units → ℕ → ℕ → List Part → List Part → List Part → ℕ → ℕ → Type 0
IsSoundBeside g units zero least left run right at len = 1 ≤ row_size run - len → row_size run - len < leaf_bytes g / 2 → AtNear (λ part. NamesLeaf g part.page.0) left right
IsSoundBeside g units (suc l) least left run right at len = (run ≡ []) ⊎ (AreNodesAt g units (suc l) least run
    × ((below : Cut) × IsCutOf (children_on units run) at len below
    × Widens g units (suc l) left right below (λ lefts rights. IsSoundBeside g units l g.fan lefts below.run.items rights below.at below.len)))

-- each tree that is opened for a cut is what names it
abbrev pub OpensSound : Geometry → Units → ℕ → ℕ → Cut → Type 0
OpensSound g units level least cut = IsSoundBeside g units level least cut.left.items cut.run.items cut.right.items cut.at cut.len

-- The cut with the leaf beside its run, where there is one, among those that are written anew.
pub data TakesNear (cut wider : Cut) : Type 0 where
  takes_none : cut.left.items ≡ [] → cut.right.items ≡ [] → TakesNear cut wider
  takes_before : (front : List Part) (near : Part) → cut.left.items ≡ front ++ (near ∷ []) → wider.run.items ≡ near ∷ cut.run.items → wider.at ≡ cut.at + near.size → TakesNear cut wider
  takes_behind : (near : Part) (back : List Part) → cut.left.items ≡ [] → cut.right.items ≡ near ∷ back → wider.run.items ≡ cut.run.items ++ (near ∷ []) → wider.at ≡ cut.at → wider.len ≡ cut.len → TakesNear cut wider
