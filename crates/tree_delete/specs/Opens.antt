-- Cuts one level lower, with the nodes on both sides that stay as they are.
use Rattle.std.specs.Prelude.{◌≡◌, ℕ, suc, ◌+◌, ◌-◌, ◌*◌, ◌≤◌, List, ◌++◌, length}
use Rattle.ex_base.specs.declared.geometry.Geometry.{Geometry}
use Rattle.ex_base.specs.declared.ground.Ground as ground
use Rattle.trees.specs.Split.{most_pairs}
use Rattle.trees.specs.declared.rows.Part.{Part}
use Rattle.trees.specs.Rows.{row_bytes, row_shape, row_size, row_units}
use Rattle.trees.specs.Made.{Has, Holds}
use Rattle.trees.specs.Built.{AreSome}
use Rattle.tree_delete.specs.declared.cut.Cut.{Cut}
use Rattle.tree_delete.specs.declared.nodes.Opened.{Opened}
use Rattle.tree_delete.specs.Cuts.{all_of, sides, cut_bytes, IsCutAt, AreHalves}

-- the numbers of a cut through the children of nodes
pub record OpensTo (g : Geometry) (level : ℕ) (cut : Cut) (opened : Opened) : Type 0 where
  pub cut_at : IsCutAt g (level - 1) opened.below
  pub left : AreSome opened.left.items
  pub right : AreSome opened.right.items
  pub sum : row_size opened.left.items + (row_size (all_of opened.below) + row_size opened.right.items) + cut.len ≡ row_size (all_of cut) + opened.below.len
  pub one_less : sides cut ≤ length opened.left.items + length opened.right.items + 1
  pub no_more : length opened.left.items + length opened.right.items ≤ sides cut
  pub few : length (all_of opened.below) ≤ 3 * most_pairs g.fan
  pub enough : g.fan ≤ sides opened.below

-- A cut through the children of some nodes of a row, and the nodes before and behind these.
pub record IsOpenedCut {S : Type 0} (g : ground.Ghosts S) (s : S) (l : ℕ) (cut : Cut) (opened : Opened) : Type 0 where
  pub mid : List Part
  pub whole : all_of cut ≡ opened.left.items ++ (mid ++ opened.right.items)
  pub holds : Holds g s l (all_of opened.below)
  pub units : (p : ℕ) → Has (row_units (g.unit s) l (all_of opened.below)) p → Has (row_units (g.unit s) (suc l) mid) p
  pub bytes : row_bytes (g.unit s) (suc l) opened.left.items ++ (cut_bytes (g.unit s) l opened.below ++ row_bytes (g.unit s) (suc l) opened.right.items) ≡ cut_bytes (g.unit s) (suc l) cut
  pub halves : AreHalves (g.geometry s) (suc l) (row_shape (g.unit s) (suc l) (all_of cut)) → AreHalves (g.geometry s) l (row_shape (g.unit s) l (all_of opened.below))
