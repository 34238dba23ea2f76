-- What the kind of the next item says of a front.
use Rattle.std.proofs.Common.{◌≡◌, ℕ, ◌<◌, ◌≤◌, Bool, true, false, nat_lt, List, refl, subst, arith}
use Rattle.std.specs.Prelude.{if◌then◌else◌}
use Rattle.std.proofs.lemmas.Bool.{ltb-false, ltb-true}
use Rattle.ex_base.specs.declared.geometry.Geometry.{Geometry}
use Rattle.trees.specs.Node.{Node}
use Rattle.history_model.specs.History.{HistoryVersion}
use Rattle.history_model.specs.Items.{IsLeafItem, IsNodeItem, IsVersionItem}
use Rattle.history_model.specs.Stream.{StreamHead}
use Rattle.history_items.specs.ItemLaws.{FileFront, IsFileFront}
use Rattle.history_fronts.specs.declared.turns.Turn.{Turn}
use Rattle.history_fronts.specs.declared.turns.Turn.TheVariants.{Leaf as LeafTurn, Node as NodeTurn, Version as VersionTurn, File as FileTurn, End as NoTurn}
use Rattle.history_fronts.specs.Fronts.{AFile, ALeaf, ANode, AVersion, FitsTurn, turn_by}

abbrev pub Says : StreamHead → ℕ → ℕ → ℕ → ℕ → Turn → Type 0
Says head l n f m LeafTurn = l < head.leaves
Says head l n f m NodeTurn = (head.leaves ≤ l) × (n < head.nodes)
Says head l n f m VersionTurn = (head.leaves ≤ l) × (head.nodes ≤ n) × (0 < m)
Says head l n f m FileTurn = (head.leaves ≤ l) × (head.nodes ≤ n) × (m ≡ 0) × (f < head.files)
Says head l n f m NoTurn = (head.leaves ≤ l) × (head.nodes ≤ n) × (m ≡ 0) × (head.files ≤ f)

says : (head : StreamHead) (l n f m : ℕ) → Says head l n f m (turn_by head l n f m)
says head l n f m = by_tests (nat_lt l head.leaves) (nat_lt n head.nodes) (nat_lt 0 m) (nat_lt f head.files) refl refl refl refl
  where
    by_tests : (a b c d : Bool) → nat_lt l head.leaves ≡ a → nat_lt n head.nodes ≡ b → nat_lt 0 m ≡ c → nat_lt f head.files ≡ d → Says head l n f m (if a then LeafTurn else if b then NodeTurn else if c then VersionTurn else if d then FileTurn else NoTurn)
    by_tests true b c d p q r s = ltb-true l head.leaves p
    by_tests false true c d p q r s = (ltb-false l head.leaves p, ltb-true n head.nodes q)
    by_tests false false true d p q r s = (ltb-false l head.leaves p, ltb-false n head.nodes q, ltb-true 0 m r)
    by_tests false false false true p q r s = (ltb-false l head.leaves p, ltb-false n head.nodes q, (let le = ltb-false 0 m r in omega arith), ltb-true f head.files s)
    by_tests false false false false p q r s = (ltb-false l head.leaves p, ltb-false n head.nodes q, (let le = ltb-false 0 m r in omega arith), ltb-false f head.files s)

pub says_of : (head : StreamHead) (l n f m : ℕ) (turn : Turn) → turn_by head l n f m ≡ turn → Says head l n f m turn
says_of head l n f m turn e = subst (Says head l n f m) e (says head l n f m)

-- ---- the kind of an item that fits

pub leaf_fits : (g : Geometry) (leaves nodes : ℕ) (turn : Turn) (a : List ℕ) → FitsTurn g leaves nodes turn (ALeaf a) → (turn ≡ LeafTurn) × IsLeafItem g a
leaf_fits g leaves nodes LeafTurn a is = (refl, is)
leaf_fits g leaves nodes NodeTurn a is = absurd is
leaf_fits g leaves nodes VersionTurn a is = absurd is
leaf_fits g leaves nodes FileTurn a is = absurd is
leaf_fits g leaves nodes NoTurn a is = absurd is

pub node_fits : (g : Geometry) (leaves nodes : ℕ) (turn : Turn) (a : Node) → FitsTurn g leaves nodes turn (ANode a) → (turn ≡ NodeTurn) × IsNodeItem g leaves nodes a
node_fits g leaves nodes LeafTurn a is = absurd is
node_fits g leaves nodes NodeTurn a is = (refl, is)
node_fits g leaves nodes VersionTurn a is = absurd is
node_fits g leaves nodes FileTurn a is = absurd is
node_fits g leaves nodes NoTurn a is = absurd is

pub version_fits : (g : Geometry) (leaves nodes : ℕ) (turn : Turn) (a : HistoryVersion) → FitsTurn g leaves nodes turn (AVersion a) → (turn ≡ VersionTurn) × IsVersionItem g leaves nodes a
version_fits g leaves nodes LeafTurn a is = absurd is
version_fits g leaves nodes NodeTurn a is = absurd is
version_fits g leaves nodes VersionTurn a is = (refl, is)
version_fits g leaves nodes FileTurn a is = absurd is
version_fits g leaves nodes NoTurn a is = absurd is

pub file_fits : (g : Geometry) (leaves nodes : ℕ) (turn : Turn) (a : FileFront) → FitsTurn g leaves nodes turn (AFile a) → (turn ≡ FileTurn) × IsFileFront a
file_fits g leaves nodes LeafTurn a is = absurd is
file_fits g leaves nodes NodeTurn a is = absurd is
file_fits g leaves nodes VersionTurn a is = absurd is
file_fits g leaves nodes FileTurn a is = (refl, is)
file_fits g leaves nodes NoTurn a is = absurd is
