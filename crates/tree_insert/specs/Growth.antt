-- What an insert or an append makes of a row of leaves or of trees.
use Rattle.std.specs.Prelude.{◌≡◌, ℕ, zero, suc, ◌≤◌, List, Option, None}
use Rattle.trees.specs.Layout.{Layout, insert_layout, append_layout, insert_leaves, append_leaves}
use Rattle.trees.specs.Shape.{Subtree, total, change_at, change_last, insert_parts, append_parts}
use Rattle.tree_insert.specs.declared.layout.Growth.{Growth}
use Rattle.tree_insert.specs.declared.layout.Growth.TheVariants.{Insert, Append}

-- the layout in the place of a leaf
abbrev pub layout_by : Growth → ℕ → Option ℕ → ℕ → Option ℕ → ℕ → Layout
layout_by Insert full left leaf right n = insert_layout full left leaf right n
layout_by Append full left leaf right n = append_layout full left leaf n

-- an insert goes to any position, an append to the end
abbrev pub IsSpot : Growth → ℕ → ℕ → Type 0
IsSpot Insert pos size = pos ≤ size
IsSpot Append pos size = pos ≡ size

-- the trees in the place of one
abbrev pub parts_by : Growth → ℕ → ℕ → ℕ → (h : ℕ) → Subtree h → ℕ → List (Subtree h)
parts_by Insert fan full n h tree pos = insert_parts fan full n h tree pos
parts_by Append fan full n h tree pos = append_parts fan full n h tree

-- a row of trees under one parent
abbrev pub row_by : Growth → ℕ → ℕ → ℕ → (h : ℕ) → List (Subtree h) → ℕ → List (Subtree h)
row_by Insert fan full n zero leaves pos = insert_leaves full n None leaves pos
row_by Append fan full n zero leaves pos = append_leaves full n None leaves
row_by Insert fan full n (suc h) trees pos = change_at (total (suc h)) (insert_parts fan full n (suc h)) trees pos
row_by Append fan full n (suc h) trees pos = change_last (append_parts fan full n (suc h)) trees
