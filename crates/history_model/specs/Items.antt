-- What each item of a stream is by itself, given those before it.
use Rattle.std.specs.Prelude.{ℕ, zero, suc, ◌+◌, ◌<◌, ◌≤◌, ◌^◌, IsTrue, List, [], ◌∷◌, length, map, Option, Some, None, IfSome}
use Rattle.std.specs.List.{AllByRecursion}
use Rattle.ex_base.specs.declared.geometry.Geometry.{Geometry}
use Rattle.ex_base.specs.declared.names.PageNo.{PageNo}
use Rattle.ex_base.specs.Sizes.{files_most, leaf_bytes}
use Rattle.ex_base.specs.Order.{Rising, RisingTexts}
use Rattle.object_records.specs.Record.{Content, Small, Large, IsRootField}
use Rattle.table_model.specs.Words.{is_name}
use Rattle.trees.specs.declared.Pair.{Pair}
use Rattle.trees.specs.declared.width.Width.TheVariants.{Wide}
use Rattle.trees.specs.Node.{Node, IsNode, HasPairFields}
use Rattle.history_model.specs.History.{History, HistoryFile, HistoryVersion, number_in}
use Rattle.history_model.specs.Stream.{FitsHead, head_of}

abbrev pub IsLeafItem : Geometry → List ℕ → Type 0
IsLeafItem g leaf = (1 ≤ length leaf) × (length leaf ≤ leaf_bytes g)

-- the numbers that a child of a node of this level may have, which stands behind so many nodes
abbrev pub children_most : ℕ → ℕ → ℕ → ℕ
children_most leaves before zero = 0
children_most leaves before (suc zero) = leaves
children_most leaves before (suc (suc l)) = before

abbrev pub IsChild : ℕ → Pair → Type 0
IsChild most pair = (1 ≤ pair.page.0) × (pair.page.0 ≤ most)

-- A node of any level: its counts rise, and its children are leaves, or earlier nodes.
pub record IsNodeItem (g : Geometry) (leaves before : ℕ) (node : Node) : Type 0 where
  pub is : IsNode g.fan node.level node.pairs
  pub fields : AllByRecursion (HasPairFields Wide) node.pairs
  pub children : AllByRecursion (IsChild (children_most leaves before node.level)) node.pairs

abbrev pub AreNodeItems : Geometry → ℕ → ℕ → List Node → Type 0
AreNodeItems g leaves before [] = Unit {0}
AreNodeItems g leaves before (node ∷ nodes) = IsNodeItem g leaves before node × AreNodeItems g leaves (suc before) nodes

-- the numbers that a root of this height may have
abbrev pub roots_most : ℕ → ℕ → ℕ → ℕ
roots_most leaves nodes zero = leaves
roots_most leaves nodes (suc l) = nodes

abbrev pub IsRootNumber : ℕ → Option PageNo → Type 0
IsRootNumber most None = Unit {0}
IsRootNumber most (Some number) = (1 ≤ number.0) × (number.0 ≤ most)

-- a small version's record fits a page
abbrev pub IsContentItem : Geometry → ℕ → ℕ → Content → Type 0
IsContentItem g leaves nodes (Small bytes) = length bytes + 44 ≤ g.page_size
IsContentItem g leaves nodes (Large root) = IsRootField root × IsRootNumber (roots_most leaves nodes root.height) root.page

pub record IsVersionItem (g : Geometry) (leaves nodes : ℕ) (v : HistoryVersion) : Type 0 where
  pub unique : v.unique < 2 ^ 64
  pub older : IfSome v.older (λ number. (1 ≤ number) × (number < 2 ^ 64))
  pub content : IsContentItem g leaves nodes v.content

pub record IsFileItem (g : Geometry) (leaves nodes : ℕ) (f : HistoryFile) : Type 0 where
  pub name : IsTrue (is_name f.name)
  pub few : length f.versions < 2 ^ 32
  pub versions : AllByRecursion (IsVersionItem g leaves nodes) f.versions
  pub rising : Rising (map number_in f.versions)

-- Each item is one, and stands in its place.
pub record AreItems (g : Geometry) (h : History) : Type 0 where
  pub head : FitsHead (head_of g h)
  pub leaves : AllByRecursion (IsLeafItem g) h.leaves
  pub nodes : AreNodeItems g (length h.leaves) 0 h.nodes
  pub files : AllByRecursion (IsFileItem g (length h.leaves) (length h.nodes)) h.files
  pub few : length h.files ≤ files_most g
  pub names : RisingTexts (map (λ (f : HistoryFile). f.name) h.files)
