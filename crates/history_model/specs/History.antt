-- The whole history of a volume, as a stream tells it: the leaves and nodes of its trees, each once, and the versions of its files.
use Rattle.std.specs.Prelude.{ℕ, zero, suc, Bool, List, [], Option, Some, None, slice_get}
use Rattle.std.specs.List.{flat_map}
use Rattle.object_records.specs.Record.{Content}
use Rattle.trees.specs.Node.{Node}
use Rattle.trees.specs.declared.Pair.{Pair}

-- A version of a file. The root of a large one, and each child of a node, is told by its number in place of its page: leaves and nodes are numbered
-- from 1, each in its own order.
pub record HistoryVersion : Type 0 where
  pub unique : ℕ
  pub frozen : Bool
  -- the number of the version that it is derived from
  pub older : Option ℕ
  pub content : Content

pub record HistoryFile : Type 0 where
  pub name : List ℕ
  pub versions : List HistoryVersion

pub record History : Type 0 where
  pub next_unique : ℕ
  pub last : ℕ
  -- how many pages of files and of their indexes a volume is to have room for
  pub pages : ℕ
  pub leaves : List (List ℕ)
  pub nodes : List Node
  pub files : List HistoryFile

abbrev pub number_in : HistoryVersion → ℕ
number_in v = v.unique

abbrev pub all_versions : History → List HistoryVersion
all_versions h = flat_map (λ (f : HistoryFile). f.versions) h.files

-- the item with a number, counted from 1
abbrev pub numbered : {A : Type 0} → List A → ℕ → Option A
numbered xs zero = None
numbered xs (suc i) = slice_get xs i

abbrev pub leaf_if : Option (List ℕ) → List ℕ
leaf_if None = []
leaf_if (Some leaf) = leaf

abbrev pub pairs_if : Option Node → List Pair
pairs_if None = []
pairs_if (Some node) = node.pairs

abbrev pub leaf_of : History → ℕ → List ℕ
leaf_of h number = leaf_if (numbered h.leaves number)

abbrev pub pairs_of : History → ℕ → List Pair
pairs_of h number = pairs_if (numbered h.nodes number)
