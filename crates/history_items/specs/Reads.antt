-- What the bytes of an item say, and whether an item may say so.
use Rattle.std.specs.Prelude.{ℕ, zero, suc, ◌+◌, ◌==◌, ◌&&◌, nat_le, nat_lt, if◌then◌else◌, Bool, true, List, [], ◌∷◌, ◌++◌, length, drop, slice_index, Option, Some, None}
use Rattle.ex_base.specs.declared.names.PageNo.{PageNo}
use Rattle.ex_base.specs.declared.names.Root.{Root}
use Rattle.ex_base.specs.Bytes.{bytes_at}
use Rattle.ex_base.specs.Fields.{four_bytes, number_at, page_in}
use Rattle.object_records.specs.Record.{Content, Small, Large}
use Rattle.object_records.specs.Reads.{content_of}
use Rattle.trees.specs.declared.Pair.{Pair}
use Rattle.trees.specs.declared.width.Width.TheVariants.{Wide}
use Rattle.trees.specs.Node.{Node, read_pairs}
use Rattle.history_model.specs.History.{HistoryVersion}
use Rattle.history_model.specs.Items.{roots_most}
use Rattle.history_items.specs.declared.versions.VersionItem.{VersionItem}

-- ---- nodes

abbrev pub node_read : List ℕ → Node
node_read bytes = record { level = slice_index bytes 0; pairs = read_pairs Wide (number_at 2 bytes 1) (drop 3 bytes) }

-- the counts rise from above a number, and each child's number is from 1 up to the most
abbrev pub are_good_pairs : ℕ → ℕ → List Pair → Bool
are_good_pairs most last [] = true
are_good_pairs most last (pair ∷ pairs) = nat_lt last pair.count && nat_le 1 pair.page.0 && nat_le pair.page.0 most && are_good_pairs most pair.count pairs

-- ---- the heads of files

-- a name, and how many versions follow
abbrev pub file_front : List ℕ → ℕ → List ℕ
file_front name versions = (length name ∷ []) ++ (name ++ four_bytes versions)

-- ---- versions

-- what a number stands for, 0 for none
abbrev pub number_read : ℕ → Option ℕ
number_read zero = None
number_read (suc n) = Some (suc n)

abbrev pub root_read : List ℕ → Root
root_read bytes = record { height = slice_index bytes 26; page = page_in bytes 27; size = number_at 8 bytes 18 }

abbrev pub content_read : List ℕ → Content
content_read bytes = if slice_index bytes 17 == 1 then Small (bytes_at bytes 20 (number_at 2 bytes 18)) else Large (root_read bytes)

abbrev pub version_read : List ℕ → HistoryVersion
version_read bytes = record {
  unique = number_at 8 bytes 0;
  frozen = slice_index bytes 8 == 2;
  older = number_read (number_at 8 bytes 9);
  content = content_read bytes;
}

-- how long the item is, by its form
abbrev pub version_len : List ℕ → ℕ
version_len bytes = if slice_index bytes 17 == 1 then 20 + number_at 2 bytes 18 else 31

-- an empty version has no root and no height, and another one a root that is there
abbrev pub root_is_good : ℕ → ℕ → ℕ → ℕ → Option PageNo → Bool
root_is_good leaves nodes height size None = (size == 0) && (height == 0)
root_is_good leaves nodes height size (Some number) = nat_lt 0 size && nat_le number.0 (roots_most leaves nodes height)

abbrev pub is_good_root : ℕ → ℕ → Root → Bool
is_good_root leaves nodes root = root_is_good leaves nodes root.height root.size root.page

-- the version that the code's item is
abbrev pub version_of : VersionItem → HistoryVersion
version_of v = record { unique = v.unique; frozen = v.frozen; older = v.older; content = content_of v.content }
