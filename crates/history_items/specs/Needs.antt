-- How many bytes an item needs of which some came.
use Rattle.std.specs.Prelude.{◌≡◌, ℕ, ◌+◌, ◌*◌, ◌≤◌, ◌==◌, ◌&&◌, ◌||◌, nat_le, nat_lt, if◌then◌else◌, Bool, true, List, length, slice_index, Option, Some, None, IfSome}
use Rattle.std.specs.List.{list_all}
use Rattle.disk_model.specs.Outside.{BeginsWith}
use Rattle.ex_base.specs.declared.geometry.Geometry.{Geometry}
use Rattle.ex_base.specs.Bytes.{bytes_at}
use Rattle.ex_base.specs.Fields.{number_at}
use Rattle.ex_base.specs.Sizes.{leaf_bytes}
use Rattle.table_model.specs.Words.{is_name_byte}
use Rattle.trees.specs.Split.{most_pairs}
use Rattle.history_model.specs.Items.{children_most}
use Rattle.history_items.specs.Reads.{are_good_pairs, is_good_root, node_read, root_read}

-- What the bytes that came of an item tell: how many it has at least, or that none begins so.
pub record Needs (A : Type 0) (Is : A → Type 0) (spell : A → List ℕ) (most : ℕ) (bytes : List ℕ) (need : Option ℕ) : Type 0 where
  -- No more came than are needed, so as many may be taken as are missing.
  pub ahead : IfSome need (λ n. length bytes ≤ n)
  -- Each item that begins so has as many.
  pub least : (a : A) → Is a → BeginsWith (spell a) bytes → IfSome need (λ n. n ≤ length (spell a))
  -- As many are an item.
  pub whole : need ≡ Some (length bytes) → (a : A) × Is a × (bytes ≡ spell a)
  pub none : need ≡ None → (a : A) → Is a → BeginsWith (spell a) bytes → ⊥
  pub few : IfSome need (λ n. n ≤ most)

-- ---- what is needed first is a front of fixed length, which says how long the item is

-- an item's front, and what is needed behind it where it is good
abbrev pub need_behind : ℕ → ℕ → Bool → Option ℕ → Option ℕ
need_behind front len good behind = if nat_lt len front then Some front else if good then behind else None

-- the whole item, which has to be good once it is there
abbrev pub need_whole : ℕ → ℕ → Bool → Option ℕ
need_whole whole len good = if nat_lt len whole then Some whole else if (len == whole) && good then Some whole else None

-- ---- the items

abbrev pub need_of_leaf : Geometry → List ℕ → Option ℕ
need_of_leaf g bytes =
    need_behind 4 (length bytes) (nat_le 1 (number_at 4 bytes 0) && nat_le (number_at 4 bytes 0) (leaf_bytes g)) (need_whole (4 + number_at 4 bytes 0) (length bytes) true)

-- behind so many leaves and nodes
abbrev pub need_of_node : Geometry → ℕ → ℕ → List ℕ → Option ℕ
need_of_node g leaves before bytes =
    need_behind 3 (length bytes) (nat_le 1 (slice_index bytes 0) && nat_le 1 (number_at 2 bytes 1) && nat_le (number_at 2 bytes 1) (most_pairs g.fan))
    (need_whole (3 + 12 * number_at 2 bytes 1) (length bytes) (are_good_pairs (children_most leaves before (slice_index bytes 0)) 0 (node_read bytes).pairs))

abbrev pub need_of_file : List ℕ → Option ℕ
need_of_file bytes =
    need_behind 1 (length bytes) (nat_le 1 (slice_index bytes 0) && nat_le (slice_index bytes 0) 32)
    (need_whole (5 + slice_index bytes 0) (length bytes) (list_all is_name_byte (bytes_at bytes 1 (slice_index bytes 0))))

abbrev pub need_of_small : Geometry → List ℕ → Option ℕ
need_of_small g bytes = need_behind 20 (length bytes) (nat_le (number_at 2 bytes 18 + 44) g.page_size) (need_whole (20 + number_at 2 bytes 18) (length bytes) true)

abbrev pub need_of_large : ℕ → ℕ → List ℕ → Option ℕ
need_of_large leaves nodes bytes = need_whole 31 (length bytes) (is_good_root leaves nodes (root_read bytes))

abbrev pub need_of_version : Geometry → ℕ → ℕ → List ℕ → Option ℕ
need_of_version g leaves nodes bytes =
    need_behind 18 (length bytes) (slice_index bytes 8 == 1 || slice_index bytes 8 == 2)
    (if slice_index bytes 17 == 1 then need_of_small g bytes else if slice_index bytes 17 == 2 then need_of_large leaves nodes bytes else None)
