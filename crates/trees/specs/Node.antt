-- What stands on the page of an inner node.
use Rattle.std.specs.Prelude.{◌≡◌, ℕ, zero, suc, ◌+◌, ◌<◌, ◌≤◌, ◌^◌, ◌==◌, if◌then◌else◌, List, [], ◌∷◌, ◌++◌, length, map, drop, slice_index}
use Rattle.std.specs.List.{flat_map, AllByRecursion}
use Rattle.ex_base.specs.Fields.{field_bytes, two_bytes, four_bytes, zeros, padded, number_at}
use Rattle.trees.specs.declared.Pair.{Pair}
use Rattle.trees.specs.declared.width.Width.{Width}
use Rattle.trees.specs.declared.width.Width.TheVariants.{Narrow, Wide}
use Rattle.trees.specs.Split.{most_pairs}

-- the first byte of a node's page
abbrev pub kind_of : Width → ℕ
kind_of Narrow = 2
kind_of Wide = 5

-- the bytes of a count
abbrev pub count_len : Width → ℕ
count_len Narrow = 4
count_len Wide = 8

-- the bytes of a pair: a count and a page number
abbrev pub pair_len : Width → ℕ
pair_len width = count_len width + 4

abbrev pub pair_bytes : Width → Pair → List ℕ
pair_bytes width pair = field_bytes (count_len width) pair.count ++ four_bytes pair.page.0

-- the kind, the level, the number of pairs, and four bytes of zero
abbrev pub head_of : Width → ℕ → ℕ → List ℕ
head_of width level count = (kind_of width ∷ level ∷ []) ++ two_bytes count ++ zeros 4

-- the head, and the pairs
unfoldable pub node_of : Width → ℕ → ℕ → List Pair → List ℕ
node_of width size level pairs = padded size (head_of width level (length pairs) ++ flat_map (pair_bytes width) pairs)

-- nodes are written wide
abbrev pub node_page : ℕ → ℕ → List Pair → List ℕ
node_page size level pairs = node_of Wide size level pairs

-- the last count, which is the bytes of the whole node
abbrev pub total_of : List Pair → ℕ
total_of [] = 0
total_of (pair ∷ []) = pair.count
total_of (pair ∷ next ∷ pairs) = total_of (next ∷ pairs)

-- counts rise strictly from above a number
abbrev pub RiseFrom : ℕ → List Pair → Type 0
RiseFrom before [] = Unit {0}
RiseFrom before (pair ∷ pairs) = (before < pair.count) × RiseFrom pair.count pairs

-- the count and the page fit their fields
abbrev pub HasPairFields : Width → Pair → Type 0
HasPairFields width pair = (pair.count < 256 ^ count_len width) × (pair.page.0 < 2 ^ 32)

-- what a node says: a level, and at least one pair and no more than the fan allows, with counts that rise
pub record IsNode (fan level : ℕ) (pairs : List Pair) : Type 0 where
  pub inner : 1 ≤ level
  pub byte : level < 256
  pub some : 1 ≤ length pairs
  pub few : length pairs ≤ most_pairs fan
  pub rising : RiseFrom 0 pairs

-- the page is a node of this level with these pairs, of either width
pub record PairsOf (fan : ℕ) (page : List ℕ) (level : ℕ) (pairs : List Pair) : Type 0 where
  pub fits : IsNode fan level pairs
  pub width : Width
  pub fields : AllByRecursion (HasPairFields width) pairs
  pub spelled : page ≡ node_of width (length page) level pairs

-- the width in which a page is read: wide exactly where its first byte says so
abbrev pub width_on : List ℕ → Width
width_on page = if slice_index page 0 == kind_of Wide then Wide else Narrow

-- the pairs as they are read, whatever stands on the page
abbrev pub pair_at : Width → List ℕ → Pair
pair_at width bytes = record { count = number_at (count_len width) bytes 0; page = record { 0 = number_at 4 bytes (count_len width) } }

abbrev pub read_pairs : Width → ℕ → List ℕ → List Pair
read_pairs width zero bytes = []
read_pairs width (suc n) bytes = pair_at width bytes ∷ read_pairs width n (drop (pair_len width) bytes)

unfoldable pub level_on : List ℕ → ℕ
level_on page = slice_index page 1

unfoldable pub pairs_on : List ℕ → List Pair
pairs_on page = read_pairs (width_on page) (number_at 2 page 2) (drop 8 page)

-- ---- what callers see of a node

pub record Node : Type 0 where
  pub level : ℕ
  pub pairs : List Pair

abbrev pub node_on : List ℕ → Node
node_on page = record { level = level_on page; pairs = pairs_on page }

abbrev pub count_of : Pair → ℕ
count_of pair = pair.count

abbrev pub counts_of : List Pair → List ℕ
counts_of pairs = map count_of pairs

-- the first of the counts that has P
pub record IsFirst (P : ℕ → Type 0) (counts : List ℕ) (index : ℕ) : Type 0 where
  pub inside : index < length counts
  pub here : P (slice_index counts index)
  pub none_before : (k : ℕ) → k < index → P (slice_index counts k) → ⊥

-- where a child's bytes begin: at 0, or at the count of the child before
abbrev pub start_of : List Pair → ℕ → ℕ
start_of pairs index = slice_index (0 ∷ counts_of pairs) index
