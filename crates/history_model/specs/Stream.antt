-- The bytes of a stream.
use Rattle.std.specs.Prelude.{◌≡◌, ℕ, ◌+◌, ◌*◌, ◌<◌, ◌^◌, ◌==◌, not, nat_lt, if◌then◌else◌, Bool, List, [], ◌∷◌, ◌++◌, length, take, Option, Some, None, codes}
use Rattle.std.specs.List.{flat_map}
use Rattle.ex_base.specs.declared.geometry.Geometry.{Geometry}
use Rattle.ex_base.specs.declared.names.Area.{Area}
use Rattle.ex_base.specs.declared.names.Area.TheVariants.{Page, Segment}
use Rattle.ex_base.specs.Fields.{two_bytes, four_bytes, eight_bytes, page_field}
use Rattle.object_records.specs.Record.{Content, Small, Large}
use Rattle.trees.specs.Node.{Node, pair_bytes}
use Rattle.trees.specs.declared.width.Width.TheVariants.{Wide}
use Rattle.history_model.specs.History.{History, HistoryFile, HistoryVersion}

-- ---- the head

pub record StreamHead : Type 0 where
  pub page_size : ℕ
  pub seg_len : ℕ
  pub fan : ℕ
  pub next_unique : ℕ
  pub last : ℕ
  pub files : ℕ
  pub leaves : ℕ
  pub nodes : ℕ
  pub pages : ℕ

-- "EXSMDMP1"
abbrev pub stream_magic : List ℕ
stream_magic = codes "EXSMDMP1"

unfoldable pub head_bytes : StreamHead → List ℕ
head_bytes h =
    stream_magic ++ (four_bytes h.page_size ++ (four_bytes h.seg_len ++ (four_bytes h.fan ++ (eight_bytes h.next_unique ++ (eight_bytes h.last
    ++ (four_bytes h.files ++ (four_bytes h.leaves ++ (four_bytes h.nodes ++ four_bytes h.pages))))))))

abbrev pub head_len : ℕ
head_len = 52

-- each number fits its field
pub record FitsHead (h : StreamHead) : Type 0 where
  pub page_size : h.page_size < 2 ^ 32
  pub seg_len : h.seg_len < 2 ^ 32
  pub fan : h.fan < 2 ^ 32
  pub next_unique : h.next_unique < 2 ^ 64
  pub last : h.last < 2 ^ 64
  pub files : h.files < 2 ^ 32
  pub leaves : h.leaves < 2 ^ 32
  pub nodes : h.nodes < 2 ^ 32
  pub pages : h.pages < 2 ^ 32

-- the stream begins with this head
pub record HasHead (stream : List ℕ) (h : StreamHead) : Type 0 where
  pub fits : FitsHead h
  pub spelled : take head_len stream ≡ head_bytes h

-- the head of a history, for volumes of these sizes
abbrev pub head_of : Geometry → History → StreamHead
head_of g h = record {
  page_size = g.page_size;
  seg_len = g.seg_len;
  fan = g.fan;
  next_unique = h.next_unique;
  last = h.last;
  files = length h.files;
  leaves = length h.leaves;
  nodes = length h.nodes;
  pages = h.pages;
}

-- the first of the three sizes that isn't the volume's: which one, that of the stream and that of the volume
abbrev pub misfit_of : Geometry → StreamHead → Option (ℕ × (ℕ × ℕ))
misfit_of g h =
    if not (h.page_size == g.page_size) then Some (1, (h.page_size, g.page_size))
    else if not (h.seg_len == g.seg_len) then Some (2, (h.seg_len, g.seg_len))
    else if not (h.fan == g.fan) then Some (3, (h.fan, g.fan))
    else None

-- the first area that has fewer free units than the stream needs: the need, and what is free
abbrev pub lack_of : ℕ → ℕ → StreamHead → Option (Area × (ℕ × ℕ))
lack_of pages segs h =
    if nat_lt pages (h.nodes + h.pages) then Some (Page, (h.nodes + h.pages, pages))
    else if nat_lt segs h.leaves then Some (Segment, (h.leaves, segs))
    else None

-- ---- what stands behind the head

abbrev pub leaf_item : List ℕ → List ℕ
leaf_item leaf = four_bytes (length leaf) ++ leaf

abbrev pub node_item : Node → List ℕ
node_item node = (node.level ∷ []) ++ (two_bytes (length node.pairs) ++ flat_map (pair_bytes Wide) node.pairs)

abbrev pub state_code : Bool → ℕ
state_code frozen = if frozen then 2 else 1

abbrev pub number_or_none : Option ℕ → ℕ
number_or_none None = 0
number_or_none (Some number) = number

abbrev pub content_item : Content → List ℕ
content_item (Small bytes) = (1 ∷ []) ++ (two_bytes (length bytes) ++ bytes)
content_item (Large root) = (2 ∷ []) ++ (eight_bytes root.size ++ ((root.height ∷ []) ++ page_field root.page))

abbrev pub version_item : HistoryVersion → List ℕ
version_item v = eight_bytes v.unique ++ ((state_code v.frozen ∷ []) ++ (eight_bytes (number_or_none v.older) ++ content_item v.content))

abbrev pub file_head : HistoryFile → List ℕ
file_head f = (length f.name ∷ []) ++ (f.name ++ four_bytes (length f.versions))

abbrev pub file_item : HistoryFile → List ℕ
file_item f = file_head f ++ flat_map version_item f.versions

-- the whole stream
unfoldable pub stream_of : Geometry → History → List ℕ
stream_of g h = head_bytes (head_of g h) ++ (flat_map leaf_item h.leaves ++ (flat_map node_item h.nodes ++ flat_map file_item h.files))

-- the most bytes that a stream with this head has
abbrev pub bytes_most : ℕ → ℕ → StreamHead → ℕ
bytes_most page_size leaf_bytes h = 52 + (4 + leaf_bytes) * h.leaves + page_size * (h.nodes + h.pages + 1)
