-- A worked history: a file `a` with an object of 1,000 bytes 97, on volumes of pages of 512 bytes, units of one page and fan 2.
use Rattle.std.specs.Prelude.{◌≡◌, ℕ, List, [], ◌∷◌, ◌++◌, length, replicate, false, Some, None}
use Rattle.ex_base.specs.declared.geometry.Geometry.{Geometry}
use Rattle.ex_base.specs.declared.names.Area.TheVariants.{Page, Segment}
use Rattle.object_records.specs.Record.{Large}
use Rattle.history_model.specs.FilePages.{pages_needed}
use Rattle.history_model.specs.History.{History}
use Rattle.history_model.specs.Stream.{StreamHead, bytes_most, lack_of, misfit_of, stream_of}

-- a leaf that is not quite full
abbrev pub base_leaf : List ℕ
base_leaf = replicate 500 97

abbrev pub base : History
base = record {
  next_unique = 2;
  last = 1;
  pages = 5;
  leaves = base_leaf ∷ base_leaf ∷ [];
  nodes = record { level = 1; pairs = record { count = 500; page = record { 0 = 1 } } ∷ record { count = 1000; page = record { 0 = 2 } } ∷ [] } ∷ [];
  files = record {
    name = 97 ∷ [];
    versions = record { unique = 1; frozen = false; older = None; content = Large (record { height = 1; page = Some (record { 0 = 1 }); size = 1000 }) } ∷ [];
  } ∷ [];
}

abbrev pub base_head : StreamHead
base_head = record { page_size = 512; seg_len = 1; fan = 2; next_unique = 2; last = 1; files = 1; leaves = 2; nodes = 1; pages = 5 }

-- the magic; 512, 1, 2; 2, 1; 1, 2, 1, 5
abbrev pub base_head_bytes : List ℕ
base_head_bytes =
    69 ∷ 88 ∷ 83 ∷ 77 ∷ 68 ∷ 77 ∷ 80 ∷ 49
    ∷ 0 ∷ 0 ∷ 2 ∷ 0 ∷ 0 ∷ 0 ∷ 0 ∷ 1 ∷ 0 ∷ 0 ∷ 0 ∷ 2
    ∷ 0 ∷ 0 ∷ 0 ∷ 0 ∷ 0 ∷ 0 ∷ 0 ∷ 2 ∷ 0 ∷ 0 ∷ 0 ∷ 0 ∷ 0 ∷ 0 ∷ 0 ∷ 1
    ∷ 0 ∷ 0 ∷ 0 ∷ 1 ∷ 0 ∷ 0 ∷ 0 ∷ 2 ∷ 0 ∷ 0 ∷ 0 ∷ 1 ∷ 0 ∷ 0 ∷ 0 ∷ 5 ∷ []

-- 500, and the leaf
abbrev pub base_leaf_bytes : List ℕ
base_leaf_bytes = (0 ∷ 0 ∷ 1 ∷ 244 ∷ []) ++ base_leaf

-- level 1, 2 pairs: 500 and leaf 1, 1,000 and leaf 2
abbrev pub base_node_bytes : List ℕ
base_node_bytes =
    1 ∷ 0 ∷ 2
    ∷ 0 ∷ 0 ∷ 0 ∷ 0 ∷ 0 ∷ 0 ∷ 1 ∷ 244 ∷ 0 ∷ 0 ∷ 0 ∷ 1
    ∷ 0 ∷ 0 ∷ 0 ∷ 0 ∷ 0 ∷ 0 ∷ 3 ∷ 232 ∷ 0 ∷ 0 ∷ 0 ∷ 2 ∷ []

-- `a` with one version: 1, current, derived from none; large, of 1,000 bytes, height 1 and root 1
abbrev pub base_file_bytes : List ℕ
base_file_bytes =
    1 ∷ 97 ∷ 0 ∷ 0 ∷ 0 ∷ 1
    ∷ 0 ∷ 0 ∷ 0 ∷ 0 ∷ 0 ∷ 0 ∷ 0 ∷ 1 ∷ 1 ∷ 0 ∷ 0 ∷ 0 ∷ 0 ∷ 0 ∷ 0 ∷ 0 ∷ 0
    ∷ 2 ∷ 0 ∷ 0 ∷ 0 ∷ 0 ∷ 0 ∷ 0 ∷ 3 ∷ 232 ∷ 1 ∷ 0 ∷ 0 ∷ 0 ∷ 1 ∷ []

abbrev pub base_stream : List ℕ
base_stream = base_head_bytes ++ (base_leaf_bytes ++ (base_leaf_bytes ++ (base_node_bytes ++ base_file_bytes)))

-- ---- what is worked out of it

abbrev pub BaseStream : Type 0
BaseStream = (g : Geometry) → g.page_size ≡ 512 → g.seg_len ≡ 1 → g.fan ≡ 2 → (stream_of g base ≡ base_stream) × (length base_stream ≡ 1124)

-- it needs five pages of files and of their indexes, and a stream with its head has at most 4,668 bytes
abbrev pub BaseSizes : Type 0
BaseSizes = (pages_needed 512 base ≡ 5) × (bytes_most 512 512 base_head ≡ 4668)

-- into a volume of fan 3, with one free unit, and with five free pages
abbrev pub BaseRefused : Type 0
BaseRefused =
    ((g : Geometry) → g.page_size ≡ 512 → g.seg_len ≡ 1 → g.fan ≡ 3 → misfit_of g base_head ≡ Some (3, (2, 3))) × (lack_of 63 1 base_head ≡ Some (Segment, (2, 1)))
    × (lack_of 5 64 base_head ≡ Some (Page, (6, 5))) × (lack_of 6 64 base_head ≡ None)
