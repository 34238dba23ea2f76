-- The pieces of leaves that a port for reading reads through frames.
use Rattle.std.specs.Prelude.{◌≤◌, ◌<◌, ◌+◌, ◌*◌, ◌/◌, ◌%◌, ℕ, Bool, IsTrue, List, [], Option, unwrap_or}
use Rattle.ex_base.specs.declared.geometry.Geometry.{Geometry}
use Rattle.ex_base.specs.Area.{catalog_no}
use Rattle.ex_base.specs.Bytes.{part}
use Rattle.ex_base.specs.Sizes.{volume_bytes}

-- The page is the catalog's or one behind it, inside the volume: groups may have frames of it.
abbrev pub MayHaveFrame : Geometry → ℕ → Type 0
MayHaveFrame g page = (catalog_no ≤ page) × ((page + 1) * g.page_size ≤ volume_bytes g)

-- the bytes of the page on a disk
abbrev pub home_bytes : Geometry → Option (List ℕ) → ℕ → List ℕ
home_bytes g held page = part (unwrap_or held []) (page * g.page_size) g.page_size

-- The n bytes from a place of a leaf on lie on one page, and are a part of it: some, and not all.
abbrev pub IsPiece : Geometry → ℕ → ℕ → Type 0
IsPiece g from n = (1 ≤ n) × (n < g.page_size) × (from % g.page_size + n ≤ g.page_size)

-- A port that keeps leaves reads these bytes through a frame.
abbrev pub IsKept : Bool → Geometry → ℕ → ℕ → Type 0
IsKept keeps_leaves g from n = IsTrue keeps_leaves × IsPiece g from n

-- the page of a leaf that the byte at a place of it lies on
abbrev pub piece_page : Geometry → ℕ → ℕ → ℕ
piece_page g page from = page + from / g.page_size
