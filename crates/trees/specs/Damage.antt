-- What is told of a page that is not what names it, and which ways down a tree are sound.
use Rattle.std.specs.Prelude.{◌≡◌, ◌≢◌, ◌⊎◌, ◌<◌, ◌≤◌, ◌+◌, ◌-◌, ℕ, zero, suc, List, [], ◌∷◌, Option, Some, None, ⊤}
use Rattle.std.specs.List.{AllByRecursion}
use Rattle.ex_base.specs.declared.faults.Seen.{Seen}
use Rattle.ex_base.specs.declared.faults.PortFault.{PortFault}
use Rattle.ex_base.specs.declared.faults.PortFault.TheVariants.{Disk, Memory, Damaged}
use Rattle.ex_base.specs.declared.geometry.Geometry.{Geometry}
use Rattle.ex_base.specs.declared.names.PageNo.{PageNo}
use Rattle.ex_base.specs.declared.names.Root.{Root}
use Rattle.ex_base.specs.Area.{InPageArea, NamesLeaf, catalog_no}
use Rattle.ex_base.specs.Ports.{IsDamage}
use Rattle.ex_base.specs.Seen.{node_seen, leaf_seen, nothing_seen}
use Rattle.trees.specs.declared.Pair.{Pair}
use Rattle.trees.specs.Node.{PairsOf, level_on, pairs_on, total_of}
use Rattle.trees.specs.Trees.{Units, RootSpells, root_units}
use Rattle.trees.specs.declared.rows.Part.{Part}
use Rattle.trees.specs.Rows.{IsFilled, IsRowOn, parts_of}

-- a page where a node may lie: of the page area, and not the catalog
abbrev pub NamesNode : Geometry → ℕ → Type 0
NamesNode g page = InPageArea g page × (page ≢ catalog_no)

-- What is seen of a page with these bytes, where it isn't the node of this level and total with at least so many children: it lies where no node may
-- lie, it is outside the grammar, it is another node, or it breaks the rules on the number of children and on the leaves below it.
pub data IsMisread (g : Geometry) (bytes : List ℕ) (level total least page : ℕ) (got : Seen) : Type 0 where
  elsewhere : (NamesNode g page → ⊥) → got ≡ nothing_seen → IsMisread g bytes level total least page got
  outside : ((l : ℕ) (pairs : List Pair) → PairsOf g.fan bytes l pairs → ⊥) → got ≡ nothing_seen → IsMisread g bytes level total least page got
  other : got ≡ node_seen (level_on bytes) (total_of (pairs_on bytes)) → got ≢ node_seen level total → IsMisread g bytes level total least page got
  unfilled : (IsFilled g level least (parts_of 0 (pairs_on bytes)) → ⊥) → got ≡ nothing_seen → IsMisread g bytes level total least page got

-- the fault is the port's own, or tells that this page with these bytes isn't the node that names it
abbrev pub IsNodeFault : Geometry → List ℕ → ℕ → ℕ → ℕ → ℕ → PortFault → Type 0
IsNodeFault g bytes level total least page Disk = ⊤
IsNodeFault g bytes level total least page Memory = ⊤
IsNodeFault g bytes level total least page (Damaged at want got) = (at.0 ≡ page) × (want ≡ node_seen level total) × IsMisread g bytes level total least page got

-- the fault is the port's own, or tells that this page, which is asked for a leaf, names none
abbrev pub IsLeafFault : Geometry → PageNo → PortFault → Type 0
IsLeafFault g page Disk = ⊤
IsLeafFault g page Memory = ⊤
IsLeafFault g page (Damaged at want got) = (at ≡ page) × (want ≡ leaf_seen) × (got ≡ nothing_seen) × (NamesLeaf g at.0 → ⊥)

-- The page is the node that names it: it lies where a node may lie, is in the grammar, of this level and total, with at least so many children, over
-- leaves that are at least half full.
pub record IsNodeAt (g : Geometry) (units : Units) (level total least page : ℕ) : Type 0 where
  pub area : NamesNode g page
  pub row : IsRowOn g (units page) level total (parts_of 0 (pairs_on (units page)))
  pub filled : IsFilled g level least (parts_of 0 (pairs_on (units page)))

-- P holds of a tree of a row
abbrev pub AnyPart : (Part → Type 0) → List Part → Type 0
AnyPart P [] = ⊥
AnyPart P (part ∷ row) = P part ⊎ AnyPart P row

-- The fault is the port's own, or tells of a page on the way down from a row of trees of this level, whose nodes have at least so many children: a leaf
-- or a node that isn't what names it, below nodes that are what names them.
abbrev pub IsWalkFault : Geometry → Units → ℕ → ℕ → List Part → PortFault → Type 0
IsWalkFault g units level least row Disk = ⊤
IsWalkFault g units level least row Memory = ⊤
IsWalkFault g units zero least row (Damaged at want got) = AnyPart (λ part. IsLeafFault g part.page (Damaged at want got)) row
IsWalkFault g units (suc l) least row (Damaged at want got) = AnyPart (λ part.
    IsNodeFault g (units part.page.0) (suc l) part.size least part.page.0 (Damaged at want got)
    ⊎ (IsNodeAt g units (suc l) part.size least part.page.0 × IsWalkFault g units l g.fan (parts_of 0 (pairs_on (units part.page.0))) (Damaged at want got))) row

-- ---- faults of a read

-- P holds of the tree of a row that has the byte at a position, and of this position inside it
abbrev pub AtByte : (Part → ℕ → Type 0) → List Part → ℕ → Type 0
AtByte P [] at = ⊥
AtByte P (part ∷ row) at = ((at < part.size) × P part at) ⊎ ((part.size ≤ at) × AtByte P row (at - part.size))

-- P holds of one of so many positions from a first one on
abbrev pub AnyByte : (ℕ → Type 0) → ℕ → ℕ → Type 0
AnyByte P pos len = (byte : ℕ) × ((pos ≤ byte) × (byte < pos + len) × P byte)

-- The fault tells of a page on the way down from a row of trees of this level to the byte at a position: of a leaf or a node that isn't what names it,
-- below nodes that are what names them.
abbrev pub IsByteFault : Geometry → Units → ℕ → ℕ → List Part → ℕ → PortFault → Type 0
IsByteFault g units zero least row at fault = AtByte (λ part inside. IsLeafFault g part.page fault) row at
IsByteFault g units (suc l) least row at fault = AtByte (λ part inside.
    IsNodeFault g (units part.page.0) (suc l) part.size least part.page.0 fault
    ⊎ (IsNodeAt g units (suc l) part.size least part.page.0 × IsByteFault g units l g.fan (parts_of 0 (pairs_on (units part.page.0))) inside fault)) row at

-- The fault is the port's own, or tells of a page on the way down from a row of trees to one of so many bytes from a position on: no page beside these ways
-- stops a read of the bytes.
abbrev pub IsReadFault : Geometry → Units → ℕ → ℕ → List Part → ℕ → ℕ → PortFault → Type 0
IsReadFault g units level least row pos len fault = IsDamage fault → AnyByte (λ byte. IsByteFault g units level least row byte fault) pos len

-- ---- what is found sound

-- P holds of the tree of a row that has all bytes from a first to a last position, where one has them all, and of these positions inside it
abbrev pub AtTree : (Part → ℕ → ℕ → Type 0) → List Part → ℕ → ℕ → Type 0
AtTree P [] first last = ⊤
AtTree P (part ∷ row) first last = (last < part.size → P part first last) × (part.size ≤ first → AtTree P row (first - part.size) (last - part.size))

-- The way down from a row of trees of this level to the bytes from a first to a last position is sound, as far as one tree has them all: each node on it
-- is what names it, and the page of the leaf at its end is as `leaf` says.
abbrev pub IsSoundWay : Geometry → Units → (ℕ → Type 0) → ℕ → ℕ → List Part → ℕ → ℕ → Type 0
IsSoundWay g units leaf zero least row first last = AtTree (λ part first last. leaf part.page.0) row first last
IsSoundWay g units leaf (suc l) least row first last = AtTree (λ part first last.
    IsNodeAt g units (suc l) part.size least part.page.0
    × IsSoundWay g units leaf l g.fan (parts_of 0 (pairs_on (units part.page.0))) first last) row first last

-- The way down to the two bytes beside an end of a range is sound, as far as one tree has both: it goes through the trees of which the range takes a part
-- and leaves one.
abbrev pub IsSoundEnd : Geometry → Units → ℕ → ℕ → List Part → ℕ → Type 0
IsSoundEnd g units level least row end = 1 ≤ end → IsSoundWay g units (NamesLeaf g) level least row (end - 1) end

-- a leaf that isn't read may be named by any page
abbrev pub AnyPage : ℕ → Type 0
AnyPage page = ⊤

-- the tree of a root as a row, where it has one
abbrev pub root_row_at : ℕ → Option PageNo → List Part
root_row_at size None = []
root_row_at size (Some page) = record { size = size; page = page } ∷ []

abbrev pub root_row : Root → List Part
root_row root = root_row_at root.size root.page

-- the fault is the port's own, or tells of a page on the way down from a root
abbrev pub IsRootFault : Geometry → Units → Root → PortFault → Type 0
IsRootFault g units root fault = IsWalkFault g units root.height 2 (root_row root) fault

-- the fault is the port's own, or tells of a page on the way down from a root to one of so many bytes from a position on
abbrev pub IsRootReadFault : Geometry → Units → Root → ℕ → ℕ → PortFault → Type 0
IsRootReadFault g units root pos len fault = IsReadFault g units root.height 2 (root_row root) pos len fault

-- the way down from a root to the bytes from a first to a last position is sound
abbrev pub IsSoundRoot : Geometry → Units → (ℕ → Type 0) → Root → ℕ → ℕ → Type 0
IsSoundRoot g units leaf root first last = IsSoundWay g units leaf root.height 2 (root_row root) first last

-- none of the units is the catalog's page
abbrev pub AvoidsCatalog : List ℕ → Type 0
AvoidsCatalog units = AllByRecursion (λ p. p ≢ catalog_no) units

-- The tree of a root is whole: the root spells bytes, and the catalog's page is none of its nodes.
pub record IsWhole (g : Geometry) (units : Units) (root : Root) : Type 0 where
  pub bytes : List ℕ
  pub spells : RootSpells g units root bytes
  pub avoids : AvoidsCatalog (root_units units root)
