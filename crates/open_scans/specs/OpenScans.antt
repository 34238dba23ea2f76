-- The open scans of a session, each with the group of frames that it reads through.
use Rattle.std.specs.Prelude.{◌≡◌, ◌≤◌, ◌<◌, ◌+◌, ℕ, Bool, List, IfSome, bytes_eq, position, slice_get, Option, Some}
use Rattle.ex_base.specs.declared.faults.PortFault.{PortFault}
use Rattle.ex_base.specs.declared.geometry.Geometry.{Geometry}
use Rattle.scans.specs.Scans.{Position, scan_size, next_len, moved_by}
use Rattle.ex_base.specs.Area.{NamesLeaf}
use Rattle.trees.specs.Damage.{IsRootReadFault, IsSoundRoot}
use Rattle.trees.specs.Roots.{IsRootFor}
use Rattle.trees.specs.Trees.{Units}
use Rattle.volume_model.specs.Held.{HeldScan}

-- an open scan and the index of its group: `main` is the first of the groups
pub record OpenRow : Type 0 where
  pub scan : HeldScan
  pub group : ℕ

abbrev pub scan_of : OpenRow → HeldScan
scan_of row = row.scan

abbrev pub is_named : List ℕ → OpenRow → Bool
is_named name row = bytes_eq row.scan.name name

-- the scan without its name
abbrev pub position_of : HeldScan → Position
position_of held = record { root = held.root; small = held.small; pos = held.pos }

-- The root is one that a tree of the volume may have, no more bytes were given than there are, and the group is `main` or one of so many others.
pub record IsOpenScan (g : Geometry) (groups : ℕ) (row : OpenRow) : Type 0 where
  pub root : IfSome row.scan.root (IsRootFor g)
  pub inside : row.scan.pos ≤ scan_size (position_of row.scan)
  pub group : row.group ≤ groups

-- the index of the first scan that has a name
abbrev pub scan_index : List OpenRow → List ℕ → Option ℕ
scan_index rows name = position (is_named name) rows

-- the open scan under a name that has this position
abbrev pub at_position : List ℕ → ℕ → Position → OpenRow
at_position name group place = record {
  scan = record { name = name; root = place.root; small = place.small; pos = place.pos };
  group = group;
}

-- how many bytes a scan gives next, where so many are asked
abbrev pub given_len : ℕ → OpenRow → ℕ
given_len n row = next_len n (position_of row.scan)

-- the scan behind what it gives next, where so many bytes are asked
abbrev pub row_after : ℕ → OpenRow → OpenRow
row_after n row = at_position row.scan.name row.group (moved_by (given_len n row) (position_of row.scan))

-- On the way down from the root of a scan, where it has one, to each of the bytes that it gives next where so many are asked, each node and the leaf at its
-- end are what names them.
abbrev pub HasSoundRest : Geometry → Units → ℕ → Position → Type 0
HasSoundRest g units n place = IfSome place.root (λ root. (byte : ℕ) → place.pos ≤ byte → byte < place.pos + next_len n place → IsSoundRoot g units (NamesLeaf g) root byte byte)

-- what stops a read of the next bytes of a scan is no page beside the ways from its root to these bytes
abbrev pub IsNextFault : Geometry → Units → ℕ → Position → PortFault → Type 0
IsNextFault g units n place fault = IfSome place.root (λ root. IsRootReadFault g units root place.pos (next_len n place) fault)

-- A fact of the scan at an index.
abbrev pub AtRow : List OpenRow → ℕ → (OpenRow → Type 0) → Type 0
AtRow rows index Fact = (row : OpenRow) → slice_get rows index ≡ Some row → Fact row
