-- Where a load puts the leaves and nodes of a stream, and which bytes of a disk it may write.
use Rattle.std.specs.Prelude.{◌≢◌, ◌≤◌, ℕ, zero, suc, ◌+◌}
use Rattle.ex_base.specs.declared.geometry.Geometry.{Geometry}
use Rattle.ex_base.specs.declared.names.Area.TheVariants.{Segment}
use Rattle.ex_base.specs.Area.{InPageArea, IsUnit, catalog_no, unit_at}
use Rattle.tree_store.specs.Stored.{InUnit}

-- the unit of the leaf with a number, which is counted from 1
abbrev pub leaf_place : Geometry → ℕ → ℕ
leaf_place g zero = 0
leaf_place g (suc i) = unit_at g Segment i

-- the page of the node with a number: the first is behind the catalog's page
abbrev pub node_place : ℕ → ℕ
node_place number = catalog_no + number

-- the places of the bytes of all units but the catalog's page
abbrev pub IsBehindCatalog : Geometry → ℕ → Type 0
IsBehindCatalog g i = (unit : ℕ) × IsUnit g unit × (unit ≢ catalog_no) × InUnit g unit i

-- the places of the bytes of the pages from one on
abbrev pub InPagesFrom : Geometry → ℕ → ℕ → Type 0
InPagesFrom g first i = (page : ℕ) × InPageArea g page × (first ≤ page) × InUnit g page i
