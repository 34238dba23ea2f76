-- The current versions of a file.
use Rattle.std.specs.Prelude.{ℕ, ◌+◌, ◌*◌, List, [], ◌∷◌, ◌++◌, drop, Option, Some, None, IsSortedByKey}
use Rattle.std.specs.Ordering.{nat_cmp}
use Rattle.std.specs.List.{AllByRecursion}
use Rattle.ex_base.specs.declared.names.Oid.{Oid}
use Rattle.ex_base.specs.declared.names.Place.{Place}
use Rattle.object_records.specs.declared.Head.{Head}
use Rattle.object_records.specs.declared.State.{State}
use Rattle.object_records.specs.declared.State.TheVariants.{Current, Frozen}
use Rattle.object_records.specs.Record.{Record, BodyOf}
use Rattle.object_records.specs.Reads.{record_on}
use Rattle.slotted_pages.specs.FilePage.{Slot}
use Rattle.file_bodies.specs.Bodies.{Row, bodies_from}

abbrev pub oid_at : Place → ℕ → Oid
oid_at place unique = record { page = place.page; slot = place.slot; unique = unique }

-- the OID of a current version, as a list: none of a frozen one
abbrev pub oids_by : State → Oid → List Oid
oids_by Current oid = oid ∷ []
oids_by Frozen oid = []

abbrev pub oids_in : Place → Head → List Oid
oids_in place head = oids_by head.state (oid_at place head.unique)

-- the OIDs of the current versions whose records stand in these rows
abbrev pub oids_of : List Row → List Oid
oids_of [] = []
oids_of (row ∷ rows) = oids_in row.0 (record_on row.1).head ++ oids_of rows

-- the rows on a page from a slot on
abbrev pub rows_on : ℕ → ℕ → List Slot → List Row
rows_on page from slots = bodies_from page from (drop from slots)

-- in order of unique number
abbrev pub AreByNumber : List Oid → Type 0
AreByNumber oids = IsSortedByKey (λ (oid : Oid). oid.unique) nat_cmp oids

-- each body is a record
abbrev pub AreReadable : List Row → Type 0
AreReadable rows = AllByRecursion (λ (row : Row). (is : Record) × BodyOf row.1 is) rows

-- a place as a number: places stand in the order of their ranks
abbrev pub rank_of : Place → ℕ
rank_of place = place.page.0 * 65536 + place.slot

-- the rank of the first place behind a place, or of the first one
abbrev pub start_rank : Option Place → ℕ
start_rank None = 0
start_rank (Some place) = rank_of place + 1
