-- A session that was just opened on a volume, where no record counts any more.
use Rattle.std.specs.Prelude.{◌≡◌, ◌↔◌, ℕ, Bool, true, false, List, [], ◌∷◌, Contains}
use Rattle.ex_base.specs.declared.geometry.Geometry.{Geometry}
use Rattle.ex_base.specs.declared.names.Area.TheVariants.{Page, Segment}
use Rattle.ex_base.specs.Area.{catalog_no}
use Rattle.op_log.specs.State.{LogState}
use Rattle.table_model.specs.declared.table.Table.{Table}
use Rattle.table_model.specs.Machines.{start}
use Rattle.session_views.specs.View.{View}
use Rattle.trees.specs.Owners.{IsOwned, root_pages}
use Rattle.trees.specs.Trees.{Units}
use Rattle.volume_model.specs.Shown.{Held, Shows, used_in}
use Rattle.volume_model.specs.Volume.{Decoded, Volume, file_pages, reach_of, roots_in, stored_in, table_of, units_of}

-- What a session holds that was just opened: no transaction, no scan, no name, and one group without a frame. The logged pages that it has are the
-- committed ones.
abbrev pub fresh_held : Geometry → LogState → (ℕ → Bool) → (ℕ → ℕ) → (ℕ → Bool) → Held
fresh_held g log used refs held = record {
  geometry = g;
  notes = [];
  names = [];
  working_pages = [];
  scans = [];
  group_rows = [];
  frames = [] ∷ [];
  used = used;
  refs = refs;
  gained = [];
  lost = [];
  held = held;
  kept = held;
  overlay = [];
  log = log;
  opened = false;
  down = false;
}

-- the view of such a session: the machine at its start, with the units counted that are in use
abbrev pub fresh_view : Decoded → List ℕ → LogState → (ℕ → Bool) → (ℕ → ℕ) → (ℕ → Bool) → View Held
fresh_view d disk log used refs held = record {
  machine = start d.geometry (table_of (units_of d disk) d.volume) (used_in d.geometry used Page) (used_in d.geometry used Segment);
  session = fresh_held d.geometry log used refs held;
  disk = disk;
}

-- Each unit of a tree has as many references as roots of the volume and pairs of its nodes name it. In use are these units, the catalog and the pages of
-- its files, and no others.
abbrev pub OwnsUnits : Geometry → Units → Volume → (ℕ → Bool) → (ℕ → ℕ) → Type 0
OwnsUnits g units v used refs = IsOwned g units used refs (catalog_no ∷ file_pages v) (root_pages (roots_in (stored_in v)))

-- The units in use are exactly those that the volume reaches, and the logged pages are exactly the catalog and the pages of the files.
pub record KnowsUnits (d : Decoded) (disk : List ℕ) (used held : ℕ → Bool) : Type 0 where
  pub units : (unit : ℕ) → (used unit ≡ true) ↔ Contains (reach_of (units_of d disk) d.volume) unit
  pub pages : (page : ℕ) → (held page ≡ true) ↔ Contains (catalog_no ∷ file_pages d.volume) page

-- The session shows the volume, and the volume's table is this one.
pub record OpenedView (may_leave : List ℕ → Type 0) (d : Decoded) (disk : List ℕ) (log : LogState) (used : ℕ → Bool) (refs : ℕ → ℕ) (held : ℕ → Bool) (table : Table) : Type 0 where
  pub shows : Shows may_leave (fresh_view d disk log used refs held)
  pub table_is : table_of (units_of d disk) d.volume ≡ table
