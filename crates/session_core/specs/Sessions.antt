-- What a session is made of, and what holds of its parts.
use Rattle.std.specs.Prelude.{◌≡◌, ◌⊎◌, ◌≤◌, ◌++◌, ◌∷◌, ℕ, Bool, true, false, is_some, List, [], length, map, All, Option, Some, None, nat_eq, slice_index_or}
use Rattle.std.specs.List.{AllByRecursion}
use Rattle.std.specs.Map.{lookup}
use Rattle.ex_base.specs.declared.geometry.Geometry.{Geometry}
use Rattle.ex_base.specs.declared.names.OpNote.{OpNote}
use Rattle.ex_base.specs.declared.names.Root.{Root}
use Rattle.ex_base.specs.declared.names.Area.{Area}
use Rattle.ex_base.specs.Area.{area_end, catalog_no}
use Rattle.ex_base.specs.declared.notes.NoteKind.{NoteKind}
use Rattle.op_log.specs.Records.{IsNote}
use Rattle.op_log.specs.State.{LogState}
use Rattle.buffer_groups.specs.Frames.{Frames}
use Rattle.page_alloc.specs.UnitSet.{UnitSet, used_at, refs_at, free_count}
use Rattle.tree_store.specs.Stored.{IsCounted}
use Rattle.meta_pages.specs.Overlays.{Overlays}
use Rattle.table_model.specs.declared.machine.BoundName.{BoundName}
use Rattle.meta_pages.specs.Rows.{with_row, IsRising}
use Rattle.table_model.specs.declared.machine.GroupRow.{GroupRow}
use Rattle.table_model.specs.Machines.{updates_most, touched_most, scans_most, groups_most, kept, no_oid}
use Rattle.table_model.specs.Steps.{note}
use Rattle.volume_model.specs.Shown.{Held, WorkingRow}
use Rattle.volume_port.specs.declared.state.VolumeState.{VolumeState}
use Rattle.volume_port.specs.Logged.{LoggedSet, is_held}
use Rattle.volume_port.specs.Ported.{IsUsed}
use Rattle.commits.specs.Room.{IsLogged, AreBehindLog}
use Rattle.open_scans.specs.GroupRows.{AreGroupsOf}
use Rattle.open_scans.specs.OpenScans.{OpenRow, IsOpenScan, scan_of}

-- the value of a session: its parts, the logged pages of the working state and of the committed one, the notes of the open transaction's updates, the
-- roots of trees that these made and that the working state has still, those of the committed state that it lost, the bound names,
-- the open scans, the groups that were made besides `main`, whether a transaction is open, and whether the session is down
pub record SessionState : Type 0 where
  pub geometry : Geometry
  pub log : LogState
  pub meta : Overlays
  pub pages : LoggedSet
  pub kept : List Bool
  pub units : UnitSet
  pub groups : List Frames
  pub notes : List OpNote
  pub gained : List Root
  pub lost : List Root
  pub names : List BoundName
  pub scans : List OpenRow
  pub group_rows : List GroupRow
  pub opened : Bool
  pub down : Bool

-- the state of its volume
abbrev pub volume_held : SessionState → VolumeState
volume_held s = record { geometry = s.geometry; log = s.log; meta = s.meta; pages = s.pages; kept = s.kept; units = s.units; groups = s.groups }

-- whether the committed state has a logged page
abbrev pub is_kept : List Bool → ℕ → Bool
is_kept kept page = slice_index_or kept page false

-- what it holds of a volume
abbrev pub held : SessionState → Held
held s = record {
  geometry = s.geometry;
  notes = s.notes;
  names = s.names;
  working_pages = s.meta.working;
  scans = map scan_of s.scans;
  group_rows = s.group_rows;
  frames = map (λ (f : Frames). f.entries) s.groups;
  used = used_at s.units;
  refs = refs_at s.units;
  gained = s.gained;
  lost = s.lost;
  held = is_held s.pages;
  kept = is_kept s.kept;
  overlay = s.meta.committed;
  log = s.log;
  opened = s.opened;
  down = s.down;
}

-- a session on a volume, with no transaction, no bound name, no scan and `main` alone
abbrev pub fresh_session : VolumeState → SessionState
fresh_session v = record {
  geometry = v.geometry;
  log = v.log;
  meta = v.meta;
  pages = v.pages;
  kept = v.kept;
  units = v.units;
  groups = v.groups;
  notes = [];
  gained = [];
  lost = [];
  names = [];
  scans = [];
  group_rows = [];
  opened = false;
  down = false;
}

-- after a transaction was opened, with this catalog
abbrev pub begun : SessionState → List ℕ → SessionState
begun s page = record s { meta = record s.meta { working = (catalog_no, Some page) ∷ [] }; notes = []; opened = true; down = false }

-- after the transaction was given up, with these logged pages, units and frames: no page is touched, no root was gained or lost, and the names that it
-- bound are unbound
abbrev pub aborted : SessionState → LoggedSet → UnitSet → List Frames → SessionState
aborted s pages units groups = record s {
  meta = record s.meta { working = [] };
  pages = pages;
  units = units;
  groups = groups;
  notes = [];
  gained = [];
  lost = [];
  names = kept s.names;
  opened = false;
  down = false;
}

-- Of the units none became used, and of those that were used these are still, and those that have references. Each has the references that it had.
pub record OnlyGives (safe : ℕ → Type 0) (old new : UnitSet) : Type 0 where
  pub geometry : new.geometry ≡ old.geometry
  pub used : (unit : ℕ) → used_at new unit ≡ true → used_at old unit ≡ true
  pub stays : (unit : ℕ) → used_at old unit ≡ true → safe unit → used_at new unit ≡ true
  pub owned : (unit : ℕ) → used_at old unit ≡ true → 1 ≤ refs_at new unit → used_at new unit ≡ true
  pub refs : (unit : ℕ) → refs_at new unit ≡ refs_at old unit
  pub free : (area : Area) → free_count old.geometry (used_at old) area ≤ free_count new.geometry (used_at new) area

-- Each unit that came into use is a logged page of the working state: none is of a tree.
pub record TakesLogged (old new : UnitSet) (pages : LoggedSet) : Type 0 where
  pub taken : (unit : ℕ) → used_at old unit ≡ false → used_at new unit ≡ true → is_held pages unit ≡ true

-- whether a touched page is there: it has an image
abbrev pub is_there : Option (Option (List ℕ)) → Bool
is_there None = false
is_there (Some image) = is_some image

-- The transaction took the page: it has an image of it, and the committed state hasn't the page.
abbrev pub WasTaken : List WorkingRow → List Bool → ℕ → Type 0
WasTaken rows kept page = (is_there (lookup (nat_eq page) rows) ≡ true) × (is_kept kept page ≡ false)

-- The working state has again the pages that the committed one has, and of the units none is given back but pages that the transaction took. Each of
-- them is free, where no node names it.
pub record TakenBack (rows : List WorkingRow) (kept : List Bool) (old new : LoggedSet) (before after : UnitSet) : Type 0 where
  pub held_len : length new ≡ length old
  pub touched : (page : ℕ) (row : Option (List ℕ)) → lookup (nat_eq page) rows ≡ Some row → is_held new page ≡ is_kept kept page
  pub others : (page : ℕ) → lookup (nat_eq page) rows ≡ None → is_held new page ≡ is_held old page
  pub units : OnlyGives (λ unit. WasTaken rows kept unit → ⊥) before after
  pub freed : (page : ℕ) → WasTaken rows kept page → refs_at before page ≡ 0 → used_at after page ≡ false

-- The transaction gave the page back, and the committed state hasn't it.
abbrev pub WasGivenBack : List WorkingRow → List Bool → ℕ → Type 0
WasGivenBack rows kept page = (lookup (nat_eq page) rows ≡ Some None) × (is_kept kept page ≡ false)

-- Of the units none is given back but pages that the transaction gave back and that the committed state hasn't. Each of them is free, where no node names
-- it.
pub record Swept (rows : List WorkingRow) (kept : List Bool) (old new : UnitSet) : Type 0 where
  pub units : OnlyGives (λ unit. WasGivenBack rows kept unit → ⊥) old new
  pub freed : (page : ℕ) → WasGivenBack rows kept page → refs_at old page ≡ 0 → used_at new page ≡ false

-- What a commit leaves of the logged pages: those with an image are the committed state's, those that were given back are not, and of the units none is
-- given back but pages of the committed state that the transaction gave back. Each of them is free, where no node names it.
pub record Settled (rows : List WorkingRow) (kept now : List Bool) (before after : UnitSet) : Type 0 where
  pub kept_len : length now ≡ length kept
  pub images : (page : ℕ) (image : List ℕ) → lookup (nat_eq page) rows ≡ Some (Some image) → is_kept now page ≡ true
  pub gone : (page : ℕ) → lookup (nat_eq page) rows ≡ Some None → is_kept now page ≡ false
  pub others : (page : ℕ) → lookup (nat_eq page) rows ≡ None → is_kept now page ≡ is_kept kept page
  pub units : OnlyGives (λ unit. (lookup (nat_eq unit) rows ≡ Some None) × (is_kept kept unit ≡ true) → ⊥) before after
  pub freed : (page : ℕ) → lookup (nat_eq page) rows ≡ Some None → is_kept kept page ≡ true → refs_at before page ≡ 0 → used_at after page ≡ false

-- Each page that the working state has and the committed one hasn't is free, where no node names it.
abbrev pub FreesTaken : SessionState → SessionState → Type 0
FreesTaken old new = (page : ℕ) → is_held old.pages page ≡ true → is_kept old.kept page ≡ false → refs_at old.units page ≡ 0 → used_at new.units page ≡ false

-- Each page of the committed state that the open transaction gave back is free, where no node names it.
abbrev pub FreesGivenBack : SessionState → SessionState → Type 0
FreesGivenBack old new = (page : ℕ) → lookup (nat_eq page) old.meta.working ≡ Some None → is_kept old.kept page ≡ true → refs_at old.units page ≡ 0 → used_at new.units page ≡ false

-- after an update of a kind, of no version, that left this catalog
abbrev pub updated : SessionState → List ℕ → NoteKind → SessionState
updated s page kind = record s { meta = record s.meta { working = with_row catalog_no (Some page) s.meta.working }; notes = s.notes ++ note kind no_oid 0 0 ∷ [] }

-- The transaction has an image of the catalog's page.
pub record HasWork (meta : Overlays) : Type 0 where
  pub image : List ℕ
  pub there : lookup (nat_eq catalog_no) meta.working ≡ Some (Some image)

-- The flags are of a session's pages: the working state has those with an image, and not those that were given back. A page of the committed state is there
-- or was given back, and one that is there untouched is of the committed state.
pub record IsTracked (g : Geometry) (rows : List WorkingRow) (pages : LoggedSet) (kept : List Bool) : Type 0 where
  pub held_len : length pages ≡ area_end g
  pub kept_len : length kept ≡ area_end g
  pub catalog : is_held pages catalog_no ≡ true
  pub catalog_kept : is_kept kept catalog_no ≡ true
  pub images : (page : ℕ) (image : List ℕ) → lookup (nat_eq page) rows ≡ Some (Some image) → is_held pages page ≡ true
  pub gone : (page : ℕ) → lookup (nat_eq page) rows ≡ Some None → is_held pages page ≡ false
  pub known : (page : ℕ) → is_kept kept page ≡ true → (is_held pages page ≡ true) ⊎ (lookup (nat_eq page) rows ≡ Some None)
  pub untouched : (page : ℕ) → is_held pages page ≡ true → lookup (nat_eq page) rows ≡ None → is_kept kept page ≡ true

-- Each page of the working state is used, and each of the committed state: none is given back before a commit.
pub record ArePagesUsed (used : ℕ → Bool) (pages : LoggedSet) (kept : List Bool) : Type 0 where
  pub working : (page : ℕ) → IsUsed used pages page
  pub committed : (page : ℕ) → is_kept kept page ≡ true → used page ≡ true

-- What holds of every session: its parts are of one geometry; the groups are `main` and those that were made, each with its frames and its policy; its
-- logged pages are used; log, overlay and frames are such that a commit can be made; scans and groups are within their limits; an open transaction is within
-- its own, and has a working catalog; each of its updates gains and loses one root at most. Without one no page is touched, and no root is gained or lost,
-- unless the session is down, which has no open transaction.
pub record IsSession (s : SessionState) : Type 0 where
  pub log : s.log.geometry ≡ s.geometry
  pub meta : s.meta.geometry ≡ s.geometry
  pub units : IsCounted s.geometry s.units
  pub pages : IsTracked s.geometry s.meta.working s.pages s.kept
  pub in_use : ArePagesUsed (used_at s.units) s.pages s.kept
  pub sizes : All (λ (f : Frames). f.page_size ≡ s.geometry.page_size) s.groups
  pub groups : AreGroupsOf s.group_rows s.groups
  pub few_groups : length s.group_rows ≤ groups_most
  pub scans : All (IsOpenScan s.geometry (length s.group_rows)) s.scans
  pub few_scans : length s.scans ≤ scans_most
  pub logged : IsLogged s.log s.meta
  pub behind : AreBehindLog s.groups
  pub few_notes : length s.notes ≤ updates_most
  pub notes : AllByRecursion IsNote s.notes
  pub few_gained : length s.gained ≤ length s.notes
  pub few_lost : length s.lost ≤ length s.notes
  pub few_pages : length s.meta.working ≤ touched_most
  pub in_order : IsRising s.meta.working
  pub work : s.opened ≡ true → HasWork s.meta
  pub up : s.opened ≡ true → s.down ≡ false
  pub idle : s.opened ≡ false → s.down ≡ false → (s.meta.working ≡ []) × (s.gained ≡ []) × (s.lost ≡ [])
