-- A running session, and when it shows a volume.
use Rattle.std.specs.Prelude.{◌≡◌, ◌⊎◌, ◌↔◌, ℕ, zero, suc, ◌+◌, Bool, true, false, List, [], ◌∷◌, ◌++◌, length, map, Option, Some, None, IsSome, is_some, Contains, nat_eq, if◌then◌else◌}
use Rattle.std.specs.List.{flat_map, AllByRecursion, AllZip}
use Rattle.std.specs.Map.{lookup}
use Rattle.ex_base.specs.declared.geometry.Geometry.{Geometry}
use Rattle.ex_base.specs.declared.names.Area.{Area}
use Rattle.ex_base.specs.declared.names.Area.TheVariants.{Page, Segment}
use Rattle.ex_base.specs.Area.{catalog_no, page_at, unit_at}
use Rattle.ex_base.specs.Order.{Rising}
use Rattle.ex_base.specs.Sizes.{units}
use Rattle.op_log.specs.AfterLog.{logged, after_log}
use Rattle.op_log.specs.Log.{log_end}
use Rattle.trees.specs.Shown.{BytesShown}
use Rattle.trees.specs.Trees.{Units, root_units, units_from}
use Rattle.table_model.specs.declared.machine.ScanRow.{ScanRow}
use Rattle.table_model.specs.declared.table.Table.{Table}
use Rattle.table_model.specs.Machines.{IsMachine}
use Rattle.session_views.specs.View.{View}
use Rattle.volume_model.specs.Durable.{Agrees}
use Rattle.volume_model.specs.Homes.{home}
use Rattle.volume_model.specs.OwnersShown.{OwnersOf}
use Rattle.volume_model.specs.Parts.{Decodes, HoldsOf, content_parts}
pub use Rattle.volume_model.specs.Held.{PageRow, WorkingRow, HeldScan, Held, root_here, roots_here}
use Rattle.volume_model.specs.Volume.{Volume, Decoded, table_of, units_of, file_pages, reach_of, roots_in, stored_in}

-- ---- the working pages, laid over

abbrev pub laid_over_page : List ℕ → List ℕ → Option (Option (List ℕ)) → List ℕ
laid_over_page under home None = under
laid_over_page under home (Some None) = home
laid_over_page under home (Some (Some image)) = image

-- Each page in the transaction: its working image, or what is committed; a page that was given back is what stands at its home.
abbrev pub laid_over : Geometry → List ℕ → (ℕ → List ℕ) → List WorkingRow → ℕ → List ℕ
laid_over g disk pages working page = laid_over_page (pages page) (page_at g disk page) (lookup (nat_eq page) working)

abbrev pub working_units : Decoded → List ℕ → List WorkingRow → Units
working_units d disk working = units_from d.geometry (laid_over d.geometry disk (after_log d.geometry d.records disk) working) disk

-- ---- the parts of a view

-- The working pages decode as a volume of the working table.
pub record ShowsWorking (d : Decoded) (v : View Held) (working : Volume) (table : Table) : Type 0 where
  pub parts : AllByRecursion (HoldsOf d.geometry d.records (working_units d v.disk v.session.working_pages) working) content_parts
  pub same : table ≡ table_of (working_units d v.disk v.session.working_pages) working

-- Without a working table there are no working pages, and the working volume is the committed one.
abbrev pub WorkingShown : Decoded → View Held → Volume → Option Table → Type 0
WorkingShown d v working None = (v.session.working_pages ≡ []) × (working ≡ d.volume)
WorkingShown d v working (Some table) = ShowsWorking d v working table

-- The scan of this row of the machine is open, and its bytes are those that it shows; the units of its tree stand at home.
pub record ScanShown (g : Geometry) (units : Units) (row : ScanRow) (held : HeldScan) : Type 0 where
  pub name : row.name ≡ held.name
  pub pos : row.pos ≡ held.pos
  pub bytes : BytesShown g units row.bytes held.small held.root

-- the units of the trees of the committed volume, of the working one and of the open scans
abbrev pub trees_of_view : Decoded → View Held → Volume → List ℕ
trees_of_view d v working =
    flat_map (root_units (units_of d v.disk)) (roots_in (stored_in d.volume)) ++ flat_map (root_units (working_units d v.disk v.session.working_pages)) (roots_in (stored_in working))
    ++ flat_map (root_units (home d.geometry v.disk)) (roots_here v.session.scans)

-- what the committed pages, the working pages and the open scans reach
abbrev pub reach_of_view : Decoded → View Held → Volume → List ℕ
reach_of_view d v working =
    reach_of (units_of d v.disk) d.volume ++ reach_of (working_units d v.disk v.session.working_pages) working
    ++ flat_map (root_units (home d.geometry v.disk)) (roots_here v.session.scans)

-- how many of the first n units are used
abbrev pub used_below : (ℕ → Bool) → (ℕ → ℕ) → ℕ → ℕ
used_below used at zero = 0
used_below used at (suc n) = used_below used at n + (if used (at n) then 1 else 0)

-- how many units of an area are used
abbrev pub used_in : Geometry → (ℕ → Bool) → Area → ℕ
used_in g used area = used_below used (unit_at g area) (units g area)

-- In use are exactly the units that are reached, and the machine counts them.
pub record UsedShown (d : Decoded) (v : View Held) (working : Volume) : Type 0 where
  pub reached : (unit : ℕ) → (v.session.used unit ≡ true) ↔ Contains (reach_of_view d v working) unit
  pub pages : v.machine.pages_used ≡ used_in d.geometry v.session.used Page
  pub segs : v.machine.segs_used ≡ used_in d.geometry v.session.used Segment
  pub touched : v.machine.touched ≡ length v.session.working_pages

-- each frame has the bytes that the disk holds of its page
abbrev pub Lends : Geometry → List ℕ → List PageRow → Type 0
Lends g disk frames = AllByRecursion (λ (frame : PageRow). frame.1 ≡ page_at g disk frame.0) frames

-- a working page with an image is the catalog or a page of the working files
abbrev pub IsWorkingPage : Volume → WorkingRow → Type 0
IsWorkingPage working row = IsSome row.1 → (row.0 ≡ catalog_no) ⊎ Contains (file_pages working) row.0

-- No page of a file lies in a tree. The working pages are the catalog, pages of the working files, or given back; a committed file's page that
-- is no working file's is given back.
pub record PagesApart (d : Decoded) (v : View Held) (working : Volume) : Type 0 where
  pub no_tree : (page : ℕ) → Contains (file_pages d.volume ++ file_pages working) page → ¬ Contains (trees_of_view d v working) page
  pub in_order : Rising (map (λ (row : WorkingRow). row.0) v.session.working_pages)
  pub images : AllByRecursion (IsWorkingPage working) v.session.working_pages
  pub left : IsSome v.machine.working → (page : ℕ) → Contains (file_pages d.volume) page → (¬ Contains (file_pages working) page) → lookup (nat_eq page) v.session.working_pages ≡ Some None

-- The session knows the logged pages of the working volume and of the committed one exactly.
pub record LoggedShown (d : Decoded) (v : View Held) (working : Volume) : Type 0 where
  pub held : (page : ℕ) → (v.session.held page ≡ true) ↔ Contains (catalog_no ∷ file_pages working) page
  pub kept : (page : ℕ) → (v.session.kept page ≡ true) ↔ Contains (catalog_no ∷ file_pages d.volume) page

-- The overlay has just the pages that the log has, with their images; the session's log stands behind the last record.
pub record OverlayShown (d : Decoded) (v : View Held) : Type 0 where
  pub just : (page : ℕ) → lookup (nat_eq page) v.session.overlay ≡ logged d.records page
  pub in_order : Rising (map (λ (row : PageRow). row.0) v.session.overlay)
  pub pages : AllByRecursion (λ (row : PageRow). (row.0 ≡ catalog_no) ⊎ Contains (file_pages d.volume) row.0) v.session.overlay
  pub log : v.session.log ≡ record { geometry = d.geometry; end = log_end d.records; count = length d.records }

-- What the machine and the session both have; the session is not down.
pub record Shared (v : View Held) : Type 0 where
  pub geometry : v.machine.geometry ≡ v.session.geometry
  pub notes : v.machine.notes ≡ v.session.notes
  pub names : v.machine.names ≡ v.session.names
  pub group_rows : v.machine.groups ≡ v.session.group_rows
  pub open_txn : is_some v.machine.working ≡ v.session.opened
  pub up : v.session.down ≡ false

-- The session of the view shows the volume on its disk; a crash now may leave these images.
pub record Shows (may_leave : List ℕ → Type 0) (v : View Held) : Type 0 where
  pub decoded : Decoded
  pub working : Volume
  pub rules : IsMachine v.machine
  pub shared : Shared v
  pub parts : Decodes v.disk decoded
  pub geometry : v.machine.geometry ≡ decoded.geometry
  pub committed : v.machine.committed ≡ table_of (units_of decoded v.disk) decoded.volume
  pub working_shown : WorkingShown decoded v working v.machine.working
  pub scans : AllZip (ScanShown decoded.geometry (home decoded.geometry v.disk)) v.machine.scans v.session.scans
  pub owners : OwnersOf decoded v working
  pub used : UsedShown decoded v working
  pub logged : LoggedShown decoded v working
  pub frames : AllByRecursion (Lends decoded.geometry v.disk) v.session.frames
  pub durable : (image : List ℕ) → may_leave image → Agrees decoded v.disk image
  pub apart : PagesApart decoded v working
  pub overlay : OverlayShown decoded v
