-- When the view of a session goes on showing its volume.
use Rattle.std.proofs.Common.{◌≡◌, ◌∙◌, ◌⊎◌, ◌↔◌, ℕ, ◌+◌, Bool, true, cond, ltb, List, ◌∷◌, ◌++◌, length, map, Some, None, nat_eq, sym, ap, subst, arith}
use Rattle.std.specs.Prelude.{Contains, IsSome}
use Rattle.std.specs.List.{AllByRecursion, AllZip, flat_map}
use Rattle.std.specs.Map.{lookup}
use Rattle.std.proofs.lemmas.Bool.Decides.{nat_tests}
use Rattle.std.proofs.lemmas.Bool.{cond-true}
use Rattle.ex_base.specs.declared.geometry.Geometry.{Geometry}
use Rattle.ex_base.specs.declared.names.Area.TheVariants.{Page, Segment}
use Rattle.table_model.specs.declared.machine.ScanRow.{ScanRow}
use Rattle.volume_model.specs.Shown.{HeldScan}
use Rattle.ex_base.specs.Area.{catalog_no, area_end}
use Rattle.ex_base.specs.Order.{Rising}
use Rattle.object_files.specs.Catalog.{CatalogOf}
use Rattle.table_model.specs.declared.machine.Machine.{Machine}
use Rattle.table_model.specs.Machines.{IsMachine, shown}
use Rattle.session_views.specs.View.{View}
use Rattle.volume_model.specs.Parts.{IsLastOf}
use Rattle.ex_base.specs.declared.names.Root.{Root}
use Rattle.ex_base.specs.Ports.{times}
use Rattle.volume_model.proofs.ExactView.{exact_shown, no_page_shown}
use Rattle.volume_model.specs.Homes.{home}
use Rattle.volume_model.specs.OwnersShown.{OwnersOf, OwnersShown, roots_held}
use Rattle.volume_model.specs.Shown.{Held, Shows, Shared, WorkingRow, WorkingShown, OverlayShown, PageRow, ScanShown, used_in, IsWorkingPage, Lends, roots_here, working_units}
use Rattle.volume_model.specs.TreesShown.{TreesShown}
use Rattle.volume_model.specs.Volume.{Volume, Decoded, table_of, file_pages, roots_in, stored_in}
use Rattle.trees.specs.Owners.{IsOwned, root_pages}
use Rattle.trees.specs.Trees.{Units, root_units}
use Rattle.volume_model.proofs.Volumes.{shown_parts, shown_table}

-- ---- the catalog that a view shows

-- the catalog's page lies in the page area
pub page_unit : (g : Geometry) (f : ℕ → List ℕ) (leaf : List ℕ) → cond (ltb catalog_no (area_end g)) (f catalog_no) leaf ≡ f catalog_no
page_unit g f leaf = cond-true (ltb catalog_no (area_end g)) (f catalog_no) leaf (let some = g.some_pages in grind (arith, nat_tests))

-- what it shows: the catalog, and the table of its volume
pub record ShowsCatalog (d : Decoded) (v : View Held) (working : Volume) : Type 0 where
  pub catalog : CatalogOf (working_units d v.disk v.session.working_pages catalog_no) working.catalog
  pub last : IsLastOf d.records working.catalog.last
  pub table : shown v.machine ≡ table_of (working_units d v.disk v.session.working_pages) working

pub shows_catalog : {may_leave : List ℕ → Type 0} {v : View Held} (shows : Shows may_leave v) → ShowsCatalog shows.decoded v shows.working
shows_catalog {may_leave} {v} shows = let parts = shown_parts shows in record { catalog = parts.0.0; last = parts.0.1; table = shown_table shows }

pub session_geometry : {may_leave : List ℕ → Type 0} {v : View Held} (shows : Shows may_leave v) → v.session.geometry ≡ shows.decoded.geometry
session_geometry {may_leave} {v} shows = sym shows.shared.geometry ∙ shows.geometry

-- ---- a view after a step that writes nothing

-- what such a step leaves of the machine and of the session
pub record KeepsVolume (v : View Held) (m : Machine) (s : Held) : Type 0 where
  pub geometry : m.geometry ≡ v.machine.geometry
  pub committed : m.committed ≡ v.machine.committed
  pub machine_scans : m.scans ≡ v.machine.scans
  pub pages : m.pages_used ≡ v.machine.pages_used
  pub segs : m.segs_used ≡ v.machine.segs_used
  pub scans : s.scans ≡ v.session.scans
  pub used : s.used ≡ v.session.used
  pub refs : s.refs ≡ v.session.refs
  pub gained : s.gained ≡ v.session.gained
  pub lost : s.lost ≡ v.session.lost
  pub held : s.held ≡ v.session.held
  pub kept : s.kept ≡ v.session.kept
  pub overlay : s.overlay ≡ v.session.overlay
  pub log : s.log ≡ v.session.log

-- the units of the trees of a volume
abbrev pub trees_in : Units → Volume → List ℕ
trees_in units v = flat_map (root_units units) (roots_in (stored_in v))

-- the working pages after it, and the working volume that they are: the files have the pages that they had, and the records the roots
pub record WorksAs (d : Decoded) (v : View Held) (was new : Volume) : Type 0 where
  pub working : WorkingShown d v new v.machine.working
  pub touched : v.machine.touched ≡ length v.session.working_pages
  pub in_order : Rising (map (λ (row : WorkingRow). row.0) v.session.working_pages)
  pub images : AllByRecursion (IsWorkingPage new) v.session.working_pages
  pub pages : file_pages new ≡ file_pages was
  pub roots : roots_in (stored_in new) ≡ roots_in (stored_in was)
  pub left : IsSome v.machine.working → (page : ℕ) → Contains (file_pages d.volume) page → (¬ Contains (file_pages was) page) → lookup (nat_eq page) v.session.working_pages ≡ Some None

abbrev pub view_of : Machine → Held → List ℕ → View Held
view_of m s disk = record { machine = m; session = s; disk = disk }

-- the owners over a working volume with the same pages and roots
owners_works : (d : Decoded) (used : ℕ → Bool) (refs : ℕ → ℕ) (gained lost scans : List Root) (disk : List ℕ) (was new : Volume) → file_pages new ≡ file_pages was → roots_in (stored_in new) ≡ roots_in (stored_in was)
    → OwnersShown d used refs gained lost scans disk was → OwnersShown d used refs gained lost scans disk new
owners_works d used refs gained lost scans disk was new pages roots owners = record {
  owned = subst (λ (files : List ℕ). IsOwned d.geometry (home d.geometry disk) used refs (catalog_no ∷ file_pages d.volume ++ files) (root_pages (roots_held d gained scans))) (sym pages) owners.owned;
  turned = λ page. ap (λ (rs : List Root). times page (root_pages rs) + times page (root_pages lost)) roots ∙ owners.turned page;
  was_committed = owners.was_committed;
  gained_whole = owners.gained_whole;
  lost_whole = owners.lost_whole;
}

-- those of a view that has the owners of another, on the same disk
owners_kept : (d : Decoded) (v : View Held) (m : Machine) (s : Held) (was new : Volume) → KeepsVolume v m s → file_pages new ≡ file_pages was → roots_in (stored_in new) ≡ roots_in (stored_in was) → OwnersOf d v was → OwnersOf d (view_of m s v.disk) new
owners_kept d v m s was new keeps pages roots owners =
    subst (λ (f : ℕ → Bool). OwnersShown d f s.refs s.gained s.lost (roots_here s.scans) v.disk new) (sym keeps.used)
    (subst (λ (f : ℕ → ℕ). OwnersShown d v.session.used f s.gained s.lost (roots_here s.scans) v.disk new) (sym keeps.refs)
    (subst (λ (rs : List Root). OwnersShown d v.session.used v.session.refs rs s.lost (roots_here s.scans) v.disk new) (sym keeps.gained)
    (subst (λ (rs : List Root). OwnersShown d v.session.used v.session.refs v.session.gained rs (roots_here s.scans) v.disk new) (sym keeps.lost)
    (subst (λ (scans : List HeldScan). OwnersShown d v.session.used v.session.refs v.session.gained v.session.lost (roots_here scans) v.disk new) (sym keeps.scans)
    (owners_works d v.session.used v.session.refs v.session.gained v.session.lost (roots_here v.session.scans) v.disk was new pages roots owners)))))

pub shows_after : {may_leave fewer : List ℕ → Type 0} {v : View Held} (m : Machine) (s : Held) (new : Volume) (shows : Shows may_leave v) → ((d : List ℕ) → fewer d → may_leave d)
    → KeepsVolume v m s → Shared (view_of m s v.disk) → IsMachine m → AllByRecursion (Lends shows.decoded.geometry v.disk) s.frames → WorksAs shows.decoded (view_of m s v.disk) shows.working new
    → Shows fewer (view_of m s v.disk)
shows_after {may_leave} {fewer} {v} m s new shows inside keeps shared rules frames works =
    let d = shows.decoded in
    let files = works.pages in
    let owners = owners_kept d v m s shows.working new keeps works.pages works.roots shows.owners in
    let scans = subst (λ (rows : List ScanRow). AllZip (ScanShown d.geometry (home d.geometry v.disk)) rows s.scans) (sym keeps.machine_scans)
    (subst (λ (scans : List HeldScan). AllZip (ScanShown d.geometry (home d.geometry v.disk)) v.machine.scans scans) (sym keeps.scans) shows.scans) in
    let overlay : OverlayShown d (view_of m s v.disk) = record {
      just = λ page. ap (λ (rows : List PageRow). lookup (nat_eq page) rows) keeps.overlay ∙ shows.overlay.just page;
      in_order = subst (λ (rows : List PageRow). Rising (map (λ (row : PageRow). row.0) rows)) (sym keeps.overlay) shows.overlay.in_order;
      pages = subst (λ (rows : List PageRow). AllByRecursion (λ (row : PageRow). (row.0 ≡ catalog_no) ⊎ Contains (file_pages d.volume) row.0) rows) (sym keeps.overlay) shows.overlay.pages;
      log = keeps.log ∙ shows.overlay.log;
    } in
    let trees : TreesShown d (view_of m s v.disk) new = record { parts = shows.parts; working_shown = works.working; scans = scans; overlay = overlay; images = works.images } in
    record {
      decoded = d;
      working = new;
      rules = rules;
      shared = shared;
      parts = shows.parts;
      geometry = keeps.geometry ∙ shows.geometry;
      committed = keeps.committed ∙ shows.committed;
      working_shown = works.working;
      scans = scans;
      owners = owners;
      used = record {
        reached = exact_shown d (view_of m s v.disk) new owners trees;
        pages = keeps.pages ∙ shows.used.pages ∙ ap (λ (f : ℕ → Bool). used_in d.geometry f Page) (sym keeps.used);
        segs = keeps.segs ∙ shows.used.segs ∙ ap (λ (f : ℕ → Bool). used_in d.geometry f Segment) (sym keeps.used);
        touched = works.touched;
      };
      logged = record {
        held = λ page.
            subst (λ (f : ℕ → Bool). (f page ≡ true) ↔ Contains (catalog_no ∷ file_pages new) page) (sym keeps.held)
            (subst (λ (pages : List ℕ). (v.session.held page ≡ true) ↔ Contains (catalog_no ∷ pages) page) (sym files) (shows.logged.held page));
        kept = λ page. subst (λ (f : ℕ → Bool). (f page ≡ true) ↔ Contains (catalog_no ∷ file_pages d.volume) page) (sym keeps.kept) (shows.logged.kept page);
      };
      frames = frames;
      durable = λ image left. shows.durable image (inside image left);
      apart = record {
        no_tree = no_page_shown d (view_of m s v.disk) new owners trees;
        in_order = works.in_order;
        images = works.images;
        left = λ some page has none. works.left some page has (λ there. none (subst (λ (pages : List ℕ). Contains pages page) (sym files) there));
      };
      overlay = overlay;
    }
