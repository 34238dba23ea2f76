-- Views without an open transaction.
use Rattle.std.proofs.Common.{◌≡◌, ◌∙◌, ◌↔◌, ℕ, true, List, [], ◌∷◌, ◌++◌, length, map, None, refl, sym, ap, subst, ⊎_elim}
use Rattle.std.specs.Prelude.{Contains}
use Rattle.std.specs.List.{AllByRecursion, AllZip, flat_map}
use Rattle.std.proofs.lemmas.List.Elements.{Contains-append_left, Contains-append_right, Contains-append_cases}
use Rattle.ex_base.specs.declared.names.Area.TheVariants.{Page, Segment}
use Rattle.ex_base.specs.Area.{catalog_no}
use Rattle.ex_base.specs.Order.{Rising}
use Rattle.trees.specs.Trees.{root_units}
use Rattle.table_model.specs.declared.machine.Machine.{Machine}
use Rattle.table_model.specs.Machines.{IsMachine}
use Rattle.session_views.specs.View.{View}
use Rattle.volume_model.specs.Committed.{Committed, IsOverlayOf}
use Rattle.volume_model.specs.Homes.{home}
use Rattle.volume_model.specs.OwnersShown.{OwnersOf}
use Rattle.volume_model.specs.Shown.{Held, IsWorkingPage, Lends, OverlayShown, PageRow, ScanShown, Shared, Shows, WorkingRow, WorkingShown, reach_of_view, roots_here, used_in, working_units}
use Rattle.volume_model.specs.TreesShown.{TreesShown}
use Rattle.volume_model.specs.Volume.{Decoded, file_pages, reach_of, table_of, units_of}
use Rattle.volume_model.proofs.ExactView.{exact_shown, no_page_shown}
use Rattle.volume_model.proofs.Showing.{view_of}

-- ---- lists

pub in_first : (a b c : List ℕ) (u : ℕ) → Contains a u → Contains (a ++ b ++ c) u
in_first a b c u h = Contains-append_left (a ++ b) c u (Contains-append_left a b u h)

pub in_second : (a b c : List ℕ) (u : ℕ) → Contains b u → Contains (a ++ b ++ c) u
in_second a b c u h = Contains-append_left (a ++ b) c u (Contains-append_right a b u h)

-- with the same reach twice, before that of the scans
pub once : (xs scans : List ℕ) (u : ℕ) → Contains (xs ++ xs ++ scans) u → Contains (xs ++ scans) u
once xs scans u has = ⊎_elim
    (λ both. Contains-append_left xs scans u (⊎_elim (λ here. here) (λ here. here) (Contains-append_cases xs xs u both)))
    (λ behind. Contains-append_right xs scans u behind) (Contains-append_cases (xs ++ xs) scans u has)

pub twice : (xs scans : List ℕ) (u : ℕ) → Contains (xs ++ scans) u → Contains (xs ++ xs ++ scans) u
twice xs scans u has = ⊎_elim (λ here. in_first xs xs scans u here) (λ behind. Contains-append_right (xs ++ xs) scans u behind) (Contains-append_cases xs scans u has)

-- ---- a view without a transaction

-- A disk decodes so, a session and a machine have no open transaction over it, and each unit of a tree has as many references as owners.
pub record AtRest (may_leave : List ℕ → Type 0) (d : Decoded) (m : Machine) (s : Held) (disk : List ℕ) : Type 0 where
  pub committed : Committed may_leave d disk s.log s.overlay
  pub in_order : Rising (map (λ (row : PageRow). row.0) s.overlay)
  pub of_files : IsOverlayOf d.volume s.overlay
  pub table : m.committed ≡ table_of (units_of d disk) d.volume
  pub geometry : m.geometry ≡ d.geometry
  pub rules : IsMachine m
  pub shared : Shared (view_of m s disk)
  pub closed : m.working ≡ None
  pub untouched : m.touched ≡ 0
  pub no_pages : s.working_pages ≡ []
  pub pages : m.pages_used ≡ used_in d.geometry s.used Page
  pub segs : m.segs_used ≡ used_in d.geometry s.used Segment
  pub scans : AllZip (ScanShown d.geometry (home d.geometry disk)) m.scans s.scans
  pub owners : OwnersOf d (view_of m s disk) d.volume
  pub held : (page : ℕ) → (s.held page ≡ true) ↔ Contains (catalog_no ∷ file_pages d.volume) page
  pub kept : (page : ℕ) → (s.kept page ≡ true) ↔ Contains (catalog_no ∷ file_pages d.volume) page
  pub frames : AllByRecursion (Lends d.geometry disk) s.frames

module _ {may_leave : List ℕ → Type 0} (d : Decoded) (m : Machine) (s : Held) (disk : List ℕ) (rests : AtRest may_leave d m s disk) where
  abbrev resting : View Held
  resting = view_of m s disk

  images_there : AllByRecursion (IsWorkingPage d.volume) s.working_pages
  images_there = subst (λ (rows : List WorkingRow). AllByRecursion (IsWorkingPage d.volume) rows) (sym rests.no_pages) tt

  overlay_there : OverlayShown d resting
  overlay_there = record { just = rests.committed.shown.just; in_order = rests.in_order; pages = rests.of_files; log = rests.committed.shown.log_is }

  working_there : WorkingShown d resting d.volume m.working
  working_there = subst (λ o. WorkingShown d resting d.volume o) (sym rests.closed) (rests.no_pages, refl)

  trees_there : TreesShown d resting d.volume
  trees_there = record { parts = rests.committed.parts; working_shown = working_there; scans = rests.scans; overlay = overlay_there; images = images_there }

  -- It shows.
  pub rests_shown : Shows may_leave resting
  rests_shown = record {
    decoded = d;
    working = d.volume;
    rules = rests.rules;
    shared = rests.shared;
    parts = rests.committed.parts;
    geometry = rests.geometry;
    committed = rests.table;
    working_shown = working_there;
    scans = rests.scans;
    owners = rests.owners;
    used = record {
      reached = exact_shown d resting d.volume rests.owners trees_there;
      pages = rests.pages;
      segs = rests.segs;
      touched = rests.untouched ∙ ap (λ (rows : List WorkingRow). length rows) (sym rests.no_pages);
    };
    logged = record { held = rests.held; kept = rests.kept };
    frames = rests.frames;
    durable = rests.committed.durable;
    apart = record {
      no_tree = no_page_shown d resting d.volume rests.owners trees_there;
      in_order = subst (λ (rows : List WorkingRow). Rising (map (λ (row : WorkingRow). row.0) rows)) (sym rests.no_pages) tt;
      images = images_there;
      left = λ some page has none. absurd (none has);
    };
    overlay = overlay_there;
  }

  -- In use are exactly the units that its volume and the open scans reach.
  pub exact_at_rest : (unit : ℕ) → (s.used unit ≡ true) ↔ Contains (reach_of (units_of d disk) d.volume ++ flat_map (root_units (home d.geometry disk)) (roots_here s.scans)) unit
  exact_at_rest unit =
      let R = reach_of (units_of d disk) d.volume in
      let scanned = flat_map (root_units (home d.geometry disk)) (roots_here s.scans) in
      let reach : reach_of_view d resting d.volume ≡ R ++ R ++ scanned = ap (λ (rows : List WorkingRow). R ++ reach_of (working_units d disk rows) d.volume ++ scanned) rests.no_pages in
      let exact = exact_shown d resting d.volume rests.owners trees_there unit in (
        λ yes. once R scanned unit (subst (λ (us : List ℕ). Contains us unit) reach (exact.0 yes)),
        λ has. exact.1 (subst (λ (us : List ℕ). Contains us unit) (sym reach) (twice R scanned unit has)),
      )

-- the committed side of a view that shows
pub committed_side : {may_leave fewer : List ℕ → Type 0} {v : View Held} (shows : Shows may_leave v) → ((d : List ℕ) → fewer d → may_leave d) → Committed fewer shows.decoded v.disk v.session.log v.session.overlay
committed_side shows inside = record { parts = shows.parts; durable = λ image left. shows.durable image (inside image left); shown = record { just = shows.overlay.just; log_is = shows.overlay.log } }
