-- A port over the parts of a session that shows has the volume that the session shows.
use Rattle.std.proofs.Common.{◌≡◌, ◌∙◌, ◌⊎◌, ℕ, ◌≤◌, Bool, true, false, List, ◌∷◌, Option, Some, None, nat_eq, sym, ap, subst, inl, inr}
use Rattle.std.specs.Prelude.{Contains, ◌↔◌, unwrap_or}
use Rattle.std.specs.Map.{lookup}
use Rattle.std.proofs.lemmas.Bool.{both_ways, lt-ltb}
use Rattle.ex_base.specs.declared.ground.Ground as ground
use Rattle.ex_base.specs.declared.geometry.Geometry.{Geometry}
use Rattle.ex_base.specs.Area.{InPageArea, catalog_no, area_end, page_at}
use Rattle.ex_base.proofs.Each.{each_from}
use Rattle.ex_base.proofs.Members.{contains_later}
use Rattle.op_log.specs.AfterLog.{logged}
use Rattle.meta_pages.specs.Overlays.{Overlays, image_at}
use Rattle.disk_model.specs.Outside.{Outside}
use Rattle.trees.specs.Trees.{Units}
use Rattle.tree_store.specs.Stored.{unit_bytes}
use Rattle.table_model.specs.Machines.{shown}
use Rattle.session_views.specs.View.{View, ShowsNow}
use Rattle.commits.proofs.Reached.{reach_behind, without_last}
use Rattle.volume_model.specs.SameVolume.{kept_from_reach, parts_kept, table_kept, IsKept}
use Rattle.volume_model.specs.Shown.{working_units}
use Rattle.volume_model.specs.Volume.{Decoded, Volume, file_pages, reach_of, table_of}
use Rattle.volume_edits.specs.Ported.{ShowsVolume, units_in, IsApart}
use Rattle.volume_port.specs.Logged.{is_held}
use Rattle.volume_port.specs.Ported.{image_over}
use Rattle.volume_port.proofs.WorkingUnits.{contains_here, found_row, image_is, no_image, page_bytes, same_unit, units_over}
use Rattle.volume_model.proofs.Showing.{session_geometry}
use Rattle.session_core.specs.Sessions.{SessionState, IsTracked, is_kept}
use Rattle.session_core.specs.Finding.{IsPortOf, held_image}
use Rattle.session_core.specs.Meant.{meant, held_view}
use Rattle.volume_model.proofs.Volumes.{Parts, shown_parts, shown_table}

-- ---- the volume

module _ {S : Type 0} (g : ground.Ghosts S) (s : S) {w : Outside} {v : View SessionState} (now : ShowsNow meant w v) (port : IsPortOf g s v.session w.disk) where
  abbrev d : Decoded
  d = now.shows.decoded

  abbrev working : Volume
  working = now.shows.working

  abbrev meta : Overlays
  meta = v.session.meta

  geometry_is : v.session.geometry ≡ d.geometry
  geometry_is = session_geometry now.shows

  abbrev over_disk : Geometry → Units
  over_disk geometry = unit_bytes geometry (Some v.disk)

  unit_is : g.unit s ≡ over_disk d.geometry
  unit_is = port.unit ∙ ap (λ (o : Option (List ℕ)). unit_bytes v.session.geometry o) now.holds ∙ ap over_disk geometry_is

  image_over_is : g.image s ≡ image_over d.geometry meta (over_disk d.geometry)
  image_over_is =
      port.image ∙ ap (λ (o : Option (List ℕ)). image_over v.session.geometry meta (unit_bytes v.session.geometry o)) now.holds
      ∙ ap (λ (geometry : Geometry). image_over geometry meta (over_disk geometry)) geometry_is

  port_geometry : g.geometry s ≡ d.geometry
  port_geometry = port.geometry ∙ geometry_is

  units_are : (u : ℕ) → units_in g s u ≡ units_over d.geometry (image_over d.geometry meta (over_disk d.geometry)) (over_disk d.geometry) u
  units_are u =
      ap (λ (geometry : Geometry). units_over geometry (g.image s) (g.unit s) u) port_geometry
      ∙ ap (λ (image : ℕ → List ℕ). units_over d.geometry image (g.unit s) u) image_over_is
      ∙ ap (λ (unit : ℕ → List ℕ). units_over d.geometry (image_over d.geometry meta (over_disk d.geometry)) unit u) unit_is

  pub unit_same : (u : ℕ) → catalog_no ≤ u → units_in g s u ≡ working_units d v.disk meta.working u
  unit_same u from = units_are u ∙ same_unit d v.disk meta now.shows.overlay.just u from

  whole : Parts d.geometry d.records (working_units d v.disk meta.working) working
  whole = shown_parts now.shows

  pub volume_kept : IsKept (working_units d v.disk meta.working) (units_in g s) working
  volume_kept =
      kept_from_reach (working_units d v.disk meta.working) (units_in g s) working
      (each_from (λ u. units_in g s u ≡ working_units d v.disk meta.working u) (reach_of (working_units d v.disk meta.working) working)
      (λ u reached. unit_same u (reach_behind d.geometry (working_units d v.disk meta.working) working u (without_last d.geometry d.records (working_units d v.disk meta.working) working whole) reached)))

  pub volume_parts : Parts (g.geometry s) d.records (units_in g s) working
  volume_parts = subst (λ (geometry : Geometry). Parts geometry d.records (units_in g s) working) (sym port_geometry) (parts_kept d.geometry d.records (working_units d v.disk meta.working) (units_in g s) working volume_kept whole)

  -- its table is the one that the view shows
  pub table_is : shown v.machine ≡ table_of (units_in g s) working
  table_is = shown_table now.shows ∙ sym (table_kept (working_units d v.disk meta.working) (units_in g s) working volume_kept)

  pub held_is : (page : ℕ) → (g.held s page ≡ true) ↔ Contains (catalog_no ∷ file_pages working) page
  held_is page = subst (λ (f : ℕ → Bool). (f page ≡ true) ↔ Contains (catalog_no ∷ file_pages working) page) (sym port.held) (now.shows.logged.held page)

  module _ (tracked : IsTracked v.session.geometry meta.working v.session.pages v.session.kept) where
    pub kept_page : (page : ℕ) (image : List ℕ) → lookup (nat_eq page) meta.committed ≡ Some image → is_kept v.session.kept page ≡ true
    kept_page page image is =
        (now.shows.logged.kept page).1 (in_pages_of (found_row (λ (p : ℕ). (p ≡ catalog_no) ⊎ Contains (file_pages d.volume) p) meta.committed page image now.shows.overlay.pages is))
      where
        in_pages_of : (page ≡ catalog_no) ⊎ Contains (file_pages d.volume) page → Contains (catalog_no ∷ file_pages d.volume) page
        in_pages_of (inl same) = contains_here catalog_no (file_pages d.volume) page same
        in_pages_of (inr there) = contains_later catalog_no page (file_pages d.volume) there

    nothing_over : (page : ℕ) → is_held v.session.pages page ≡ false → image_at meta page ≡ None
    nothing_over page off = no_image (lookup (nat_eq page) meta.working) (lookup (nat_eq page) meta.committed)
        (λ image row. both_ways _ off (tracked.images page image row))
        (λ image row. known_away page (tracked.known page (kept_page page image row)) off)
      where
        known_away : (page : ℕ) → (is_held v.session.pages page ≡ true) ⊎ (lookup (nat_eq page) meta.working ≡ Some None) → is_held v.session.pages page ≡ false → lookup (nat_eq page) meta.working ≡ Some None
        known_away page (inl there) off = absurd (both_ways _ off there)
        known_away page (inr gone) off = gone

    pub apart_is : IsApart g s
    apart_is page area off =
        let lies : InPageArea d.geometry page = subst (λ (geometry : Geometry). InPageArea geometry page) port_geometry area in
        ap (λ (f : ℕ → List ℕ). f page) image_over_is
        ∙ image_is d.geometry meta (over_disk d.geometry) page lies
        ∙ ap (λ (o : Option (List ℕ)). unwrap_or o (over_disk d.geometry page)) (nothing_over page (sym (ap (λ (f : ℕ → Bool). f page) port.held) ∙ off))
        ∙ sym (ap (λ (f : ℕ → List ℕ). f page) unit_is)

    pub shows_volume : ShowsVolume g s d.records working
    shows_volume = record { parts = volume_parts; held = held_is; apart = apart_is }

  -- the images of pages are those that the session has
  pub image_shown : (page : ℕ) → InPageArea (g.geometry s) page → g.image s page ≡ held_image (held_view v).session v.disk page
  image_shown page area =
      let lies : InPageArea d.geometry page = subst (λ (geometry : Geometry). InPageArea geometry page) port_geometry area in
      ap (λ (f : ℕ → List ℕ). f page) image_over_is
      ∙ image_is d.geometry meta (over_disk d.geometry) page lies
      ∙ ap (λ (bytes : List ℕ). unwrap_or (image_at meta page) bytes) (page_bytes d.geometry v.disk page (lt-ltb page (area_end d.geometry) lies.1))
      ∙ ap (λ (geometry : Geometry). unwrap_or (image_at meta page) (page_at geometry v.disk page)) (sym geometry_is)
