-- A port over the parts of a volume: at rest it has the volume, and what it has in the working pages is the volume that a commit reads.
use mathlib.Core.Path.{fun_ext}
use Rattle.std.proofs.Common.{◌≡◌, ◌∙◌, ◌≤◌, ℕ, Bool, true, ltb, List, [], ◌∷◌, ◌++◌, Option, Some, None, nat_eq, inl, inr, sym, ap, subst, arith}
use Rattle.std.specs.Prelude.{Contains, ◌↔◌, unwrap_or}
use Rattle.std.specs.List.{AllByRecursion, flat_map}
use Rattle.std.specs.Map.{lookup}
use Rattle.std.proofs.lemmas.Bool.{cases_Bool, cond-false, cond-true}
use Rattle.ex_base.specs.declared.ground.Ground as ground
use Rattle.ex_base.specs.declared.geometry.Geometry.{Geometry}
use Rattle.ex_base.specs.Area.{InPageArea, area_end, catalog_no, leaf_at, page_at}
use Rattle.ex_base.proofs.Each.{each_from, each_of, each_parted, flat_same}
use Rattle.disk_model.specs.Outside.{Outside}
use Rattle.commits.proofs.Reached.{reach_behind, without_last}
use Rattle.meta_pages.specs.Overlays.{image_at, over}
use Rattle.op_log.specs.declared.record.LogRecord.{LogRecord}
use Rattle.op_log.specs.AfterLog.{logged}
use Rattle.page_alloc.specs.UnitSet.{free_count, refs_at, used_at}
use Rattle.trees.specs.Trees.{Units, root_units}
use Rattle.tree_store.specs.Stored.{unit_bytes}
use Rattle.volume_model.specs.FreshView.{OwnsUnits}
use Rattle.volume_model.specs.Homes.{home}
use Rattle.volume_model.specs.Parts.{HoldsOf, content_parts}
use Rattle.volume_model.specs.Links.{stored_units}
use Rattle.volume_model.specs.SameVolume.{IsKept, RootKept, StoredKept, kept_from_reach, parts_kept, stored_same, table_kept, units_of_root}
use Rattle.volume_model.specs.Shown.{WorkingRow, working_units}
use Rattle.volume_model.specs.Volume.{Decoded, Stored, Volume, file_pages, reach_of, root_in, roots_in, stored_in, table_of, units_after, units_of}
use Rattle.volume_edits.specs.Ported.{IsVolume, ShowsVolume, units_in}
use Rattle.volume_port.specs.Logged.{is_held}
use Rattle.volume_port.specs.Ported.{image_over}
use Rattle.volume_port.specs.State.{IsAtRest}
use Rattle.volume_port.specs.declared.state.VolumeState.{VolumeState}
use Rattle.volume_port.proofs.WorkingUnits.{image_is, leaf_bytes_at, page_bytes, same_unit, units_over}

-- ---- units at home

pub home_is : (g : Geometry) (disk : List ℕ) → unit_bytes g (Some disk) ≡ home g disk
home_is g disk = fun_ext (λ u. elim (cases_Bool (ltb u (area_end g))) [
  | inl page ↦ page_bytes g disk u page ∙ sym (cond-true (ltb u (area_end g)) (page_at g disk u) (leaf_at g disk u) page)
  | inr leaf ↦ leaf_bytes_at g disk u leaf ∙ sym (cond-false (ltb u (area_end g)) (page_at g disk u) (leaf_at g disk u) leaf)
])

-- where no record counts, each unit stands at home
pub at_home : (d : Decoded) (disk : List ℕ) → d.records ≡ [] → units_of d disk ≡ home d.geometry disk
at_home d disk none = ap (λ (records : List LogRecord). units_after d.geometry records disk) none

-- ---- a port over the parts of a volume

-- The port has the bytes, images and logged pages of these parts.
pub record IsPortOf {S : Type 0} (g : ground.Ghosts S) (s : S) (w : Outside) (volume : VolumeState) : Type 0 where
  pub geometry : g.geometry s ≡ volume.geometry
  pub unit : g.unit s ≡ unit_bytes volume.geometry w.disk
  pub image : g.image s ≡ image_over volume.geometry volume.meta (unit_bytes volume.geometry w.disk)
  pub held : g.held s ≡ is_held volume.pages

-- And their units in use, with their references.
pub record IsPortWith {S : Type 0} (g : ground.Ghosts S) (s : S) (w : Outside) (volume : VolumeState) : Type 0 where
  pub port : IsPortOf g s w volume
  pub used : g.used s ≡ used_at volume.units
  pub refs : g.refs s ≡ refs_at volume.units
  pub free : g.free s ≡ free_count volume.units.geometry (used_at volume.units)

module _ {S : Type 0} (g : ground.Ghosts S) (s : S) (w : Outside) (volume : VolumeState) (port : IsPortOf g s w volume) (d : Decoded) (disk : List ℕ) (same : d.geometry ≡ volume.geometry) (holds : w.disk ≡ Some disk)
    (just : (page : ℕ) → lookup (nat_eq page) volume.meta.committed ≡ logged d.records page) where
  abbrev W : Units
  W = working_units d disk volume.meta.working

  abbrev P : Units
  P = units_in g s

  abbrev bytes : Option (List ℕ) → ℕ → List ℕ
  bytes held = unit_bytes d.geometry held

  geometry_is : g.geometry s ≡ d.geometry
  geometry_is = port.geometry ∙ sym same

  bytes_are : g.unit s ≡ bytes (Some disk)
  bytes_are = port.unit ∙ ap (λ (x : Geometry). unit_bytes x w.disk) (sym same) ∙ ap bytes holds

  pub home_units : g.unit s ≡ home d.geometry disk
  home_units = bytes_are ∙ home_is d.geometry disk

  images_are : g.image s ≡ image_over d.geometry volume.meta (bytes (Some disk))
  images_are =
      port.image ∙ ap (λ (x : Geometry). image_over x volume.meta (unit_bytes x w.disk)) (sym same)
      ∙ ap (λ (held : Option (List ℕ)). image_over d.geometry volume.meta (bytes held)) holds

  -- behind the log they are the working units
  pub unit_shown : (u : ℕ) → catalog_no ≤ u → P u ≡ W u
  unit_shown u from =
      let sizes : units_over (g.geometry s) (g.image s) (g.unit s) u ≡ units_over d.geometry (g.image s) (g.unit s) u = ap (λ (x : Geometry). units_over x (g.image s) (g.unit s) u) geometry_is in
      let images : units_over d.geometry (g.image s) (g.unit s) u ≡ units_over d.geometry (image_over d.geometry volume.meta (bytes (Some disk))) (g.unit s) u =
      ap (λ (image : ℕ → List ℕ). units_over d.geometry image (g.unit s) u) images_are in
      let homes : units_over d.geometry (image_over d.geometry volume.meta (bytes (Some disk))) (g.unit s) u ≡ units_over d.geometry (image_over d.geometry volume.meta (bytes (Some disk))) (bytes (Some disk)) u =
      ap (λ (unit : ℕ → List ℕ). units_over d.geometry (image_over d.geometry volume.meta (bytes (Some disk))) unit u) bytes_are in
      sizes ∙ images ∙ homes ∙ same_unit d disk volume.meta just u from

  module _ (v : Volume) where
    kept_shown : AllByRecursion (HoldsOf d.geometry [] W v) content_parts → IsKept W P v
    kept_shown parts = kept_from_reach W P v (each_from (λ u. P u ≡ W u) (reach_of W v) (λ u there. unit_shown u (reach_behind d.geometry W v u parts there)))

    pub parts_shown : AllByRecursion (HoldsOf d.geometry [] W v) content_parts → AllByRecursion (HoldsOf (g.geometry s) [] P v) content_parts
    parts_shown parts = subst (λ (x : Geometry). AllByRecursion (HoldsOf x [] P v) content_parts) (sym geometry_is) (parts_kept d.geometry [] W P v (kept_shown parts) parts)

    pub reach_shown : AllByRecursion (HoldsOf d.geometry [] W v) content_parts → reach_of P v ≡ reach_of W v
    reach_shown parts =
        ap (λ (us : List ℕ). (catalog_no ∷ file_pages v) ++ us)
        (flat_same (root_units W) (root_units P) (RootKept W P) (roots_in (stored_in v)) (λ root k. units_of_root W P root.height root.page k) (kept_shown parts).roots)

    pub kept_working : AllByRecursion (HoldsOf (g.geometry s) [] P v) content_parts → IsKept P W v
    kept_working parts = kept_from_reach P W v (each_from (λ u. W u ≡ P u) (reach_of P v) (λ u there. sym (unit_shown u (reach_behind (g.geometry s) P v u parts there))))

    -- what the port has is what a commit reads
    pub parts_working : AllByRecursion (HoldsOf (g.geometry s) [] P v) content_parts → AllByRecursion (HoldsOf d.geometry [] W v) content_parts
    parts_working parts = subst (λ (x : Geometry). AllByRecursion (HoldsOf x [] W v) content_parts) geometry_is (parts_kept (g.geometry s) [] P W v (kept_working parts) parts)

    -- and its trees have the same units
    pub trees_working : AllByRecursion (HoldsOf (g.geometry s) [] P v) content_parts → flat_map (root_units W) (roots_in (stored_in v)) ≡ flat_map (root_units P) (roots_in (stored_in v))
    trees_working parts = flat_same (root_units P) (root_units W) (RootKept P W) (roots_in (stored_in v)) (λ root k. units_of_root P W root.height root.page k) (kept_working parts).roots

    pub table_working : AllByRecursion (HoldsOf (g.geometry s) [] P v) content_parts → table_of W v ≡ table_of P v
    table_working parts = table_kept P W v (kept_working parts)

-- ---- at rest

module _ {S : Type 0} (g : ground.Ghosts S) (s : S) (w : Outside) (volume : VolumeState) (port : IsPortOf g s w volume) (d : Decoded) (disk : List ℕ) (rests : IsAtRest w volume d disk) where
  working_is : working_units d disk volume.meta.working ≡ units_of d disk
  working_is = ap (λ (rows : List WorkingRow). working_units d disk rows) rests.working

  whole : AllByRecursion (HoldsOf d.geometry [] (units_of d disk) d.volume) content_parts
  whole = without_last d.geometry d.records (units_of d disk) d.volume rests.committed.parts.1.1

  whole_working : AllByRecursion (HoldsOf d.geometry [] (working_units d disk volume.meta.working) d.volume) content_parts
  whole_working = subst (λ (units : Units). AllByRecursion (HoldsOf d.geometry [] units d.volume) content_parts) (sym working_is) whole

  no_image : (page : ℕ) → image_at volume.meta page ≡ None
  no_image page =
      ap (λ (rows : List WorkingRow). over (lookup (nat_eq page) rows) (lookup (nat_eq page) volume.meta.committed)) rests.working
      ∙ ap (λ (rows : List (ℕ × List ℕ)). over None (lookup (nat_eq page) rows)) rests.images

  apart_at_rest : (page : ℕ) → InPageArea volume.geometry page → image_over volume.geometry volume.meta (unit_bytes volume.geometry w.disk) page ≡ unit_bytes volume.geometry w.disk page
  apart_at_rest page area =
      image_is volume.geometry volume.meta (unit_bytes volume.geometry w.disk) page area
      ∙ ap (λ (image : Option (List ℕ)). unwrap_or image (unit_bytes volume.geometry w.disk page)) (no_image page)

  pub at_rest : ShowsVolume g s [] d.volume
  at_rest = record {
    parts = parts_shown g s w volume port d disk rests.geometry rests.holds rests.committed.shown.just d.volume whole_working;
    held = λ page. subst (λ (f : ℕ → Bool). (f page ≡ true) ↔ Contains (catalog_no ∷ file_pages d.volume) page) (sym port.held) (rests.knows.pages page);
    apart = λ page area off.
        let lies : InPageArea volume.geometry page = subst (λ (x : Geometry). InPageArea x page) port.geometry area in
        ap (λ (f : ℕ → List ℕ). f page) port.image ∙ apart_at_rest page lies ∙ sym (ap (λ (f : ℕ → List ℕ). f page) port.unit);
  }

  -- the port's own units are those of the volume
  pub units_at_rest : g.unit s ≡ units_of d disk
  units_at_rest = home_units g s w volume port d disk rests.geometry rests.holds rests.committed.shown.just ∙ sym (at_home d disk rests.none)

  pub table_at_rest : table_of (units_in g s) d.volume ≡ table_of (units_of d disk) d.volume
  table_at_rest =
      sym (table_working g s w volume port d disk rests.geometry rests.holds rests.committed.shown.just d.volume at_rest.parts)
      ∙ ap (λ (units : Units). table_of units d.volume) working_is

  pub page_at_rest : units_in g s catalog_no ≡ units_of d disk catalog_no
  page_at_rest =
      unit_shown g s w volume port d disk rests.geometry rests.holds rests.committed.shown.just catalog_no (omega arith)
      ∙ ap (λ (units : Units). units catalog_no) working_is

  -- each record's tree has the same units
  pub stored_at_rest : (x : Stored) → Contains (stored_in d.volume) x → stored_units (units_of d disk) x ≡ stored_units (units_in g s) x
  stored_at_rest x there =
      let kept = kept_working g s w volume port d disk rests.geometry rests.holds rests.committed.shown.just d.volume at_rest.parts in
      let W : Units = working_units d disk volume.meta.working in
      sym (ap (λ (units : Units). stored_units units x) working_is)
      ∙ stored_same (units_in g s) W x (each_of (StoredKept (units_in g s) W) (stored_in d.volume) x (each_parted (RootKept (units_in g s) W) (λ (y : Stored). root_in y.body.content) (stored_in d.volume) kept.roots) there)

  module _ (used : g.used s ≡ used_at volume.units) where
    pub in_use_at_rest : IsVolume g s [] d.volume
    in_use_at_rest = record {
      shows = at_rest;
      used = λ u there.
          let reach : reach_of (units_in g s) d.volume ≡ reach_of (units_of d disk) d.volume =
          reach_shown g s w volume port d disk rests.geometry rests.holds rests.committed.shown.just d.volume whole_working ∙ ap (λ (units : Units). reach_of units d.volume) working_is in
          ap (λ (f : ℕ → Bool). f u) used ∙ (rests.knows.units u).1 (subst (λ (us : List ℕ). Contains us u) reach there);
    }

  pub owned_at_rest : g.used s ≡ used_at volume.units → g.refs s ≡ refs_at volume.units → OwnsUnits (g.geometry s) (g.unit s) d.volume (g.used s) (g.refs s)
  owned_at_rest used refs =
      subst (λ (x : Geometry). OwnsUnits x (g.unit s) d.volume (g.used s) (g.refs s)) (sym (port.geometry ∙ sym rests.geometry))
      (subst (λ (units : Units). OwnsUnits d.geometry units d.volume (g.used s) (g.refs s)) (sym (home_units g s w volume port d disk rests.geometry rests.holds rests.committed.shown.just))
      (subst (λ (f : ℕ → Bool). OwnsUnits d.geometry (home d.geometry disk) d.volume f (g.refs s)) (sym used)
      (subst (λ (f : ℕ → ℕ). OwnsUnits d.geometry (home d.geometry disk) d.volume (used_at volume.units) f) (sym refs) rests.owned)))
