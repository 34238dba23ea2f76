-- The table of a volume that a port has keeps the rules of tables.
use Rattle.std.proofs.Common.{◌≡◌, ℕ, ◌*◌, ◌≤◌, List, [], length, drop, Option, Some, None, refl, sym, ap, subst, arith, nat_eq}
use Rattle.std.specs.Prelude.{unwrap_or, nat_lt}
use Rattle.std.specs.Map.{lookup}
use Rattle.std.proofs.lemmas.List.{length-take}
use Rattle.std.proofs.lemmas.Bool.{cond-false, cond-true, le-ltb, lt-ltb}
use Rattle.ex_base.specs.declared.ground.Ground as ground
use Rattle.ex_base.specs.declared.geometry.Geometry.{Geometry}
use Rattle.ex_base.specs.Area.{InPageArea, area_end, catalog_no}
use Rattle.ex_base.specs.Bytes.{part}
use Rattle.ex_base.specs.Sizes.{leaf_bytes}
use Rattle.op_log.specs.declared.record.LogRecord.{LogRecord}
use Rattle.meta_pages.specs.Overlays.{AreRows, Overlays, over}
use Rattle.meta_pages.proofs.Writing.{page_row_len, working_row_len}
use Rattle.trees.proofs.TreeLaws.{AreWhole}
use Rattle.tree_store.specs.Stored.{unit_bytes, unit_len}
use Rattle.tree_store.proofs.Places.{page_len}
use Rattle.table_model.specs.Tables.{IsTable}
use Rattle.volume_edits.specs.Ported.{ShowsVolume, units_in}
use Rattle.volume_model.proofs.RulesOfTable.{table_rules}
use Rattle.volume_model.specs.Volume.{Volume, table_of}
use Rattle.volume_port.specs.Ported.{image_over}
use Rattle.volume_port.proofs.WorkingUnits.{image_is}

-- ---- the catalog's page

part_most : (b : List ℕ) (p n : ℕ) → length (part b p n) ≤ n
unfolding part
part_most b p n = omega (arith, length-take n (drop p b))

module _ (g : Geometry) (meta : Overlays) (rows : AreRows meta) (same : meta.geometry ≡ g) (page : ℕ) where
  size_is : meta.geometry.page_size ≡ g.page_size
  size_is = ap (λ (h : Geometry). h.page_size) same

  shown_most : (home : List ℕ) → length home ≤ g.page_size → (row : Option (Option (List ℕ))) (committed : Option (List ℕ)) → lookup (nat_eq page) meta.working ≡ row → lookup (nat_eq page) meta.committed ≡ committed
      → length (unwrap_or (over row committed) home) ≤ g.page_size
  shown_most home fits None None working kept = fits
  shown_most home fits None (Some image) working kept = omega (arith, page_row_len meta.geometry page meta.committed meta.committed image image g.page_size refl rows.pages (sym kept) refl size_is)
  shown_most home fits (Some None) committed working kept = fits
  shown_most home fits (Some (Some image)) committed working kept = omega (arith, working_row_len meta.geometry page meta.working meta.working image image g.page_size refl rows.working_pages (sym working) refl size_is)

  -- the image of a page of the page area is at most a page
  pub image_most : (disk : Option (List ℕ)) → InPageArea g page → length (image_over g meta (unit_bytes g disk) page) ≤ g.page_size
  image_most disk lies =
      let home = unit_bytes g disk page in
      let fits : length home ≤ g.page_size = omega (arith, part_most (unwrap_or disk []) (page * g.page_size) (unit_len g page), page_len g page lies) in
      subst (λ (bytes : List ℕ). length bytes ≤ g.page_size) (sym (image_is g meta (unit_bytes g disk) page lies))
      (shown_most home fits (lookup (nat_eq page) meta.working) (lookup (nat_eq page) meta.committed) refl refl)

-- ---- the units

module _ {S : Type 0} (g : ground.Ghosts S) (s : S) where
  units_whole : g.ready s → g.tells s → AreWhole (g.geometry s) (units_in g s)
  units_whole ready tells page (j, lt, is) =
      subst (λ (bytes : List ℕ). leaf_bytes (g.geometry s) ≤ length bytes) (sym (cond-false (nat_lt page (area_end (g.geometry s))) (g.image s page) (g.unit s page) (le-ltb page (area_end (g.geometry s)) (omega (arith, is)))))
      (g.whole s ready tells page (j, lt, is))

  pub volume_rules : g.ready s → g.tells s → (records : List LogRecord) (v : Volume) → InPageArea (g.geometry s) catalog_no → length (g.image s catalog_no) ≤ (g.geometry s).page_size → ShowsVolume g s records v
      → IsTable (g.geometry s) (table_of (units_in g s) v)
  volume_rules ready tells records v lies fits shows =
      table_rules (g.geometry s) (units_in g s) (units_whole ready tells) records v
      (subst (λ (bytes : List ℕ). length bytes ≤ (g.geometry s).page_size) (sym (cond-true (nat_lt catalog_no (area_end (g.geometry s))) (g.image s catalog_no) (g.unit s catalog_no) (lt-ltb catalog_no (area_end (g.geometry s)) lies.1))) fits)
      shows.parts
