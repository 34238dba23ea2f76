-- A volume with an empty file more.
use Rattle.std.proofs.Common.{◌≡◌, ℕ, ◌<◌, ◌≤◌, List, ◌∷◌, map, refl, sym, ap, subst}
use Rattle.std.specs.List.{AllByRecursion}
use Rattle.ex_base.specs.declared.geometry.Geometry.{Geometry}
use Rattle.ex_base.specs.declared.names.Root.{Root}
use Rattle.ex_base.specs.Area.{catalog_no}
use Rattle.ex_base.specs.Order.{AllDiffer}
use Rattle.ex_base.proofs.Each.{zip_as}
use Rattle.op_log.specs.declared.record.LogRecord.{LogRecord}
use Rattle.object_files.specs.Catalog.{FileEntry}
use Rattle.object_files.specs.Edits.{new_file, entry_inserted, with_entries}
use Rattle.trees.specs.Trees.{Units, RootNamed, root_units}
use Rattle.table_model.specs.Tables.{with_file}
use Rattle.volume_model.specs.Parts.{HasIndex, HasPages, HasBodies, HasBalance}
use Rattle.volume_model.specs.Links.{Apart, HasObjects}
use Rattle.volume_model.specs.Volume.{Stored, FileContent, Volume, stored_in, pages_of_file, file_pages, roots_in, unique_of, table_of}
use Rattle.volume_model.proofs.FilesListed.{each_added, file_added, flat_added, no_bodies, no_index, table_added, zip_added}
use Rattle.volume_model.proofs.KeptOff.{Others}

abbrev pub volume_with : List ℕ → ℕ → Volume → Volume
volume_with name number v = record {
  catalog = with_entries v.catalog (entry_inserted (new_file name number) v.catalog.entries);
  files = file_added (new_file name number) v.catalog.entries v.files;
}

pub pages_with : (name : List ℕ) (number : ℕ) (v : Volume) → file_pages (volume_with name number v) ≡ file_pages v
pages_with name number v = flat_added pages_of_file (new_file name number) v.catalog.entries v.files refl

pub stored_with : (name : List ℕ) (number : ℕ) (v : Volume) → stored_in (volume_with name number v) ≡ stored_in v
stored_with name number v = flat_added (λ (file : FileContent). file.stored) (new_file name number) v.catalog.entries v.files refl

pub others_with : (g : Geometry) (records : List LogRecord) (units : Units) (name : List ℕ) (number : ℕ) (v : Volume) → Others g records units v → Others g records units (volume_with name number v)
others_with g records units name number v (file, (page, (body, (node, (balance, (unique, end)))))) =
    let es = v.catalog.entries in
    let roots = ap roots_in (stored_with name number v) in (
      (zip_added (HasIndex g units) (new_file name number) es v.files (no_index g units name number) file.0, subst AllDiffer (sym (pages_with name number v)) file.1),
      (
        zip_added (HasPages units) (new_file name number) es v.files tt page,
        (
          each_added HasBodies (new_file name number) es v.files no_bodies body,
          (
            record {
              named = subst (λ (rs : List Root). AllByRecursion (λ (root : Root). RootNamed g units root.height root.page) rs) (sym roots) node.named;
              no_file_page =
                  subst (λ (rs : List Root). AllByRecursion (λ (root : Root). Apart (root_units units root) (catalog_no ∷ file_pages (volume_with name number v))) rs) (sym roots)
                  (subst (λ (pages : List ℕ). AllByRecursion (λ (root : Root). Apart (root_units units root) (catalog_no ∷ pages)) (roots_in (stored_in v))) (sym (pages_with name number v)) node.no_file_page);
              objects = subst (HasObjects units) (sym (stored_with name number v)) node.objects;
            },
            (
              subst (λ (rs : List Root). AllByRecursion (HasBalance g units) rs) (sym roots) balance,
              (
                record {
                  differ = subst (λ (ss : List Stored). AllDiffer (map unique_of ss)) (sym (stored_with name number v)) unique.differ;
                  some = subst (λ (ss : List Stored). AllByRecursion (λ (s : Stored). 1 ≤ unique_of s) ss) (sym (stored_with name number v)) unique.some;
                  below = subst (λ (ss : List Stored). AllByRecursion (λ (s : Stored). unique_of s < v.catalog.next_unique) ss) (sym (stored_with name number v)) unique.below;
                },
                tt,
              ),
            ),
          ),
        ),
      ),
    )

pub table_with_file : (g : Geometry) (records : List LogRecord) (units : Units) (name : List ℕ) (number : ℕ) (v : Volume) → Others g records units v → table_of units (volume_with name number v) ≡ with_file name (table_of units v)
table_with_file g records units name number v others =
    let paired = zip_as (HasIndex g units) (λ (e : FileEntry) (f : FileContent). Unit {0}) v.catalog.entries v.files (λ e f index. tt) others.0.0 in
    let files = table_added units name number v.catalog.entries v.files paired in
    cc (files)
