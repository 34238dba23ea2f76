-- A volume over units that are the same but for the catalog's page: its files, its records and its trees stay.
use Rattle.std.proofs.Common.{◌≡◌, ◌≢◌, ℕ, List, [], ◌∷◌, sym, subst, arith}
use Rattle.std.specs.Prelude.{Contains}
use Rattle.std.specs.List.{flat_map, AllByRecursion, AllZip}
use Rattle.ex_base.specs.declared.geometry.Geometry.{Geometry}
use Rattle.ex_base.specs.declared.names.Root.{Root}
use Rattle.ex_base.specs.Area.{catalog_no}
use Rattle.op_log.specs.declared.record.LogRecord.{LogRecord}
use Rattle.file_index.specs.Index.{IsFilesPage, keys_of, pages_of}
use Rattle.file_index.proofs.Heights.{keys_of_pages, index_of_pages}
use Rattle.object_files.specs.Catalog.{FileEntry}
use Rattle.trees.specs.Trees.{Units, root_units, RootNamed}
use Rattle.trees.proofs.SameUnits.{Kept}
use Rattle.ex_base.proofs.Each.{each_as, each_parted, each_with, flat_same, zip_as}
use Rattle.session_views.specs.declared.Part.{Part}
use Rattle.session_views.specs.declared.Part.TheVariants.{File, Page, Body, Node, Balance, Unique}
use Rattle.volume_model.proofs.Kept.{RootKept, RootsKept, StoredKept, balance_kept, files_same, named_root, objects_kept, roots_of_stored, units_of_root}
use Rattle.volume_model.specs.Parts.{HasIndex, HasPages, HasNodes, HasBalance, HoldsOf}
use Rattle.volume_model.specs.Links.{Apart}
use Rattle.volume_model.specs.SameVolume.{index_kept, pages_kept}
use Rattle.volume_model.specs.Volume.{FileContent, Volume, stored_in, file_pages, roots_in, table_of}

-- the parts behind the catalog's
abbrev pub other_parts : List Part
other_parts = File ∷ Page ∷ Body ∷ Node ∷ Balance ∷ Unique ∷ []

abbrev pub Others : Geometry → List LogRecord → Units → Volume → Type 0
Others g records units v = AllByRecursion (HoldsOf g records units v) other_parts

-- ---- lists

zip_with : {A B : Type 0} (K P R : A → B → Type 0) (xs : List A) (ys : List B) → ((x : A) (y : B) → K x y → P x y → R x y) → AllZip K xs ys → AllZip P xs ys → AllZip R xs ys
zip_with K P R [] [] f k p = tt
zip_with K P R [] (y ∷ ys) f k p = p
zip_with K P R (x ∷ xs) [] f k p = p
zip_with K P R (x ∷ xs) (y ∷ ys) f k p = (f x y k.0 p.0, zip_with K P R xs ys f k.1 p.1)

-- ---- pages behind the catalog

-- units that are the same but for the catalog's page
abbrev pub SameOff : Units → Units → Type 0
SameOff old new = (u : ℕ) → u ≢ catalog_no → new u ≡ old u

abbrev IsOff : ℕ → Type 0
IsOff u = u ≢ catalog_no

kept_off : (old new : Units) (us : List ℕ) → SameOff old new → AllByRecursion IsOff us → Kept old new us
kept_off old new us same off = each_as IsOff (λ u. new u ≡ old u) us (λ u is. same u is) off

abbrev IsBehind : FileContent → Type 0
IsBehind f = AllByRecursion IsOff f.numbers × AllByRecursion IsOff f.index_pages

behind : (g : Geometry) (units : Units) (entry : FileEntry) (f : FileContent) → HasIndex g units entry f → IsBehind f
behind g units entry f h = (
  subst (λ (us : List ℕ). AllByRecursion IsOff us) (sym h.numbers) (each_as (IsFilesPage g) IsOff (keys_of units entry.level entry.root) (λ u is. is.1) (keys_of_pages g entry.file_no units entry.level entry.root h.whole)),
  subst (λ (us : List ℕ). AllByRecursion IsOff us) (sym h.index_pages) (each_as (IsFilesPage g) IsOff (pages_of units entry.level entry.root) (λ u is. is.1) (index_of_pages g entry.file_no units entry.level entry.root h.whole)),
)

tree_off : (us rest : List ℕ) → Apart us (catalog_no ∷ rest) → AllByRecursion IsOff us
tree_off us rest apart = each_as (λ u. ¬ Contains (catalog_no ∷ rest) u) IsOff us (λ u isnt same. isnt (0, omega arith, sym same)) apart

-- ---- the parts

roots_off : (g : Geometry) (old new : Units) (v : Volume) → SameOff old new → HasNodes g old v → RootsKept old new (roots_in (stored_in v))
roots_off g old new v same h =
    each_as (λ (root : Root). Apart (root_units old root) (catalog_no ∷ file_pages v)) (RootKept old new) (roots_in (stored_in v)) (λ root apart. kept_off old new (root_units old root) same (tree_off (root_units old root) (file_pages v) apart)) h.no_file_page

-- the trees have the units that they had
pub trees_kept : (old new : Units) (roots : List Root) → RootsKept old new roots → flat_map (root_units new) roots ≡ flat_map (root_units old) roots
trees_kept old new roots kept = flat_same (root_units old) (root_units new) (RootKept old new) roots (λ root k. units_of_root old new root.height root.page k) kept

nodes_kept : (g : Geometry) (old new : Units) (v : Volume) → RootsKept old new (roots_in (stored_in v)) → HasNodes g old v → HasNodes g new v
nodes_kept g old new v kept h = record {
  named = each_with (RootKept old new) (λ (root : Root). RootNamed g old root.height root.page) (λ (root : Root). RootNamed g new root.height root.page) (roots_in (stored_in v)) (λ root k n. named_root g old new root.height root.page k n) kept h.named;
  no_file_page = each_with (RootKept old new) (λ (root : Root). Apart (root_units old root) (catalog_no ∷ file_pages v)) (λ (root : Root). Apart (root_units new root) (catalog_no ∷ file_pages v)) (roots_in (stored_in v)) (λ root k n. subst (λ (us : List ℕ). Apart us (catalog_no ∷ file_pages v)) (sym (units_of_root old new root.height root.page k)) n) kept h.no_file_page;
  objects = objects_kept old new (stored_in v) (roots_of_stored (RootKept old new) (stored_in v) kept) h.objects;
}

pub others_kept : (g : Geometry) (records later : List LogRecord) (old new : Units) (v : Volume) → SameOff old new → Others g records old v → Others g later new v
others_kept g records later old new v same (file, (page, (body, (node, (balance, (unique, end)))))) =
    let roots = roots_off g old new v same node in
    let off : AllZip (λ (entry : FileEntry). IsBehind) v.catalog.entries v.files = zip_as (HasIndex g old) (λ (entry : FileEntry). IsBehind) v.catalog.entries v.files (λ entry f h. behind g old entry f h) file.0 in (
      (zip_with (λ (entry : FileEntry). IsBehind) (HasIndex g old) (HasIndex g new) v.catalog.entries v.files (λ entry f k h. index_kept g old new entry f (kept_off old new f.index_pages same k.1) h) off file.0, file.1),
      (
        zip_with (λ (entry : FileEntry). IsBehind) (HasPages old) (HasPages new) v.catalog.entries v.files (λ entry f k h. pages_kept old new entry f.numbers f.pages (kept_off old new f.numbers same k.0) h) off page,
        (
          body,
          (
            nodes_kept g old new v roots node,
            (
              each_with (RootKept old new) (HasBalance g old) (HasBalance g new) (roots_in (stored_in v)) (λ root k h. balance_kept g old new root k h) roots balance,
              (unique, tt),
            ),
          ),
        ),
      ),
    )

-- the trees of the volume have the units that they had
pub trees_off : (g : Geometry) (records : List LogRecord) (old new : Units) (v : Volume) → SameOff old new → Others g records old v → flat_map (root_units new) (roots_in (stored_in v)) ≡ flat_map (root_units old) (roots_in (stored_in v))
trees_off g records old new v same (file, (page, (body, (node, rest)))) = trees_kept old new (roots_in (stored_in v)) (roots_off g old new v same node)

-- ---- the table

pub table_off : (g : Geometry) (records : List LogRecord) (old new : Units) (v : Volume) → SameOff old new → Others g records old v → table_of new v ≡ table_of old v
table_off g records old new v same (file, (page, (body, (node, rest)))) =
    let each = each_parted (StoredKept old new) (λ (file : FileContent). file.stored) v.files (roots_of_stored (RootKept old new) (stored_in v) (roots_off g old new v same node)) in
    let files = files_same old new v.catalog.entries v.files each in
    cc files
