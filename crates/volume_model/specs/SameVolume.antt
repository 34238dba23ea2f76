-- Units that are kept where a volume reaches decode as the same volume, with the same table.
use Rattle.std.proofs.Common.{◌≡◌, ◌≤◌, ⊎_elim, ℕ, List, [], ◌∷◌, ◌++◌, Option, Some, None, refl, sym, ap, subst, ◌∙◌, arith}
use Rattle.std.specs.Prelude.{map}
use Rattle.std.specs.List.{flat_map, AllByRecursion, AllZip, zip}
use Rattle.ex_base.specs.declared.names.PageNo.{PageNo}
use Rattle.ex_base.specs.declared.names.Root.{Root}
use Rattle.ex_base.specs.declared.geometry.Geometry.{Geometry}
use Rattle.ex_base.specs.Area.{catalog_no}
use Rattle.ex_base.specs.Order.{Rising}
use Rattle.ex_base.specs.Ports.{times}
use Rattle.ex_base.specs.Sizes.{leaf_bytes}
use Rattle.ex_base.proofs.Each.{split_each, each_of, each_parted, each_with, flat_same, map_same, zip_with}
use Rattle.ex_base.proofs.Counts.{same_or_not, times_apart}
use Rattle.op_log.specs.declared.record.LogRecord.{LogRecord}
use Rattle.slotted_pages.specs.FilePage.{FilePage, SlotsOf}
use Rattle.file_index.specs.Index.{IsRoot, IsIndex, keys_of, pages_of}
use Rattle.file_index.proofs.Frame.{same_under}
use Rattle.object_files.specs.Catalog.{FileEntry, CatalogOf}
use Rattle.object_records.specs.Record.{Content, Small, Large}
use Rattle.trees.specs.Shape.{IsBalanced}
use Rattle.trees.specs.Trees.{Units, root_units, RootNamed}
use Rattle.trees.proofs.KeptRoots.{bytes_of_root, named_root, shape_of_root, sized_root}
pub use Rattle.trees.proofs.KeptRoots.{RootKept, units_of_root}
use Rattle.trees.proofs.SameUnits.{Kept}
use Rattle.version_lists.specs.declared.version.Version.{Version}
use Rattle.version_lists.specs.Sorted.{in_order}
use Rattle.version_lists.specs.Versions.{unique_of as number_of}
use Rattle.version_lists.specs.Objects.{objects_formed}
use Rattle.table_model.specs.declared.table.TableFile.{TableFile}
use Rattle.volume_model.specs.Parts.{HasIndex, HasPage, HasPages, HasNodes, HasBalance, HoldsOf, content_parts}
use Rattle.volume_model.specs.Links.{Apart, HasObjects, stored_units}
use Rattle.volume_model.specs.Volume.{Stored, FileContent, Volume, stored_in, pages_of_file, file_pages, root_in, roots_in, reach_of, content_in, version_of, versions_stored, file_of, table_of}

-- ---- roots

pub balance_kept : (g : Geometry) (old new : Units) (root : Root) → RootKept old new root → HasBalance g old root → HasBalance g new root
balance_kept g old new root kept h = record {
  sized = sized_root g old new root.height root.size root.page kept h.sized;
  balanced = subst (IsBalanced g.fan (leaf_bytes g)) (sym (shape_of_root old new root.height root.size root.page kept)) h.balanced;
  limit = h.limit;
}

-- ---- records and versions

abbrev pub RootsKept : Units → Units → List Root → Type 0
RootsKept old new roots = AllByRecursion (RootKept old new) roots

abbrev pub StoredKept : Units → Units → Stored → Type 0
StoredKept old new s = RootsKept old new (root_in s.body.content)

-- the records of trees that are kept
records_kept : (old new : Units) (stored : List Stored) → RootsKept old new (roots_in stored) → AllByRecursion (StoredKept old new) stored
records_kept old new stored kept = each_parted (RootKept old new) (λ (s : Stored). root_in s.body.content) stored kept

pub stored_same : (old new : Units) (s : Stored) → StoredKept old new s → stored_units new s ≡ stored_units old s
stored_same old new s kept = flat_same (root_units old) (root_units new) (RootKept old new) (root_in s.body.content) (λ root k. units_of_root old new root.height root.page k) kept

pub content_same : (old new : Units) (content : Content) → RootsKept old new (root_in content) → content_in new content ≡ content_in old content
content_same old new (Small bytes) kept = refl
content_same old new (Large root) kept = bytes_of_root old new root.height root.size root.page kept.0

pub version_same : (old new : Units) (stored : List Stored) (s : Stored) → StoredKept old new s → version_of new stored s ≡ version_of old stored s
version_same old new stored s kept = let content = content_same old new s.body.content kept in cc content

pub versions_same : (old new : Units) (stored : List Stored) → AllByRecursion (StoredKept old new) stored → versions_stored new stored ≡ versions_stored old stored
versions_same old new stored kept = ap (in_order number_of) (map_same (version_of old stored) (version_of new stored) (StoredKept old new) stored (version_same old new stored) kept)

abbrev pub FileKept : Units → Units → FileContent → Type 0
FileKept old new file = AllByRecursion (StoredKept old new) file.stored

abbrev file_with : FileEntry → List Version → TableFile
file_with entry versions = record { name = entry.name; objects = objects_formed versions }

pub file_same : (old new : Units) (entry : FileEntry) (file : FileContent) → FileKept old new file → file_of new (entry, file) ≡ file_of old (entry, file)
file_same old new entry file kept = ap (file_with entry) (versions_same old new file.stored kept)

pub files_same : (old new : Units) (entries : List FileEntry) (files : List FileContent) → AllByRecursion (FileKept old new) files → map (file_of new) (zip entries files) ≡ map (file_of old) (zip entries files)
files_same old new [] files kept = refl
files_same old new (entry ∷ entries) [] kept = refl
files_same old new (entry ∷ entries) (file ∷ files) kept =
    let here = file_same old new entry file kept.0 in
    let rest = files_same old new entries files kept.1 in
    cc (here, rest)

-- ---- pages of files

kept_each : (old new : Units) (pages : List ℕ) → Kept old new pages → (p : ℕ) → 1 ≤ times p pages → new p ≡ old p
kept_each old new [] kept p some = absurd (omega (arith, some))
kept_each old new (q ∷ pages) kept p some = ⊎_elim
    (λ (same : p ≡ q). subst (λ (u : ℕ). new u ≡ old u) (sym same) kept.0)
    (λ other. kept_each old new pages kept.1 p (omega (arith, some, times_apart p q pages other)))
    (same_or_not p q)

-- What an index names depends on its own pages alone.
pub record SameIndex (g : Geometry) (old new : Units) (file_no level : ℕ) (root : Option PageNo) : Type 0 where
  pub keys : keys_of new level root ≡ keys_of old level root
  pub pages : pages_of new level root ≡ pages_of old level root
  pub whole : IsIndex g old file_no level root → IsIndex g new file_no level root

index_from : (g : Geometry) (old new : Units) (file_no level : ℕ) (root : Option PageNo) → keys_of new level root ≡ keys_of old level root → pages_of new level root ≡ pages_of old level root
    → (IsRoot g file_no old level root → IsRoot g file_no new level root) → SameIndex g old new file_no level root
index_from g old new file_no level root keys pages rooted = record {
  keys = keys;
  pages = pages;
  whole = λ h. record {
    whole = rooted h.whole;
    rising = subst Rising (sym keys) h.rising;
    once = subst (λ (us : List ℕ). (p : ℕ) → times p us ≤ 1) (sym pages) h.once;
  };
}

pub index_same : (g : Geometry) (old new : Units) (file_no level : ℕ) (root : Option PageNo) → Kept old new (pages_of old level root) → SameIndex g old new file_no level root
index_same g old new file_no level None kept = index_from g old new file_no level None refl refl (λ h. h)
index_same g old new file_no level (Some page) kept =
    let same = same_under g file_no old new level page.0 (kept_each old new (pages_of old level (Some page)) kept) in
    index_from g old new file_no level (Some page) same.keys same.pages (same.under None)

pub index_kept : (g : Geometry) (old new : Units) (entry : FileEntry) (file : FileContent) → Kept old new file.index_pages → HasIndex g old entry file → HasIndex g new entry file
index_kept g old new entry file kept h =
    let same = index_same g old new entry.file_no entry.level entry.root (subst (Kept old new) h.index_pages kept) in
    record { whole = same.whole h.whole; numbers = h.numbers ∙ sym same.keys; index_pages = h.index_pages ∙ sym same.pages }

pub pages_kept : (old new : Units) (entry : FileEntry) (numbers : List ℕ) (pages : List FilePage) → Kept old new numbers → AllZip (HasPage old entry) numbers pages → AllZip (HasPage new entry) numbers pages
pages_kept old new entry [] [] kept h = tt
pages_kept old new entry [] (p ∷ pages) kept h = h
pages_kept old new entry (page ∷ numbers) [] kept h = h
pages_kept old new entry (page ∷ numbers) (p ∷ pages) kept h =
    ((subst (λ (bytes : List ℕ). SlotsOf bytes p) (sym kept.0) h.0.0, h.0.1, h.0.2), pages_kept old new entry numbers pages kept.1 h.1)

-- ---- the parts

abbrev pub PagesKept : Units → Units → FileContent → Type 0
PagesKept old new file = Kept old new (pages_of_file file)

pub record IsKept (old new : Units) (v : Volume) : Type 0 where
  pub catalog : new catalog_no ≡ old catalog_no
  pub pages : AllByRecursion (PagesKept old new) v.files
  pub roots : RootsKept old new (roots_in (stored_in v))

pub kept_from_reach : (old new : Units) (v : Volume) → Kept old new (reach_of old v) → IsKept old new v
kept_from_reach old new v h =
    let both = split_each (λ u. new u ≡ old u) (catalog_no ∷ file_pages v) (flat_map (root_units old) (roots_in (stored_in v))) h in
    record {
      catalog = both.0.0;
      pages = each_parted (λ u. new u ≡ old u) pages_of_file v.files both.0.1;
      roots = each_parted (λ u. new u ≡ old u) (root_units old) (roots_in (stored_in v)) both.1;
    }

-- objects keep their labels
pub objects_kept : (old new : Units) (stored : List Stored) → AllByRecursion (StoredKept old new) stored → HasObjects old stored → HasObjects new stored
objects_kept old new stored kept h = record {
  object = h.object;
  joined = h.joined;
  one_first = h.one_first;
  apart = λ s t here there other.
      let first = stored_same old new s (each_of (StoredKept old new) stored s kept here) in
      let second = stored_same old new t (each_of (StoredKept old new) stored t kept there) in
      subst (λ (us : List ℕ). Apart us (stored_units new t)) (sym first) (subst (λ (us : List ℕ). Apart (stored_units old s) us) (sym second) (h.apart s t here there other));
}

nodes_kept : (g : Geometry) (old new : Units) (v : Volume) → IsKept old new v → HasNodes g old v → HasNodes g new v
nodes_kept g old new v kept h = record {
  named = each_with (RootKept old new) (λ (root : Root). RootNamed g old root.height root.page) (λ (root : Root). RootNamed g new root.height root.page) (roots_in (stored_in v)) (λ root k n. named_root g old new root.height root.page k n) kept.roots h.named;
  no_file_page = each_with (RootKept old new) (λ (root : Root). Apart (root_units old root) (catalog_no ∷ file_pages v)) (λ (root : Root). Apart (root_units new root) (catalog_no ∷ file_pages v)) (roots_in (stored_in v)) (λ root k n. subst (λ (us : List ℕ). Apart us (catalog_no ∷ file_pages v)) (sym (units_of_root old new root.height root.page k)) n) kept.roots h.no_file_page;
  objects = objects_kept old new (stored_in v) (records_kept old new (stored_in v) kept.roots) h.objects;
}

pub parts_kept : (g : Geometry) (records : List LogRecord) (old new : Units) (v : Volume) → IsKept old new v → AllByRecursion (HoldsOf g records old v) content_parts → AllByRecursion (HoldsOf g records new v) content_parts
parts_kept g records old new v kept (catalog, (file, (page, (body, (node, (balance, (unique, end))))))) = (
  (subst (λ (bytes : List ℕ). CatalogOf bytes v.catalog) (sym kept.catalog) catalog.0, catalog.1),
  (
    (zip_with (PagesKept old new) (HasIndex g old) (HasIndex g new) v.catalog.entries v.files (λ entry f k h. index_kept g old new entry f (split_each (λ u. new u ≡ old u) f.numbers f.index_pages k).1 h) kept.pages file.0, file.1),
    (
      zip_with (PagesKept old new) (HasPages old) (HasPages new) v.catalog.entries v.files (λ entry f k h. pages_kept old new entry f.numbers f.pages (split_each (λ u. new u ≡ old u) f.numbers f.index_pages k).0 h) kept.pages page,
      (
        body,
        (
          nodes_kept g old new v kept node,
          (
            each_with (RootKept old new) (HasBalance g old) (HasBalance g new) (roots_in (stored_in v)) (λ root k h. balance_kept g old new root k h) kept.roots balance,
            (unique, tt),
          ),
        ),
      ),
    ),
  ),
)

pub table_kept : (old new : Units) (v : Volume) → IsKept old new v → table_of new v ≡ table_of old v
table_kept old new v kept =
    let each = each_parted (StoredKept old new) (λ (file : FileContent). file.stored) v.files (records_kept old new (stored_in v) kept.roots) in
    let files = files_same old new v.catalog.entries v.files each in
    cc files

-- where what a volume reaches is kept, it reaches the same
pub reach_kept : (old new : Units) (v : Volume) → Kept old new (reach_of old v) → reach_of new v ≡ reach_of old v
reach_kept old new v h =
    ap (λ (us : List ℕ). (catalog_no ∷ file_pages v) ++ us)
    (flat_same (root_units old) (root_units new) (RootKept old new) (roots_in (stored_in v)) (λ root k. units_of_root old new root.height root.page k) (kept_from_reach old new v h).roots)
