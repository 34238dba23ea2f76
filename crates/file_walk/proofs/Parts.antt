-- What the walk found, as the parts of the files.
use Rattle.std.proofs.Common.{◌≡◌, ◌↔◌, ℕ, Bool, false, eqb, List, [], ◌∷◌, ◌++◌, map, Option, Some, None, IsTrue, refl, sym, ap, subst, ◌∙◌, arith, ◌⊎◌, inl, inr}
use Rattle.std.specs.Prelude.{Contains}
use Rattle.std.specs.List.{flat_map, AllByRecursion, AllZip}
use Rattle.std.proofs.lemmas.List.{map-append}
use Rattle.ex_base.specs.declared.geometry.Geometry.{Geometry}
use Rattle.ex_base.specs.declared.names.Place.{Place}
use Rattle.ex_base.specs.declared.names.PageNo.{PageNo}
use Rattle.ex_base.specs.Area.{catalog_no}
use Rattle.ex_base.specs.Order.{AllDiffer}
use Rattle.ex_base.specs.Ports.{times}
use Rattle.ex_base.proofs.Rows.{each-append}
use Rattle.ex_base.proofs.Counts.{contains_times, differ_once, none_or_some, not_equal, once_differ, same_or_not, times_contains}
use Rattle.ex_base.proofs.Each.{each_as}
use Rattle.page_alloc.specs.UnitSet.{UnitSet, used_at}
use Rattle.file_index.specs.Changes.{count_of}
use Rattle.file_index.specs.Index.{IsFilesPage, IsRoot, keys_of, pages_of}
use Rattle.file_index.proofs.Counts.{count_most, count_is, is_counted}
use Rattle.object_files.specs.Catalog.{FileEntry}
use Rattle.session_views.specs.declared.part.Part.TheVariants.{File, Page, Body}
use Rattle.trees.specs.Trees.{Units}
use Rattle.volume_model.specs.Volume.{FileContent, Stored, pages_of_file}
use Rattle.volume_model.specs.Parts.{HasBodies, HasIndex, HasPages}
use Rattle.file_walk.specs.declared.Found.{Found}
use Rattle.file_walk.specs.declared.WalkedFiles.{WalkedFiles}
use Rattle.file_walk.specs.declared.indexes.FilePages.{FilePages}
use Rattle.file_walk.specs.Walk.{page_numbers, CountsUsed}
use Rattle.file_walk.specs.Indexes.{IsWalked, IsEntryIndex, AreFreeIndexes, walked_pages, pages_named}
use Rattle.file_walk.specs.Objects.{AreObjects, found_of}
use Rattle.file_walk.specs.Parts.{HasFilePart, HasPagePart, HasWalked, IsBadFiles, stored_of}
use Rattle.file_walk.specs.Records.{AddsFiles, AreFilePages, IsGoodFile, IsPageOf, files_rows, rows_among}
use Rattle.file_walk.proofs.Contents.{content, keys_in, content_index, content_pages, content_bodies, has_pages, has_bodies}
use Rattle.file_walk.proofs.Joined.{all_stored, files_apart, joined_files, joined_objects, stored_in}
use Rattle.file_walk.proofs.Levels.{under_may}
use Rattle.file_walk.proofs.Times.{never}

-- the files as they read
abbrev pub contents : Units → List FileEntry → List FileContent
contents images entries = map (content images) entries

-- ---- File

root_may : (g : Geometry) (images : Units) (file_no level : ℕ) (root : Option PageNo) → IsRoot g file_no images level root → AllByRecursion (IsFilesPage g) (keys_of images level root ++ pages_of images level root)
root_may g images file_no level None h = tt
root_may g images file_no level (Some page) h =
    let may = under_may g file_no images level None page.0 h in
    each-append (IsFilesPage g) (keys_of images level (Some page)) (pages_of images level (Some page)) may.0 may.1

entries_may : (g : Geometry) (images : Units) (entries : List FileEntry) → AllByRecursion (IsEntryIndex g images) entries → AllByRecursion (IsFilesPage g) (flat_map (pages_named images) entries)
entries_may g images [] h = tt
entries_may g images (e ∷ entries) h =
    each-append (IsFilesPage g) (pages_named images e) (flat_map (pages_named images) entries) (root_may g images e.file_no e.level e.root h.0.whole) (entries_may g images entries h.1)

index_each : (g : Geometry) (images : Units) (entries : List FileEntry) (files : List FileContent) → AllZip (HasIndex g images) entries files → AllByRecursion (IsEntryIndex g images) entries × (flat_map pages_of_file files ≡ flat_map (pages_named images) entries)
index_each g images [] [] h = (tt, refl)
index_each g images [] (f ∷ files) h = absurd h
index_each g images (e ∷ entries) [] h = absurd h
index_each g images (e ∷ entries) (f ∷ files) h =
    let rest = index_each g images entries files h.1 in
    let same : pages_of_file f ≡ pages_named images e = ap (λ (t : List ℕ). t ++ f.index_pages) h.0.numbers ∙ ap (λ (t : List ℕ). keys_in images e ++ t) h.0.index_pages in (
      (h.0.whole, rest.0),
      ap (λ (t : List ℕ). t ++ flat_map pages_of_file files) same ∙ ap (λ (t : List ℕ). pages_named images e ++ t) rest.1,
    )

-- files with their part are free indexes, where the catalog's page alone is in use
pub part_free : (g : Geometry) (images : Units) (u : UnitSet) (entries : List FileEntry) (files : List FileContent) → used_at u ≡ (λ (page : ℕ). eqb page catalog_no) → HasFilePart g images entries files → AreFreeIndexes g images (used_at u) entries
part_free g images u entries files fresh part =
    let each = index_each g images entries files part.indexes in
    let differ : AllDiffer (flat_map (pages_named images) entries) = subst AllDiffer each.1 part.differ in
    let none : times catalog_no (flat_map (pages_named images) entries) ≡ 0 =
    never catalog_no (flat_map (pages_named images) entries) (each_as _ _ (flat_map (pages_named images) entries) (λ (p : ℕ) may. may.1) (entries_may g images entries each.0)) in
    record {
      whole = each.0;
      once = λ p. elim (same_or_not p catalog_no) [
        | inl same ↦ omega (arith, ap (λ (q : ℕ). times q (flat_map (pages_named images) entries)) same, none, count_most (used_at u p))
        | inr other ↦
            let free : used_at u p ≡ false = ap (λ (f : ℕ → Bool). f p) fresh ∙ not_equal p catalog_no other in
            omega (arith, ap count_of free, differ_once (flat_map (pages_named images) entries) differ p)
      ];
    }

walked_each : (g : Geometry) (images : Units) (entries : List FileEntry) (files : List FilePages) → AllZip (IsWalked g images) entries files
    → AllZip (HasIndex g images) entries (contents images entries) × (flat_map walked_pages files ≡ flat_map pages_of_file (contents images entries))
walked_each g images [] [] h = (tt, refl)
walked_each g images [] (f ∷ files) h = absurd h
walked_each g images (e ∷ entries) [] h = absurd h
walked_each g images (e ∷ entries) (f ∷ files) h =
    let rest = walked_each g images entries files h.1 in
    let same : walked_pages f ≡ pages_named images e = ap (λ (t : List ℕ). t ++ page_numbers f.index_pages.items) h.0.numbers ∙ ap (λ (t : List ℕ). keys_in images e ++ t) h.0.index_pages in (
      (content_index g images e h.0.whole, rest.0),
      ap (λ (t : List ℕ). t ++ flat_map walked_pages files) same ∙ ap (λ (t : List ℕ). pages_named images e ++ t) rest.1,
    )

pub has_file_part : (g : Geometry) (images : Units) (u v : UnitSet) (entries : List FileEntry) (files : List FilePages) → AllZip (IsWalked g images) entries files → CountsUsed u v [] (flat_map walked_pages files) → HasFilePart g images entries (contents images entries)
has_file_part g images u v entries files walked counted =
    let each = walked_each g images entries files walked in
    record {
      indexes = each.0;
      differ = subst AllDiffer each.1 (once_differ (flat_map walked_pages files) (λ p. omega (arith, counted p, count_most (used_at v p))));
    }

pub pages_listed : (g : Geometry) (images : Units) (entries : List FileEntry) (files : List FilePages) → AllZip (IsWalked g images) entries files → flat_map walked_pages files ≡ flat_map pages_of_file (contents images entries)
pages_listed g images entries files walked = (walked_each g images entries files walked).1

pub bad_file : (g : Geometry) (images : Units) (u : UnitSet) (entries : List FileEntry) → used_at u ≡ (λ (page : ℕ). eqb page catalog_no) → (AreFreeIndexes g images (used_at u) entries → ⊥) → IsBadFiles g images entries File
bad_file g images u entries fresh never = record { files = []; earlier = tt; fails = λ files earlier part. never (part_free g images u entries files fresh part) }

-- ---- Page

pub has_page_part : (g : Geometry) (images : Units) (entries : List FileEntry) (files : List FilePages) → AllZip (IsWalked g images) entries files → AllZip (AreFilePages images) entries files → HasPagePart images entries (contents images entries)
has_page_part g images [] files walked pages = tt
has_page_part g images (e ∷ entries) [] walked pages = absurd walked
has_page_part g images (e ∷ entries) (f ∷ files) walked pages = (
  content_pages images e (subst (AllByRecursion (IsPageOf images e)) walked.0.numbers pages.0),
  has_page_part g images entries files walked.1 pages.1,
)

part_pages : (g : Geometry) (images : Units) (entries : List FileEntry) (files : List FilePages) (fs : List FileContent) → AllZip (IsWalked g images) entries files → AllZip (HasIndex g images) entries fs → AllZip (HasPages images) entries fs
    → AllZip (AreFilePages images) entries files
part_pages g images [] [] fs walked index pages = tt
part_pages g images [] (f ∷ files) fs walked index pages = absurd walked
part_pages g images (e ∷ entries) [] fs walked index pages = absurd walked
part_pages g images (e ∷ entries) (f ∷ files) [] walked index pages = absurd index
part_pages g images (e ∷ entries) (f ∷ files) (c ∷ fs) walked index pages = (
  subst (AllByRecursion (IsPageOf images e)) (sym walked.0.numbers) (has_pages g images e c index.0 pages.0),
  part_pages g images entries files fs walked.1 index.1 pages.1,
)

pub bad_page : (g : Geometry) (images : Units) (u v : UnitSet) (entries : List FileEntry) (files : List FilePages) → AllZip (IsWalked g images) entries files → CountsUsed u v [] (flat_map walked_pages files)
    → (AllZip (AreFilePages images) entries files → ⊥) → IsBadFiles g images entries Page
bad_page g images u v entries files walked counted never = record {
  files = contents images entries;
  earlier = has_file_part g images u v entries files walked counted;
  fails = λ fs earlier part. never (part_pages g images entries files fs walked earlier.indexes part);
}

-- ---- Body

bodies_each : (g : Geometry) (images : Units) (entries : List FileEntry) (files : List FilePages) → AllZip (IsWalked g images) entries files → AllByRecursion IsGoodFile (files_rows images files) → AllByRecursion HasBodies (contents images entries)
bodies_each g images [] files walked good = tt
bodies_each g images (e ∷ entries) [] walked good = absurd walked
bodies_each g images (e ∷ entries) (f ∷ files) walked good = (
  content_bodies images e (subst (λ (ns : List ℕ). IsGoodFile (rows_among images ns)) walked.0.numbers good.0),
  bodies_each g images entries files walked.1 good.1,
)

part_rows : (g : Geometry) (images : Units) (entries : List FileEntry) (files : List FilePages) (fs : List FileContent) → AllZip (IsWalked g images) entries files → AllZip (HasIndex g images) entries fs → AllZip (HasPages images) entries fs
    → AllByRecursion HasBodies fs → AllByRecursion IsGoodFile (files_rows images files)
part_rows g images [] [] fs walked index pages bodies = tt
part_rows g images [] (f ∷ files) fs walked index pages bodies = absurd walked
part_rows g images (e ∷ entries) [] fs walked index pages bodies = absurd walked
part_rows g images (e ∷ entries) (f ∷ files) [] walked index pages bodies = absurd index
part_rows g images (e ∷ entries) (f ∷ files) (c ∷ fs) walked index pages bodies = (
  subst (λ (ns : List ℕ). IsGoodFile (rows_among images ns)) (sym walked.0.numbers) (has_bodies g images e c index.0 pages.0 bodies.0),
  part_rows g images entries files fs walked.1 index.1 pages.1 bodies.1,
)

pub bad_body : (g : Geometry) (images : Units) (u v : UnitSet) (entries : List FileEntry) (files : List FilePages) → AllZip (IsWalked g images) entries files → CountsUsed u v [] (flat_map walked_pages files)
    → AllZip (AreFilePages images) entries files → (AllByRecursion IsGoodFile (files_rows images files) → ⊥) → IsBadFiles g images entries Body
bad_body g images u v entries files walked counted pages never = record {
  files = contents images entries;
  earlier = (has_file_part g images u v entries files walked counted, has_page_part g images entries files walked pages);
  fails = λ fs earlier part. never (part_rows g images entries files fs walked earlier.0.indexes earlier.1 part);
}

-- ---- all three

files_good : (old new : List Found) (files : List (List (Place × List ℕ))) → AddsFiles old new files → AllByRecursion IsGoodFile files
files_good old new [] adds = tt
files_good old new (rows ∷ files) (mid, here, more) = (here.good, files_good mid new files more)

stored_all : (g : Geometry) (images : Units) (entries : List FileEntry) (files : List FilePages) → AllZip (IsWalked g images) entries files → all_stored (files_rows images files) ≡ stored_of (contents images entries)
stored_all g images [] [] walked = refl
stored_all g images [] (f ∷ files) walked = absurd walked
stored_all g images (e ∷ entries) [] walked = absurd walked
stored_all g images (e ∷ entries) (f ∷ files) walked =
    ap (λ (ns : List ℕ). stored_in (rows_among images ns) ++ all_stored (files_rows images files)) walked.0.numbers
    ∙ ap (λ (t : List Stored). (content images e).stored ++ t) (stored_all g images entries files walked.1)

pub has_walked : (g : Geometry) (images : Units) (u v : UnitSet) (entries : List FileEntry) (files : List FilePages) (walked : WalkedFiles) → AllZip (IsWalked g images) entries files → CountsUsed u v [] (flat_map walked_pages files)
    → AllZip (AreFilePages images) entries files → AddsFiles [] walked.records.items (files_rows images files) → page_numbers walked.pages.items ≡ flat_map walked_pages files → HasWalked g images entries walked
has_walked g images u v entries files walked is counted pages adds listed =
    let rows = files_rows images files in
    let apart = files_apart images files (λ page. omega (arith, counted page, count_most (used_at v page))) in
    let joined = joined_files [] walked.records.items rows apart adds in
    let same = stored_all g images entries files is in
    record {
      files = contents images entries;
      file = has_file_part g images u v entries files is counted;
      page = has_page_part g images entries files is pages;
      body = bodies_each g images entries files is (files_good [] walked.records.items rows adds);
      pages = listed ∙ pages_listed g images entries files is;
      object = joined.object;
      objects = subst (λ (t : List Stored). AreObjects t joined.object) same (joined_objects [] walked.records.items rows joined);
      records = joined.added ∙ ap (map (found_of joined.object)) same;
    }

-- ---- the pages in use

pub used_are : (u v : UnitSet) (xs ys : List ℕ) → CountsUsed u v [] xs → ys ≡ xs → (p : ℕ) → IsTrue (used_at v p) ↔ (IsTrue (used_at u p) ⊎ Contains ys p)
used_are u v xs ys counted is p = (
  λ used. elim (none_or_some (times p xs)) [
    | inl none ↦ inl (is_counted (used_at u p) (omega (arith, counted p, none, count_is (used_at v p) used)))
    | inr some ↦ inr (subst (λ (t : List ℕ). Contains t p) (sym is) (times_contains p xs some))
  ],
  λ either. elim either [
    | inl used ↦ is_counted (used_at v p) (omega (arith, counted p, count_is (used_at u p) used))
    | inr named ↦ is_counted (used_at v p) (omega (arith, counted p, contains_times p xs (subst (λ (t : List ℕ). Contains t p) is named)))
  ],
)
