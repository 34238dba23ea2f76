-- The table of a volume keeps the rules of tables.
use Rattle.std.proofs.Common.{◌≡◌, ◌≢◌, ◌∙◌, ◌<◌, ◌≤◌, ℕ, suc, true, List, [], ◌∷◌, length, map, AllPairs, IsTrue, Option, Some, None, refl, sym, ap, subst, arith}
use Rattle.std.specs.Prelude.{Contains, nat_le}
use Rattle.std.specs.List.{AllByRecursion, list_all}
use Rattle.std.specs.Cmp.Lexicographic.{slice_cmp, nat_list_cmp_total}
use Rattle.std.specs.Ordering.{nat_cmp, is_lt}
use Rattle.std.specs.declared.cmp.Ordering.TheVariants.{Less}
use Rattle.std.proofs.lemmas.Bool.Decides.{nat_tests}
use Rattle.std.proofs.lemmas.List.Elements.{All-from_recursion}
use Rattle.std.proofs.lemmas.List.Kept.{AllPairs-cons}
use Rattle.ex_base.specs.Order.{RisingTexts, AllDiffer}
use Rattle.ex_base.specs.Sizes.{object_most}
use Rattle.ex_base.specs.declared.geometry.Geometry.{Geometry}
use Rattle.ex_base.specs.declared.names.Oid.{Oid}
use Rattle.ex_base.specs.declared.names.PageNo.{PageNo}
use Rattle.ex_base.specs.declared.names.Place.{Place}
use Rattle.ex_base.specs.declared.names.Root.{Root}
use Rattle.ex_base.specs.Area.{catalog_no}
use Rattle.ex_base.proofs.Each.{each_parted, each_with, split_each}
use Rattle.ex_base.proofs.Booleans.{three_true}
use Rattle.object_files.specs.Catalog.{FileEntry, IsEntry, IsName, name_of}
use Rattle.object_records.specs.Record.{Content, Small, Large, IsContent}
use Rattle.op_log.specs.declared.record.LogRecord.{LogRecord}
use Rattle.table_model.proofs.Lists.{pairs_nil}
use Rattle.table_model.specs.declared.table.Table.{Table}
use Rattle.table_model.specs.declared.table.TableFile.{TableFile}
use Rattle.version_lists.specs.declared.version.Version.{Version}
use Rattle.version_lists.specs.Versions.{Differ, unique_of as number_of}
use Rattle.table_model.specs.Tables as tables
use Rattle.table_model.specs.Words.{is_name, is_name_byte}
use Rattle.trees.specs.Trees.{Units, RootNamed, RootSized, root_bytes_at}
use Rattle.trees.proofs.TreeLaws.{AreWhole, length-bytes_on}
use Rattle.volume_model.proofs.OneVolume.{one_geometry}
use Rattle.volume_model.proofs.Places.{sep_from, sep_parted}
use Rattle.volume_model.proofs.Standing.{StoredAt, files_at, one_at}
use Rattle.volume_model.proofs.TableVersions.{each_version, files_linked, objects_are_trees, objects_ordered, table_files, version_pairs}
use Rattle.volume_model.proofs.WholeUnits.{are_whole, catalog_len}
use Rattle.volume_model.specs.Parts.{HasBalance, HasPages, HoldsOf, SuperOf, Decodes, StandsFor, content_parts}
use Rattle.volume_model.specs.Volume.{FileContent, Stored, Volume, Decoded, content_in, file_of, root_in, roots_in, stored_in, table_of, unique_of, units_of}

-- ---- the files

each_byte : (bytes : List ℕ) → AllByRecursion (λ b. is_name_byte b ≡ true) bytes → list_all is_name_byte bytes ≡ true
each_byte [] h = refl
each_byte (b ∷ bytes) h = let here = h.0 in let rest = each_byte bytes h.1 in rw here rest

name_passes : (name : List ℕ) → IsName name → IsTrue (is_name name)
name_passes name h = three_true (nat_le 1 (length name)) (nat_le (length name) 32) (list_all is_name_byte name) (let some = h.some in grind (arith, nat_tests)) (let short = h.short in grind (arith, nat_tests)) (each_byte name h.bytes)

module _ (units : Units) where
  few_files : (entries : List FileEntry) (files : List FileContent) → length (table_files units entries files) ≤ length entries
  few_files [] files = omega arith
  few_files (e ∷ entries) [] = omega arith
  few_files (e ∷ entries) (f ∷ files) = omega (arith, few_files entries files)

  names_pass : (entries : List FileEntry) (files : List FileContent) → AllByRecursion IsEntry entries → AllByRecursion (λ (f : TableFile). IsTrue (is_name f.name)) (table_files units entries files)
  names_pass [] files h = tt
  names_pass (e ∷ entries) [] h = tt
  names_pass (e ∷ entries) (f ∷ files) h = (name_passes e.name h.0.name, names_pass entries files h.1)

  -- a name that comes before the first of names in order comes before each
  all_behind : (first : TableFile) (e : FileEntry) (entries : List FileEntry) (files : List FileContent) → slice_cmp nat_cmp first.name e.name ≡ Less → RisingTexts (map name_of (e ∷ entries))
      → AllByRecursion (tables.ComesBefore first) (table_files units (e ∷ entries) files)
  all_behind first e entries [] before rising = tt
  all_behind first e [] (f ∷ files) before rising = (ap is_lt before, tt)
  all_behind first e (next ∷ entries) (f ∷ files) before rising = (ap is_lt before, all_behind first next entries files (nat_list_cmp_total.trans first.name e.name next.name before rising.0) rising.1)

  files_sorted : (entries : List FileEntry) (files : List FileContent) → RisingTexts (map name_of entries) → AllPairs tables.ComesBefore (table_files units entries files)
  files_sorted [] files rising = pairs_nil tables.ComesBefore
  files_sorted (e ∷ entries) [] rising = pairs_nil tables.ComesBefore
  files_sorted (e ∷ []) (f ∷ files) rising = AllPairs-cons tables.ComesBefore (file_of units (e, f)) [] (All-from_recursion (tables.ComesBefore (file_of units (e, f))) [] tt) (pairs_nil tables.ComesBefore)
  files_sorted (e ∷ next ∷ entries) (f ∷ files) rising =
      AllPairs-cons tables.ComesBefore (file_of units (e, f)) (table_files units (next ∷ entries) files)
      (All-from_recursion (tables.ComesBefore (file_of units (e, f))) (table_files units (next ∷ entries) files) (all_behind (file_of units (e, f)) next entries files rising.0 rising.1))
      (files_sorted (next ∷ entries) files rising.1)

-- ---- each version has a number and a place of its own

abbrev HasOther : Stored → Stored → Type 0
HasOther s t = unique_of s ≢ unique_of t

other_numbers : (s : Stored) (xs : List Stored) → ¬ Contains (map unique_of xs) (unique_of s) → AllByRecursion (HasOther s) xs
other_numbers s [] none = tt
other_numbers s (t ∷ xs) none = ((λ same. none (0, omega arith, sym same)), other_numbers s xs (λ (k, lt, is). none (suc k, omega (arith, lt), is)))

pairs_differ : (xs : List Stored) → AllDiffer (map unique_of xs) → AllPairs HasOther xs
pairs_differ [] h = pairs_nil HasOther
pairs_differ (s ∷ xs) h = AllPairs-cons HasOther s xs (All-from_recursion (HasOther s) xs (other_numbers s xs h.0)) (pairs_differ xs h.1)

abbrev Elsewhere : Stored → Stored → Type 0
Elsewhere s t = (s.place.page.0 ≡ t.place.page.0) × (s.place.slot ≡ t.place.slot) → ⊥

abbrev made_place : ℕ → ℕ → Place
made_place page slot = record { page = record { 0 = page }; slot = slot }

elsewhere : (units : Units) (s t : Stored) → StoredAt units s → StoredAt units t → HasOther s t → Elsewhere s t
elsewhere units s t a b other (page, slot) =
    let place : made_place s.place.page.0 s.place.slot ≡ made_place t.place.page.0 t.place.slot = cc (page, slot) in
    other (ap unique_of (one_at units s t a b place))

all_elsewhere : (units : Units) (s : Stored) (xs : List Stored) → StoredAt units s → AllByRecursion (StoredAt units) xs → AllByRecursion (HasOther s) xs → AllByRecursion (Elsewhere s) xs
all_elsewhere units s [] own at other = tt
all_elsewhere units s (t ∷ xs) own at other = (elsewhere units s t own at.0 other.0, all_elsewhere units s xs own at.1 other.1)

pairs_apart : (units : Units) (xs : List Stored) → AllByRecursion (StoredAt units) xs → AllDiffer (map unique_of xs) → AllPairs Elsewhere xs
pairs_apart units [] at h = pairs_nil Elsewhere
pairs_apart units (s ∷ xs) at h = AllPairs-cons Elsewhere s xs (All-from_recursion (Elsewhere s) xs (all_elsewhere units s xs at.0 at.1 (other_numbers s xs h.0))) (pairs_apart units xs at.1 h.1)

abbrev number_in : Oid → ℕ
number_in oid = oid.unique

abbrev page_in : Oid → ℕ
page_in oid = oid.page.0

abbrev slot_in : Oid → ℕ
slot_in oid = oid.slot

-- ---- sizes

module _ (g : Geometry) (units : Units) (whole : AreWhole g units) where
  abbrev Named : Root → Type 0
  Named root = RootNamed g units root.height root.page

  root_fits : (height size : ℕ) (page : Option PageNo) → RootNamed g units height page → RootSized g units height size page → length (root_bytes_at units height size page) ≤ size
  root_fits height size None named sized = omega arith
  root_fits height size (Some page) named sized = omega (arith, length-bytes_on g units height page.0 size whole named sized)

  content_fits : (content : Content) → IsContent content → AllByRecursion Named (root_in content) → AllByRecursion (HasBalance g units) (root_in content) → length (content_in units content) ≤ object_most
  content_fits (Small bytes) h named balanced = omega (arith, h)
  content_fits (Large root) h named balanced = omega (arith, root_fits root.height root.size root.page named.0 balanced.0.sized, balanced.0.limit)

  all_fit : (xs : List Stored) → AllByRecursion (StoredAt units) xs → AllByRecursion Named (roots_in xs) → AllByRecursion (HasBalance g units) (roots_in xs) → AllByRecursion (λ (s : Stored). length (content_in units s.body.content) ≤ object_most) xs
  all_fit [] at named balanced = tt
  all_fit (s ∷ xs) at named balanced =
      let names = split_each Named (root_in s.body.content) (roots_in xs) named in
      let trees = split_each (HasBalance g units) (root_in s.body.content) (roots_in xs) balanced in
      (content_fits s.body.content at.0.body.fits.content names.0 trees.0, all_fit xs at.1 names.1 trees.1)

  -- ---- all rules

  abbrev Fits : Stored → Type 0
  Fits s = length (content_in units s.body.content) ≤ object_most

  abbrev Numbered : Volume → Stored → Type 0
  Numbered v s = (1 ≤ unique_of s) × (unique_of s < v.catalog.next_unique)

  -- The table of a volume on whole units keeps the rules of tables.
  pub table_rules : (records : List LogRecord) (v : Volume) → length (units catalog_no) ≤ g.page_size → AllByRecursion (HoldsOf g records units v) content_parts → tables.IsTable g (table_of units v)
  table_rules records v page (catalog, (file, (pages, (body, (node, (balance, (unique, end))))))) =
      let fits = catalog.0.fits in
      let at = files_at units v.catalog.entries v.files pages body in
      let linked = files_linked units v.files (each_parted (StoredAt units) (λ (f : FileContent). f.stored) v.files at) (sep_parted unique_of (λ (f : FileContent). f.stored) v.files (sep_from unique_of (stored_in v) unique.differ)) body in
      record {
        some = fits.some_next;
        next = fits.next_unique;
        number = fits.last;
        files = omega (arith, few_files units v.catalog.entries v.files, fits.room, page);
        names = All-from_recursion (λ (f : TableFile). IsTrue (is_name f.name)) (table_files units v.catalog.entries v.files) (names_pass units v.catalog.entries v.files fits.entries);
        sorted = files_sorted units v.catalog.entries v.files fits.sorted;
        ordered = objects_ordered units v linked;
        trees = objects_are_trees units v linked;
        numbers = each_version units v linked (HasPages units) pages (Numbered v) (λ (w : Version). (1 ≤ number_of w) × (number_of w < v.catalog.next_unique))
            (λ s w is numbered. subst (λ (o : Oid). (1 ≤ o.unique) × (o.unique < v.catalog.next_unique)) (sym is.oid) numbered)
            (each_with (λ (s : Stored). 1 ≤ unique_of s) (λ (s : Stored). unique_of s < v.catalog.next_unique) (Numbered v) (stored_in v) (λ s some below. (some, below)) unique.some unique.below);
        distinct = version_pairs units v linked (HasPages units) pages HasOther Differ (λ x y differ same. differ (sym same))
            (λ s t x y is other differ same. differ (ap number_in (sym is.oid) ∙ same ∙ ap number_in other.oid))
            (pairs_differ (stored_in v) unique.differ);
        apart = version_pairs units v linked (HasPages units) pages Elsewhere tables.LieApart (λ x y apart same. apart (sym same.0, sym same.1))
            (λ s t x y is other apart same. apart (ap page_in (sym is.oid) ∙ same.0 ∙ ap page_in other.oid, ap slot_in (sym is.oid) ∙ same.1 ∙ ap slot_in other.oid))
            (pairs_apart units (stored_in v) at unique.differ);
        sizes = each_version units v linked (HasPages units) pages Fits (λ (w : Version). length w.bytes ≤ object_most)
            (λ s w is fit. subst (λ (bytes : List ℕ). length bytes ≤ object_most) (sym is.bytes) fit)
            (all_fit (stored_in v) at node.named balance);
      }

pub decodes_with_rules : (d : Decoded) (disk : List ℕ) → Decodes disk d → tables.IsTable d.geometry (table_of (units_of d disk) d.volume)
decodes_with_rules d disk parts = table_rules d.geometry (units_of d disk) (are_whole d disk parts) d.records d.volume (omega (arith, catalog_len d disk parts)) parts.1.1

pub stands_with_rules : (g : Geometry) (image : List ℕ) (table : Table) → SuperOf image g → StandsFor image table → tables.IsTable g table
stands_with_rules g image table super stands =
    let geometry = one_geometry image stands.decoded.geometry g stands.parts.0 super in
    subst (λ (h : Geometry). tables.IsTable h table) geometry (subst (tables.IsTable stands.decoded.geometry) (sym stands.same) (decodes_with_rules stands.decoded image stands.parts))
