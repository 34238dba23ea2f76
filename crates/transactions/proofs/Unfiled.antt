-- A volume without one of its empty files. A file has pages exactly where it has objects.
use Rattle.std.proofs.Common.{◌≡◌, ◌∙◌, ℕ, zero, suc, ◌<◌, ◌≤◌, true, false, cond, List, [], ◌∷◌, length, map, Option, Some, None, is_some, refl, sym, ap, subst, arith}
use Rattle.std.specs.Prelude.{bytes_eq, find, nat_lt}
use Rattle.std.specs.List.{flat_map, AllByRecursion, AllZip, zip}
use Rattle.std.specs.Cmp.Lexicographic.{slice_cmp, nat_list_cmp_total}
use Rattle.std.specs.Ordering.{nat_cmp, ordering_reverse}
use Rattle.std.specs.declared.cmp.Ordering.TheVariants.{Less, Greater}
use Rattle.std.proofs.lemmas.List.{length-append}
use Rattle.std.proofs.lemmas.Slice.Eq.{bytes_eq-Decides}
use Rattle.ex_base.specs.declared.geometry.Geometry.{Geometry}
use Rattle.ex_base.specs.declared.names.PageNo.{PageNo}
use Rattle.ex_base.specs.declared.names.Root.{Root}
use Rattle.ex_base.specs.Area.{catalog_no}
use Rattle.ex_base.specs.Order.{AllDiffer, RisingTexts}
use Rattle.ex_base.proofs.Each.{zip_as}
use Rattle.ex_base.proofs.Lists.{texts_tail}
use Rattle.op_log.specs.declared.record.LogRecord.{LogRecord}
use Rattle.file_index.specs.declared.Entry.{Entry}
use Rattle.file_index.specs.IndexPage.{entries_on}
use Rattle.slotted_pages.specs.FilePage.{FilePage, Slot, EndsLive}
use Rattle.file_index.specs.Index.{IsUnder, IsRoot, keys_under, keys_of, pages_of}
use Rattle.object_files.specs.Catalog.{FileEntry, name_of}
use Rattle.object_files.specs.Edits as edits
use Rattle.trees.specs.Trees.{Units, RootNamed, root_units}
use Rattle.table_model.specs.Tables as tables
use Rattle.table_model.specs.Refusals.{has_objects}
use Rattle.volume_edits.proofs.Lists.{as_long}
use Rattle.volume_model.specs.Parts.{HasIndex, HasPage, HasPages, HasBodies, IsStored, bodies_from, bodies_in, HasBalance}
use Rattle.volume_model.specs.Links.{Apart, HasObjects}
use Rattle.volume_model.specs.Volume.{Stored, FileContent, Volume, stored_in, pages_of_file, file_pages, roots_in, unique_of, versions_stored, file_of, table_of}
use Rattle.version_lists.specs.Objects.{objects_formed}
use Rattle.volume_edits.proofs.Emptied.{as_many, none_formed}
use Rattle.volume_edits.proofs.FileVersions.{IsFile, linked_file}
use Rattle.transactions.specs.Refused.{has_pages}
use Rattle.volume_model.proofs.KeptOff.{Others}
use Rattle.volume_model.proofs.FilesListed.{HasNone, each_left, file_left, flat_left, no_pages, no_stored, table_left, zip_left}
use Rattle.std.proofs.lemmas.Bool.{both_ways}
use Rattle.ex_base.proofs.Options.{none_from_test}

-- ---- a file has pages exactly where it has objects

none_of_pages : (units : Units) (entry : FileEntry) (pages : List FilePage) → AllZip (HasPage units entry) [] pages → pages ≡ []
none_of_pages units entry [] h = refl
none_of_pages units entry (page ∷ pages) h = absurd h

abbrev content_of : List ℕ → List ℕ → List FilePage → List Stored → FileContent
content_of numbers index pages stored = record { numbers = numbers; index_pages = index; pages = pages; stored = stored }

-- the parts of a file
pub record HasAll (g : Geometry) (units : Units) (e : FileEntry) (f : FileContent) : Type 0 where
  pub index : HasIndex g units e f
  pub pages : HasPages units e f
  pub bodies : HasBodies f
  pub whole : IsFile f

rootless : (g : Geometry) (units : Units) (e : FileEntry) (f : FileContent) → HasAll g units e f → e.root ≡ None → f ≡ no_pages
rootless g units e f all none =
    let numbers : f.numbers ≡ [] = all.index.numbers ∙ ap (λ (r : Option PageNo). keys_of units e.level r) none in
    let index_pages : f.index_pages ≡ [] = all.index.index_pages ∙ ap (λ (r : Option PageNo). pages_of units e.level r) none in
    let no_page : f.pages ≡ [] = none_of_pages units e f.pages (subst (λ (ns : List ℕ). AllZip (HasPage units e) ns f.pages) numbers all.pages) in
    let no_record : f.stored ≡ [] = no_stored f.numbers f.pages f.stored numbers all.bodies.records in
    let same : content_of f.numbers f.index_pages f.pages f.stored ≡ content_of [] [] [] [] = cc (numbers, index_pages, no_page, no_record) in
    same

first_key : (g : Geometry) (number : ℕ) (units : Units) (level : ℕ) → ((least : Option ℕ) (page : ℕ) → IsUnder g number units level least page → 1 ≤ length (keys_under units level page))
    → (es : List Entry) → 2 ≤ length es → AllByRecursion (λ (e : Entry). IsUnder g number units level (Some e.key) e.page.0) es → 1 ≤ length (flat_map (λ (e : Entry). keys_under units level e.page.0) es)
first_key g number units level one [] two each = absurd (omega (arith, two))
first_key g number units level one (e ∷ es) two each =
    let here = one (Some e.key) e.page.0 each.0 in
    omega (arith, here, length-append (keys_under units level e.page.0) (flat_map (λ (e : Entry). keys_under units level e.page.0) es))

some_key : (g : Geometry) (number : ℕ) (units : Units) (level : ℕ) (least : Option ℕ) (page : ℕ) → IsUnder g number units level least page → 1 ≤ length (keys_under units level page)
some_key g number units zero least page h = omega arith
some_key g number units (suc level) least page h = first_key g number units level (λ least page under. some_key g number units level least page under) (entries_on (units page)) h.1.two h.2

some_keys : (g : Geometry) (number : ℕ) (units : Units) (level : ℕ) (root : Option PageNo) → IsRoot g number units level root → is_some root ≡ true → 1 ≤ length (keys_of units level root)
some_keys g number units level None h some = absurd (cc)
some_keys g number units level (Some page) h some = some_key g number units level None page.0 h

some_body : (page slot : ℕ) (slots : List Slot) → 1 ≤ length slots → EndsLive slots → 1 ≤ length (bodies_from page slot slots)
some_body page slot [] some last = absurd (omega (arith, some))
some_body page slot (None ∷ []) some last = absurd last
some_body page slot (Some body ∷ slots) some last = omega arith
some_body page slot (None ∷ next ∷ slots) some last = some_body page (suc slot) (next ∷ slots) (omega arith) last

some_bodies : (units : Units) (e : FileEntry) (numbers : List ℕ) (pages : List FilePage) → 1 ≤ length numbers → AllZip (HasPage units e) numbers pages
    → 1 ≤ length (flat_map (λ (row : ℕ × FilePage). bodies_from row.0 0 row.1.slots) (zip numbers pages))
some_bodies units e [] pages some h = absurd (omega (arith, some))
some_bodies units e (n ∷ numbers) [] some h = absurd h
some_bodies units e (n ∷ numbers) (p ∷ pages) some h =
    let here = some_body n 0 p.slots h.0.1 h.0.0.fits.last in
    omega (arith, here, length-append (bodies_from n 0 p.slots) (flat_map (λ (row : ℕ × FilePage). bodies_from row.0 0 row.1.slots) (zip numbers pages)))

rooted : (g : Geometry) (units : Units) (e : FileEntry) (f : FileContent) → HasAll g units e f → is_some e.root ≡ true → 1 ≤ length f.stored
rooted g units e f all some =
    let numbers : 1 ≤ length f.numbers = subst (λ (ns : List ℕ). 1 ≤ length ns) (sym all.index.numbers) (some_keys g e.file_no units e.level e.root all.index.whole.whole some) in
    let bodies = some_bodies units e f.numbers f.pages numbers all.pages in
    let stored = as_long IsStored (bodies_in f) f.stored all.bodies.records in
    omega (arith, bodies, stored)

-- where records stand there are objects
formed : (units : Units) (f : FileContent) → IsFile f → 1 ≤ length f.stored → 1 ≤ length (objects_formed (versions_stored units f.stored))
formed units f whole some = by (length (objects_formed (versions_stored units f.stored))) refl
  where
    by : (n : ℕ) → length (objects_formed (versions_stored units f.stored)) ≡ n → 1 ≤ n
    by zero none = absurd (omega (arith, some, as_many units f.stored, none_formed (versions_stored units f.stored) (linked_file units f whole) none))
    by (suc n) is = omega arith

positive : (n : ℕ) → 1 ≤ n → nat_lt 0 n ≡ true
positive n some = grind (arith, some)

objects_as_root : (g : Geometry) (units : Units) (e : FileEntry) (f : FileContent) → HasAll g units e f → nat_lt 0 (length (objects_formed (versions_stored units f.stored))) ≡ is_some e.root
objects_as_root g units e f all = by e.root refl
  where
    by : (o : Option PageNo) → e.root ≡ o → nat_lt 0 (length (objects_formed (versions_stored units f.stored))) ≡ is_some e.root
    by None is = ap (λ (c : FileContent). nat_lt 0 (length (objects_formed (versions_stored units c.stored)))) (rootless g units e f all is) ∙ ap (λ (r : Option PageNo). is_some r) (sym is)
    by (Some page) is =
        let some : is_some e.root ≡ true = ap (λ (r : Option PageNo). is_some r) is in
        positive (length (objects_formed (versions_stored units f.stored))) (formed units f all.whole (rooted g units e f all some)) ∙ sym some

pub all_of : (g : Geometry) (units : Units) (es : List FileEntry) (fs : List FileContent) → AllZip (HasIndex g units) es fs → AllZip (HasPages units) es fs → AllByRecursion HasBodies fs → AllByRecursion IsFile fs
    → AllZip (HasAll g units) es fs
all_of g units [] [] index pages bodies whole = tt
all_of g units [] (f ∷ fs) index pages bodies whole = absurd index
all_of g units (e ∷ es) [] index pages bodies whole = absurd index
all_of g units (e ∷ es) (f ∷ fs) index pages bodies whole = (record { index = index.0; pages = pages.0; bodies = bodies.0; whole = whole.0 }, all_of g units es fs index.1 pages.1 bodies.1 whole.1)

pub not_empty_as : (g : Geometry) (units : Units) (name : List ℕ) (es : List FileEntry) (fs : List FileContent) → AllZip (HasAll g units) es fs
    → has_objects (find (tables.has_name name) (map (file_of units) (zip es fs))) ≡ has_pages (find (edits.has_name name) es)
not_empty_as g units name [] [] h = refl
not_empty_as g units name [] (f ∷ fs) h = absurd h
not_empty_as g units name (e ∷ es) [] h = absurd h
not_empty_as g units name (e ∷ es) (f ∷ fs) h =
    elim (bytes_eq e.name name) as (λ b. has_objects (cond b (Some (file_of units (e, f))) (find (tables.has_name name) (map (file_of units) (zip es fs)))) ≡ has_pages (cond b (Some e) (find (edits.has_name name) es))) [
      | true ↦ objects_as_root g units e f h.0
      | false ↦ not_empty_as g units name es fs h.1
    ]

-- ---- the file of a name is empty, and there is one at most

not_before_self : (a : List ℕ) → slice_cmp nat_cmp a a ≡ Less → ⊥
not_before_self a self = (let turned : Less ≡ Greater = sym self ∙ nat_list_cmp_total.antisymm a a ∙ ap ordering_reverse self in absurd cc)

all_later : (x : List ℕ) (es : List FileEntry) → RisingTexts (x ∷ map name_of es) → AllByRecursion (λ (e : FileEntry). slice_cmp nat_cmp x e.name ≡ Less) es
all_later x [] h = tt
all_later x (e ∷ es) h = (h.0, earlier es (all_later e.name es h.1))
  where
    earlier : (fs : List FileEntry) → AllByRecursion (λ (f : FileEntry). slice_cmp nat_cmp e.name f.name ≡ Less) fs → AllByRecursion (λ (f : FileEntry). slice_cmp nat_cmp x f.name ≡ Less) fs
    earlier [] p = tt
    earlier (f ∷ fs) p = (nat_list_cmp_total.trans x e.name f.name h.0 p.0, earlier fs p.1)

abbrev pub IsGone : List ℕ → FileEntry → FileContent → Type 0
IsGone name e f = bytes_eq e.name name ≡ true → f ≡ no_pages

none_later : (name : List ℕ) (R : FileEntry → FileContent → Type 0) (es : List FileEntry) (fs : List FileContent) → AllByRecursion (λ (e : FileEntry). slice_cmp nat_cmp name e.name ≡ Less) es → AllZip R es fs → AllZip (IsGone name) es fs
none_later name R [] [] later h = tt
none_later name R [] (f ∷ fs) later h = absurd h
none_later name R (e ∷ es) [] later h = absurd h
none_later name R (e ∷ es) (f ∷ fs) later h =
    (λ is. absurd (not_before_self name (subst (λ (n : List ℕ). slice_cmp nat_cmp name n ≡ Less) ((bytes_eq-Decides e.name name).0 is) later.0)), none_later name R es fs later.1 h.1)

pub gone_of : (g : Geometry) (units : Units) (name : List ℕ) (es : List FileEntry) (fs : List FileContent) → RisingTexts (map name_of es) → has_pages (find (edits.has_name name) es) ≡ false → AllZip (HasAll g units) es fs → AllZip (IsGone name) es fs
gone_of g units name [] [] sorted none h = tt
gone_of g units name [] (f ∷ fs) sorted none h = absurd h
gone_of g units name (e ∷ es) [] sorted none h = absurd h
gone_of g units name (e ∷ es) (f ∷ fs) sorted none h =
    (elim (bytes_eq e.name name) as (λ b. bytes_eq e.name name ≡ b → has_pages (cond b (Some e) (find (edits.has_name name) es)) ≡ false → AllZip (IsGone name) (e ∷ es) (f ∷ fs)) [
      | true ↦ λ is none. (
        λ _. rootless g units e f h.0 (none_from_test e.root none),
        none_later name (HasAll g units) es fs (subst (λ (n : List ℕ). AllByRecursion (λ (e : FileEntry). slice_cmp nat_cmp n e.name ≡ Less) es) ((bytes_eq-Decides e.name name).0 is) (all_later e.name es sorted)) h.1,
      )
      | false ↦ λ isnt none. (λ is. absurd (both_ways _ isnt is), gone_of g units name es fs (texts_tail e.name (map name_of es) sorted) none h.1)
    ]) refl none

-- ---- without it

abbrev pub volume_without : List ℕ → Volume → Volume
volume_without name v = record { catalog = edits.with_entries v.catalog (edits.without_name name v.catalog.entries); files = file_left name v.catalog.entries v.files }

-- the file that goes has nothing of what no file without pages has
none_of_gone : {A : Type 0} (f : FileContent → List A) (name : List ℕ) (es : List FileEntry) (fs : List FileContent) → f no_pages ≡ [] → AllZip (IsGone name) es fs → AllZip (HasNone f name) es fs
none_of_gone f name es fs none gone = zip_as (IsGone name) (HasNone f name) es fs (λ e file goes is. ap f (goes is) ∙ none) gone

module _ (name : List ℕ) (v : Volume) (gone : AllZip (IsGone name) v.catalog.entries v.files) where
  pub pages_without : file_pages (volume_without name v) ≡ file_pages v
  pages_without = flat_left pages_of_file name v.catalog.entries v.files (none_of_gone pages_of_file name v.catalog.entries v.files refl gone)

  pub stored_without : stored_in (volume_without name v) ≡ stored_in v
  stored_without = flat_left (λ (file : FileContent). file.stored) name v.catalog.entries v.files (none_of_gone (λ (file : FileContent). file.stored) name v.catalog.entries v.files refl gone)

  pub others_without : (g : Geometry) (records : List LogRecord) (units : Units) → Others g records units v → Others g records units (volume_without name v)
  others_without g records units (file, (page, (body, (node, (balance, (unique, end)))))) =
      let es = v.catalog.entries in
      let roots = ap roots_in stored_without in (
        (zip_left (HasIndex g units) name es v.files file.0, subst AllDiffer (sym pages_without) file.1),
        (
          zip_left (HasPages units) name es v.files page,
          (
            each_left HasBodies name es v.files body,
            (
              record {
                named = subst (λ (rs : List Root). AllByRecursion (λ (root : Root). RootNamed g units root.height root.page) rs) (sym roots) node.named;
                no_file_page =
                    subst (λ (rs : List Root). AllByRecursion (λ (root : Root). Apart (root_units units root) (catalog_no ∷ file_pages (volume_without name v))) rs) (sym roots)
                    (subst (λ (pages : List ℕ). AllByRecursion (λ (root : Root). Apart (root_units units root) (catalog_no ∷ pages)) (roots_in (stored_in v))) (sym pages_without) node.no_file_page);
                objects = subst (HasObjects units) (sym stored_without) node.objects;
              },
              (
                subst (λ (rs : List Root). AllByRecursion (HasBalance g units) rs) (sym roots) balance,
                (
                  record {
                    differ = subst (λ (ss : List Stored). AllDiffer (map unique_of ss)) (sym stored_without) unique.differ;
                    some = subst (λ (ss : List Stored). AllByRecursion (λ (s : Stored). 1 ≤ unique_of s) ss) (sym stored_without) unique.some;
                    below = subst (λ (ss : List Stored). AllByRecursion (λ (s : Stored). unique_of s < v.catalog.next_unique) ss) (sym stored_without) unique.below;
                  },
                  tt,
                ),
              ),
            ),
          ),
        ),
      )

pub table_without_file : (g : Geometry) (records : List LogRecord) (units : Units) (name : List ℕ) (v : Volume) → Others g records units v → table_of units (volume_without name v) ≡ tables.without_file name (table_of units v)
table_without_file g records units name v others =
    let paired = zip_as (HasIndex g units) (λ (e : FileEntry) (f : FileContent). Unit {0}) v.catalog.entries v.files (λ e f index. tt) others.0.0 in
    let files = table_left units name v.catalog.entries v.files paired in
    cc (files)
