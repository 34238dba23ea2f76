-- The walk under an index page, entry by entry, and from index to index.
use Rattle.std.proofs.Common.{◌≡◌, ◌≢◌, ◌-◌, ℕ, Bool, List, [], ◌∷◌, ◌++◌, Option, Some, None, refl, sym, ap, subst, ◌∙◌, arith, append_assoc}
use Rattle.std.specs.List.{flat_map, AllByRecursion, AllZip}
use Rattle.std.proofs.lemmas.List.{append-nil}
use Rattle.std.proofs.lemmas.List.Concat.{flat_map-append}
use Rattle.ex_base.specs.declared.geometry.Geometry.{Geometry}
use Rattle.ex_base.specs.declared.names.PageNo.{PageNo}
use Rattle.ex_base.specs.Area.{InPageArea}
use Rattle.ex_base.specs.Order.{Rising}
use Rattle.ex_base.specs.Ports.{times}
use Rattle.ex_base.proofs.Rows.{each-append}
use Rattle.ex_base.proofs.Counts.{times-append}
use Rattle.page_alloc.specs.UnitSet.{UnitSet, used_at}
use Rattle.file_index.specs.declared.Entry.{Entry}
use Rattle.file_index.specs.IndexPage.{entries_on}
use Rattle.file_index.specs.Edits.{keys_among, pages_among}
use Rattle.file_index.specs.Index.{IsFilesPage, IsNamed, HasKey, keys_under, pages_under, keys_of, pages_of}
use Rattle.file_index.proofs.Counts.{count_most}
use Rattle.object_files.specs.Catalog.{FileEntry}
use Rattle.trees.specs.Trees.{Units}
use Rattle.file_index.specs.declared.named.Named.{Named}
use Rattle.file_walk.specs.declared.indexes.FilePages.{FilePages}
use Rattle.file_walk.specs.Walk.{page_numbers, CountsUsed}
use Rattle.file_walk.specs.Indexes.{IsFreeIndex, IsFreeRoot, AddsIndex, AddsRoot, AddsPages, IsWalked, IsInArea, IsEntryIndex, AreFreeIndexes, walked_pages, pages_named}
use Rattle.file_walk.proofs.Lists.{numbers-append}
use Rattle.file_walk.proofs.Levels.{IsChild, at_leaf, above_leaf}

-- ---- pages that are added

-- one page, with records
pub adds_number : (g : Geometry) (u v : UnitSet) (old new : FilePages) (page : PageNo) → CountsUsed u v [] (page.0 ∷ []) → InPageArea g page.0 → new.numbers.items ≡ old.numbers.items ++ (page ∷ []) → new.index_pages.items ≡ old.index_pages.items → AddsPages g u v old new
adds_number g u v old new page counted area numbers index_pages =
    let ns : page_numbers new.numbers.items ≡ page_numbers old.numbers.items ++ (page.0 ∷ []) = ap page_numbers numbers ∙ numbers-append old.numbers.items (page ∷ []) in
    let is : page_numbers new.index_pages.items ≡ page_numbers old.index_pages.items = ap page_numbers index_pages in
    record {
      counted = λ p. omega (
        arith,
        counted p,
        ap (times p) ns,
        ap (times p) is,
        times-append p (page_numbers old.numbers.items) (page.0 ∷ []),
        times-append p (page_numbers old.numbers.items) (page_numbers old.index_pages.items),
        times-append p (page_numbers new.numbers.items) (page_numbers new.index_pages.items),
      );
      area = λ each. subst (AllByRecursion (InPageArea g)) (sym ns) (each-append (InPageArea g) (page_numbers old.numbers.items) (page.0 ∷ []) each (area, tt));
      index_area = λ each. subst (AllByRecursion (InPageArea g)) (sym is) each;
    }

-- one index page
pub adds_index_page : (g : Geometry) (u v : UnitSet) (old new : FilePages) (page : PageNo) → CountsUsed u v [] (page.0 ∷ []) → InPageArea g page.0 → new.numbers.items ≡ old.numbers.items → new.index_pages.items ≡ old.index_pages.items ++ (page ∷ []) → AddsPages g u v old new
adds_index_page g u v old new page counted area numbers index_pages =
    let ns : page_numbers new.numbers.items ≡ page_numbers old.numbers.items = ap page_numbers numbers in
    let is : page_numbers new.index_pages.items ≡ page_numbers old.index_pages.items ++ (page.0 ∷ []) = ap page_numbers index_pages ∙ numbers-append old.index_pages.items (page ∷ []) in
    record {
      counted = λ p. omega (
        arith,
        counted p,
        ap (times p) ns,
        ap (times p) is,
        times-append p (page_numbers old.index_pages.items) (page.0 ∷ []),
        times-append p (page_numbers old.numbers.items) (page_numbers old.index_pages.items),
        times-append p (page_numbers new.numbers.items) (page_numbers new.index_pages.items),
      );
      area = λ each. subst (AllByRecursion (InPageArea g)) (sym ns) each;
      index_area = λ each. subst (AllByRecursion (InPageArea g)) (sym is) (each-append (InPageArea g) (page_numbers old.index_pages.items) (page.0 ∷ []) each (area, tt));
    }

pub adds_on : (g : Geometry) (u v w : UnitSet) (a b c : FilePages) → AddsPages g u v a b → AddsPages g v w b c → AddsPages g u w a c
adds_on g u v w a b c one two = record { counted = λ p. omega (arith, one.counted p, two.counted p); area = λ each. two.area (one.area each); index_area = λ each. two.index_area (one.index_area each) }

-- ---- at level 0

pub leaf_added : (g : Geometry) (images : Units) (named : Named) (old new : FilePages) → named.level ≡ 0 → IsFilesPage g named.page.0 → HasKey named.least named.page.0
    → new.numbers.items ≡ old.numbers.items ++ (named.page ∷ []) → new.index_pages.items ≡ old.index_pages.items → AddsIndex g images named old new
leaf_added g images named old new level files key numbers index_pages =
    let leaf = at_leaf g named.file_no images named.level named.page.0 level in
    record {
      whole = leaf.closed named.least files key;
      numbers = ap page_numbers numbers ∙ numbers-append old.numbers.items (named.page ∷ []) ∙ ap (λ (t : List ℕ). page_numbers old.numbers.items ++ t) (sym leaf.keys);
      index_pages = ap page_numbers index_pages ∙ sym (append-nil (page_numbers old.index_pages.items)) ∙ ap (λ (t : List ℕ). page_numbers old.index_pages.items ++ t) (sym leaf.pages);
    }

-- ---- the entries of an index page

pub not_named : (g : Geometry) (images : Units) (used : ℕ → Bool) (named : Named) → named.level ≢ 0 → (IsNamed g.page_size (images named.page.0) named.level named.file_no named.least → ⊥) → IsFreeIndex g images used named → ⊥
not_named g images used named level never free = never ((above_leaf g named.file_no images named.level named.page.0 level).named named.least free.whole)

-- how far the entries of an index page were walked, and which are left
pub record WalkedTo (g : Geometry) (images : Units) (named : Named) (old now : FilePages) (left : List Entry) : Type 0 where
  pub here : IsNamed g.page_size (images named.page.0) named.level named.file_no named.least
  pub each : AllByRecursion (IsChild g named.file_no images (named.level - 1)) left → AllByRecursion (IsChild g named.file_no images (named.level - 1)) (entries_on (images named.page.0))
  pub rest : AllByRecursion (IsChild g named.file_no images (named.level - 1)) (entries_on (images named.page.0)) → AllByRecursion (IsChild g named.file_no images (named.level - 1)) left
  pub numbers : page_numbers old.numbers.items ++ keys_under images named.level named.page.0 ≡ page_numbers now.numbers.items ++ keys_among images (named.level - 1) left
  pub index_pages : page_numbers old.index_pages.items ++ pages_under images named.level named.page.0 ≡ page_numbers now.index_pages.items ++ pages_among images (named.level - 1) left

-- what an entry names
abbrev pub child_of : Named → Entry → Named
child_of named e = record { page = e.page; level = named.level - 1; least = Some e.key; file_no = named.file_no }

module _ (g : Geometry) (images : Units) (named : Named) (old : FilePages) where
  pub walk_starts : (now : FilePages) (entries : List Entry) → named.level ≢ 0 → IsNamed g.page_size (images named.page.0) named.level named.file_no named.least → entries ≡ entries_on (images named.page.0)
      → now.numbers.items ≡ old.numbers.items → now.index_pages.items ≡ old.index_pages.items ++ (named.page ∷ []) → WalkedTo g images named old now entries
  walk_starts now entries level here read numbers index_pages =
      let above = above_leaf g named.file_no images named.level named.page.0 level in
      let m : ℕ = named.level - 1 in
      record {
        here = here;
        each = λ each. subst (AllByRecursion (IsChild g named.file_no images (named.level - 1))) read each;
        rest = λ each. subst (AllByRecursion (IsChild g named.file_no images (named.level - 1))) (sym read) each;
        numbers = ap (λ (t : List ℕ). page_numbers old.numbers.items ++ t) above.keys
            ∙ ap (λ (t : List Entry). page_numbers old.numbers.items ++ keys_among images (named.level - 1) t) (sym read)
            ∙ ap (λ (t : List PageNo). page_numbers t ++ keys_among images (named.level - 1) entries) (sym numbers);
        index_pages = ap (λ (t : List ℕ). page_numbers old.index_pages.items ++ t) above.pages
            ∙ ap (λ (t : List Entry). page_numbers old.index_pages.items ++ (named.page.0 ∷ pages_among images (named.level - 1) t)) (sym read)
            ∙ sym (append_assoc (page_numbers old.index_pages.items) (named.page.0 ∷ []) (pages_among images (named.level - 1) entries))
            ∙ ap (λ (t : List ℕ). t ++ pages_among images (named.level - 1) entries) (sym (ap page_numbers index_pages ∙ numbers-append old.index_pages.items (named.page ∷ [])));
      }

  pub walk_steps : (now next : FilePages) (e : Entry) (left : List Entry) → WalkedTo g images named old now (e ∷ left) → AddsIndex g images (child_of named e) now next → WalkedTo g images named old next left
  walk_steps now next e left w adds = record {
    here = w.here;
    each = λ each. w.each (adds.whole, each);
    rest = λ each. (w.rest each).1;
    numbers = w.numbers ∙ sym (append_assoc (page_numbers now.numbers.items) (keys_under images (named.level - 1) e.page.0) (keys_among images (named.level - 1) left))
        ∙ ap (λ (t : List ℕ). t ++ keys_among images (named.level - 1) left) (sym adds.numbers);
    index_pages = w.index_pages ∙ sym (append_assoc (page_numbers now.index_pages.items) (pages_under images (named.level - 1) e.page.0) (pages_among images (named.level - 1) left))
        ∙ ap (λ (t : List ℕ). t ++ pages_among images (named.level - 1) left) (sym adds.index_pages);
  }

  pub walk_ends : (now : FilePages) → named.level ≢ 0 → IsFilesPage g named.page.0 → WalkedTo g images named old now [] → AddsIndex g images named old now
  walk_ends now level files w = record {
    whole = (above_leaf g named.file_no images named.level named.page.0 level).closed named.least files w.here (w.each tt);
    numbers = sym (w.numbers ∙ append-nil (page_numbers now.numbers.items));
    index_pages = sym (w.index_pages ∙ append-nil (page_numbers now.index_pages.items));
  }

  -- an entry that is not free among what is left
  pub walk_fails : (u v : UnitSet) (now : FilePages) (e : Entry) (left : List Entry) → named.level ≢ 0 → WalkedTo g images named old now (e ∷ left) → AddsPages g u v old now
      → (IsFreeIndex g images (used_at v) (child_of named e) → ⊥) → IsFreeIndex g images (used_at u) named → ⊥
  walk_fails u v now e left level w adds never free = never (record {
    whole = (w.rest ((above_leaf g named.file_no images named.level named.page.0 level).each named.least free.whole)).0;
    once = λ p. omega (
      arith,
      free.once p,
      adds.counted p,
      ap (times p) w.numbers,
      times-append p (page_numbers old.numbers.items) (keys_under images named.level named.page.0),
      times-append p (page_numbers now.numbers.items) (keys_among images (named.level - 1) (e ∷ left)),
      times-append p (keys_under images (named.level - 1) e.page.0) (keys_among images (named.level - 1) left),
      ap (times p) w.index_pages,
      times-append p (page_numbers old.index_pages.items) (pages_under images named.level named.page.0),
      times-append p (page_numbers now.index_pages.items) (pages_among images (named.level - 1) (e ∷ left)),
      times-append p (pages_under images (named.level - 1) e.page.0) (pages_among images (named.level - 1) left),
      times-append p (page_numbers old.numbers.items) (page_numbers old.index_pages.items),
      times-append p (page_numbers now.numbers.items) (page_numbers now.index_pages.items),
    );
  })

-- ---- index by index

-- the pages of one more file
pub pages_push : (files : List FilePages) (file : FilePages) → flat_map walked_pages (files ++ (file ∷ [])) ≡ flat_map walked_pages files ++ walked_pages file
pages_push files file = flat_map-append walked_pages files (file ∷ []) ∙ ap (λ (t : List ℕ). flat_map walked_pages files ++ t) (append-nil (walked_pages file))

-- how far the entries of the catalog were walked
pub record IndexesTo (g : Geometry) (images : Units) (all left : List FileEntry) (files : List FilePages) : Type 0 where
  pub each : (rest : List FilePages) → AllZip (IsWalked g images) left rest → AllZip (IsWalked g images) all (files ++ rest)
  pub rest : AllByRecursion (IsEntryIndex g images) all → AllByRecursion (IsEntryIndex g images) left
  pub pages : flat_map (pages_named images) all ≡ flat_map walked_pages files ++ flat_map (pages_named images) left

module _ (g : Geometry) (images : Units) (all : List FileEntry) where
  pub indexes_start : IndexesTo g images all all []
  indexes_start = record { each = λ rest h. h; rest = λ h. h; pages = refl }

  pub indexes_step : (e : FileEntry) (left : List FileEntry) (files : List FilePages) (file : FilePages) → IndexesTo g images all (e ∷ left) files → IsWalked g images e file → IndexesTo g images all left (files ++ (file ∷ []))
  indexes_step e left files file to walked =
      let same : pages_named images e ≡ walked_pages file =
      ap (λ (t : List ℕ). t ++ pages_of images e.level e.root) (sym walked.numbers) ∙ ap (λ (t : List ℕ). page_numbers file.numbers.items ++ t) (sym walked.index_pages) in
      record {
        each = λ rest h. subst (AllZip (IsWalked g images) all) (sym (append_assoc files (file ∷ []) rest)) (to.each (file ∷ rest) (walked, h));
        rest = λ h. (to.rest h).1;
        pages = to.pages ∙ sym (append_assoc (flat_map walked_pages files) (pages_named images e) (flat_map (pages_named images) left))
            ∙ ap (λ (t : List ℕ). (flat_map walked_pages files ++ t) ++ flat_map (pages_named images) left) same
            ∙ ap (λ (t : List ℕ). t ++ flat_map (pages_named images) left) (sym (pages_push files file));
      }

  pub indexes_end : (files : List FilePages) → IndexesTo g images all [] files → AllZip (IsWalked g images) all files
  indexes_end files to = subst (AllZip (IsWalked g images) all) (append-nil files) (to.each [] tt)

  pub indexes_fail : (u v : UnitSet) (e : FileEntry) (left : List FileEntry) (files : List FilePages) → IndexesTo g images all (e ∷ left) files → CountsUsed u v [] (flat_map walked_pages files)
      → (AreFreeIndexes g images (used_at v) (e ∷ []) → ⊥) → AreFreeIndexes g images (used_at u) all → ⊥
  indexes_fail u v e left files to counted never free = never (record {
    whole = ((to.rest free.whole).0, tt);
    once = λ p. omega (
      arith,
      free.once p,
      counted p,
      ap (times p) to.pages,
      times-append p (flat_map walked_pages files) (flat_map (pages_named images) (e ∷ left)),
      times-append p (pages_named images e) (flat_map (pages_named images) left),
      ap (times p) (append-nil (pages_named images e)),
    );
  })

pub counted_on : (u v w : UnitSet) (xs ys zs : List ℕ) → CountsUsed u v [] xs → CountsUsed v w [] ys → zs ≡ xs ++ ys → CountsUsed u w [] zs
counted_on u v w xs ys zs one two is p = omega (arith, one p, two p, ap (times p) is, times-append p xs ys)

-- ---- one index

-- what an entry with a root names
abbrev pub root_named : FileEntry → PageNo → Named
root_named entry root = record { page = root; level = entry.level; least = None; file_no = entry.file_no }

abbrev pub with_root : FileEntry → Option PageNo → FileEntry
with_root entry root = record { name = entry.name; level = entry.level; root = root; file_no = entry.file_no }

pub root_added : (g : Geometry) (images : Units) (entry : FileEntry) (root : PageNo) (old new : FilePages) → entry.root ≡ Some root → AddsIndex g images (root_named entry root) old new → AddsRoot g images entry old new
root_added g images entry root old new is adds =
    let here : AddsRoot g images (with_root entry (Some root)) old new = record { whole = adds.whole; numbers = adds.numbers; index_pages = adds.index_pages } in
    subst (λ (r : Option PageNo). AddsRoot g images (with_root entry r) old new) (sym is) here

pub root_free : (g : Geometry) (images : Units) (used : ℕ → Bool) (entry : FileEntry) (root : PageNo) → entry.root ≡ Some root → IsFreeRoot g images used entry → IsFreeIndex g images used (root_named entry root)
root_free g images used entry root is free =
    let here : IsFreeRoot g images used (with_root entry (Some root)) = subst (λ (r : Option PageNo). IsFreeRoot g images used (with_root entry r)) is free in
    record { whole = here.whole; once = here.once }

pub none_added : (g : Geometry) (images : Units) (entry : FileEntry) (old : FilePages) → entry.root ≡ None → entry.level ≡ 0 → AddsRoot g images entry old old
none_added g images entry old is level =
    let here : AddsRoot g images (with_root entry None) old old = record {
      whole = level;
      numbers = sym (append-nil (page_numbers old.numbers.items));
      index_pages = sym (append-nil (page_numbers old.index_pages.items));
    } in
    subst (λ (r : Option PageNo). AddsRoot g images (with_root entry r) old old) (sym is) here

pub none_free : (g : Geometry) (images : Units) (used : ℕ → Bool) (entry : FileEntry) → entry.root ≡ None → IsFreeRoot g images used entry → entry.level ≡ 0
none_free g images used entry is free =
    let here : IsFreeRoot g images used (with_root entry None) = subst (λ (r : Option PageNo). IsFreeRoot g images used (with_root entry r)) is free in
    here.whole

pub nothing_added : (g : Geometry) (u : UnitSet) (old : FilePages) → AddsPages g u u old old
nothing_added g u old = record { counted = λ p. refl; area = λ each. each; index_area = λ each. each }

-- ---- one file

module _ (g : Geometry) (images : Units) (entry : FileEntry) (empty file : FilePages) (no_numbers : empty.numbers.items ≡ []) (no_pages : empty.index_pages.items ≡ []) where
  numbers_are : AddsRoot g images entry empty file → page_numbers file.numbers.items ≡ keys_of images entry.level entry.root
  numbers_are adds = adds.numbers ∙ ap (λ (t : List PageNo). page_numbers t ++ keys_of images entry.level entry.root) no_numbers

  pages_are : AddsRoot g images entry empty file → page_numbers file.index_pages.items ≡ pages_of images entry.level entry.root
  pages_are adds = adds.index_pages ∙ ap (λ (t : List PageNo). page_numbers t ++ pages_of images entry.level entry.root) no_pages

  -- an index whose pages rise and came into use, each once
  pub file_walked : (u v : UnitSet) → AddsRoot g images entry empty file → AddsPages g u v empty file → Rising (page_numbers file.numbers.items) → IsWalked g images entry file
  file_walked u v adds counted rising = record {
    whole = record {
      whole = adds.whole;
      rising = subst Rising (numbers_are adds) rising;
      once = λ p. omega (
        arith,
        counted.counted p,
        ap (λ (t : List PageNo). times p (page_numbers t)) no_numbers,
        ap (λ (t : List PageNo). times p (page_numbers t)) no_pages,
        times-append p (page_numbers empty.numbers.items) (page_numbers empty.index_pages.items),
        times-append p (page_numbers file.numbers.items) (page_numbers file.index_pages.items),
        ap (times p) (pages_are adds),
        count_most (used_at v p),
      );
    };
    numbers = numbers_are adds;
    index_pages = pages_are adds;
  }

  -- the pages under a free index rise
  pub file_rises : (used : ℕ → Bool) → AddsRoot g images entry empty file → AreFreeIndexes g images used (entry ∷ []) → Rising (page_numbers file.numbers.items)
  file_rises used adds free = subst Rising (sym (numbers_are adds)) free.whole.0.rising

pub file_used : (g : Geometry) (u v : UnitSet) (empty file : FilePages) → empty.numbers.items ≡ [] → empty.index_pages.items ≡ [] → AddsPages g u v empty file → CountsUsed u v [] (walked_pages file)
file_used g u v empty file no_numbers no_pages adds p = omega (
  arith,
  adds.counted p,
  ap (λ (t : List PageNo). times p (page_numbers t)) no_numbers,
  ap (λ (t : List PageNo). times p (page_numbers t)) no_pages,
  times-append p (page_numbers empty.numbers.items) (page_numbers empty.index_pages.items),
)

pub file_area : (g : Geometry) (u v : UnitSet) (empty file : FilePages) → empty.numbers.items ≡ [] → empty.index_pages.items ≡ [] → AddsPages g u v empty file → IsInArea g file
file_area g u v empty file no_numbers no_pages adds = (
  adds.area (subst (λ (t : List PageNo). AllByRecursion (InPageArea g) (page_numbers t)) (sym no_numbers) tt),
  adds.index_area (subst (λ (t : List PageNo). AllByRecursion (InPageArea g) (page_numbers t)) (sym no_pages) tt),
)

-- all pages of files that lie there
pub pages_inside : (g : Geometry) (files : List FilePages) → AllByRecursion (IsInArea g) files → AllByRecursion (InPageArea g) (flat_map walked_pages files)
pages_inside g [] inside = tt
pages_inside g (file ∷ files) inside =
    each-append (InPageArea g) (walked_pages file) (flat_map walked_pages files) (each-append (InPageArea g) (page_numbers file.numbers.items) (page_numbers file.index_pages.items) inside.0.0 inside.0.1) (pages_inside g files inside.1)

pub entry_free : (g : Geometry) (images : Units) (used : ℕ → Bool) (entry : FileEntry) → AreFreeIndexes g images used (entry ∷ []) → IsFreeRoot g images used entry
entry_free g images used entry free = record {
  whole = free.whole.0.whole;
  once = λ p. omega (
    arith,
    free.once p,
    times-append p (keys_of images entry.level entry.root ++ pages_of images entry.level entry.root) [],
    times-append p (keys_of images entry.level entry.root) (pages_of images entry.level entry.root),
  );
}
