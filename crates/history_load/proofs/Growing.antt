-- The files that stand, with one more.
use Rattle.std.proofs.Common.{◌≡◌, ◌<◌, ◌≤◌, ℕ, List, [], ◌∷◌, ◌++◌, refl, sym, ap, subst, ◌∙◌, arith, inl, inr, append_assoc}
use Rattle.std.specs.List.{AllByRecursion, AllZip, flat_map, zip}
use Rattle.std.proofs.lemmas.List.{append-nil}
use Rattle.std.proofs.lemmas.Slice.Zip.{all_zipped_more}
use Rattle.ex_base.specs.declared.geometry.Geometry.{Geometry}
use Rattle.ex_base.specs.Order.{AllDiffer}
use Rattle.ex_base.specs.Ports.{times}
use Rattle.ex_base.proofs.Counts.{differ_once, none_or_some, once_differ, times-append, times_contains}
use Rattle.ex_base.proofs.Each.{each_as, each_of, each_parted, split_each, zip_with}
use Rattle.ex_base.proofs.Rows.{each-append}
use Rattle.object_files.specs.Catalog.{FileEntry}
use Rattle.trees.specs.Trees.{Units}
use Rattle.volume_model.specs.Parts.{HasIndex, HasPages, IsStored, bodies_in}
use Rattle.volume_model.specs.SameVolume.{PagesKept, index_kept, pages_kept}
use Rattle.volume_model.specs.Volume.{FileContent, pages_of_file}
use Rattle.history_model.specs.History.{HistoryFile}
use Rattle.history_volumes.specs.Histories.{IsFileOn}
use Rattle.history_writes.specs.Files.{AreFilesOn, HasNewer, HasOlder}
use Rattle.history_writes.specs.Places.{leaf_place, node_place}
use Rattle.history_load.specs.AtHand.{StandsAt}

-- from one page on up to another
abbrev LiesIn : ℕ → ℕ → ℕ → Type 0
LiesIn first end page = (first ≤ page) × (page < end)

-- ---- they stay

pub files_stay : (g : Geometry) (units later : Units) (first end : ℕ) (files : List HistoryFile) (entries : List FileEntry) → ((page : ℕ) → first ≤ page → page < end → later page ≡ units page) → AreFilesOn g units first end files entries → AreFilesOn g later first end files entries
files_stay g units later first end files entries same on =
    let kept = each_as (λ (f : FileContent). AllByRecursion (LiesIn first end) (pages_of_file f)) (PagesKept units later) on.contents
    (λ f lie. each_as (LiesIn first end) (λ (u : ℕ). later u ≡ units u) (pages_of_file f) (λ u within. same u within.0 within.1) lie)
    (each_parted (LiesIn first end) pages_of_file on.contents on.placed) in
    record {
      contents = on.contents;
      indexes = zip_with (PagesKept units later) (HasIndex g units) (HasIndex g later) entries on.contents (λ entry f stays has. index_kept g units later entry f (split_each (λ (u : ℕ). later u ≡ units u) f.numbers f.index_pages stays).1 has) kept on.indexes;
      pages = zip_with (PagesKept units later) (HasPages units) (HasPages later) entries on.contents (λ entry f stays has. pages_kept units later entry f.numbers f.pages (split_each (λ (u : ℕ). later u ≡ units u) f.numbers f.index_pages stays).0 has) kept on.pages;
      records = on.records;
      on = on.on;
      newer = on.newer;
      placed = on.placed;
      older = on.older;
      differ = on.differ;
    }

pub no_files_on : (g : Geometry) (units : Units) (first end : ℕ) → AreFilesOn g units first end [] []
no_files_on g units first end = record { contents = []; indexes = tt; pages = tt; records = tt; on = tt; newer = tt; placed = tt; older = tt; differ = tt }

-- ---- one more

pairs_more : {A B : Type 0} (R : A → B → Type 0) (xs : List A) (ys : List B) (x : A) (y : B) → AllZip R xs ys → zip (xs ++ x ∷ []) (ys ++ y ∷ []) ≡ zip xs ys ++ (x, y) ∷ []
pairs_more R [] [] x y are = refl
pairs_more R [] (z ∷ ys) x y are = absurd are
pairs_more R (z ∷ xs) [] x y are = absurd are
pairs_more {A} {B} R (z ∷ xs) (w ∷ ys) x y are = ap (λ (rest : List (A × B)). (z, w) ∷ rest) (pairs_more R xs ys x y are.1)

flat_more : {A : Type 0} (f : A → List ℕ) (xs : List A) (x : A) → flat_map f (xs ++ x ∷ []) ≡ flat_map f xs ++ f x
flat_more f [] x = append-nil (f x)
flat_more f (y ∷ xs) x = ap (λ (rest : List ℕ). f y ++ rest) (flat_more f xs x) ∙ sym (append_assoc (f y) (flat_map f xs) (f x))

wider : (first end low high : ℕ) (pages : List ℕ) → low ≤ first → end ≤ high → AllByRecursion (LiesIn first end) pages → AllByRecursion (LiesIn low high) pages
wider first end low high pages le ge lie = each_as (LiesIn first end) (LiesIn low high) pages (λ page within. (omega (arith, within.0), omega (arith, within.1))) lie

differ_joined : (first mid end : ℕ) (xs ys : List ℕ) → AllByRecursion (LiesIn first mid) xs → AllByRecursion (LiesIn mid end) ys → AllDiffer xs → AllDiffer ys → AllDiffer (xs ++ ys)
differ_joined first mid end xs ys left right one two = once_differ (xs ++ ys) (λ page. once page)
  where
    once : (page : ℕ) → times page (xs ++ ys) ≤ 1
    once page =
        let split = times-append page xs ys in
        let here = differ_once xs one page in
        let there = differ_once ys two page in
        elim (none_or_some (times page xs)) [
          | inl none ↦ omega arith
          | inr some ↦ elim (none_or_some (times page ys)) [
            | inl none ↦ omega arith
            | inr more ↦ (
                let low = each_of (LiesIn first mid) xs page left (times_contains page xs some) in
                let high = each_of (LiesIn mid end) ys page right (times_contains page ys more) in
                absurd (omega (arith, low.1, high.0)))
          ]
        ]

pub files_more : (g : Geometry) (units : Units) (first mid end : ℕ) (files : List HistoryFile) (entries : List FileEntry) (f : HistoryFile) (entry : FileEntry) → first ≤ mid → mid ≤ end → AreFilesOn g units first mid files entries → StandsAt g units mid end f entry
    → AreFilesOn g units first end (files ++ f ∷ []) (entries ++ entry ∷ [])
files_more g units first mid end files entries f entry low high on one =
    let row : zip (entries ++ entry ∷ []) (on.contents ++ one.content ∷ []) ≡ zip entries on.contents ++ (entry, one.content) ∷ [] = pairs_more (HasIndex g units) entries on.contents entry one.content on.indexes in
    let pages : flat_map pages_of_file (on.contents ++ one.content ∷ []) ≡ flat_map pages_of_file on.contents ++ pages_of_file one.content = flat_more pages_of_file on.contents one.content in
    record {
      contents = on.contents ++ one.content ∷ [];
      indexes = all_zipped_more (HasIndex g units) entries on.contents entry one.content on.indexes one.index;
      pages = all_zipped_more (HasPages units) entries on.contents entry one.content on.pages one.pages;
      records = each-append (λ (file : FileContent). AllZip IsStored (bodies_in file) file.stored) on.contents (one.content ∷ []) on.records (one.records, tt);
      on = subst (λ rows. AllZip (IsFileOn (leaf_place g) node_place) (files ++ f ∷ []) rows) (sym row) (all_zipped_more (IsFileOn (leaf_place g) node_place) files (zip entries on.contents) f (entry, one.content) on.on one.on);
      newer = each-append (λ (file : FileContent). AllByRecursion (HasNewer file.stored) file.stored) on.contents (one.content ∷ []) on.newer (one.newer, tt);
      placed = subst (λ (ps : List ℕ). AllByRecursion (LiesIn first end) ps) (sym pages) (each-append (LiesIn first end) (flat_map pages_of_file on.contents) (pages_of_file one.content)
          (wider first mid first end (flat_map pages_of_file on.contents) (omega arith) high on.placed) (wider mid end first end (pages_of_file one.content) low (omega arith) one.placed));
      older = each-append (λ (file : FileContent). AllByRecursion (HasOlder file.stored) file.stored) on.contents (one.content ∷ []) on.older (one.older, tt);
      differ = subst (λ (ps : List ℕ). AllDiffer ps) (sym pages) (differ_joined first mid end (flat_map pages_of_file on.contents) (pages_of_file one.content) on.placed one.placed on.differ one.differ);
    }
