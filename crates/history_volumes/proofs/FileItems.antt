-- The files of a volume's history, and its head, are items of a stream.
use Rattle.std.proofs.Common.{◌≡◌, ◌≤◌, ◌<◌, ◌+◌, ◌-◌, ◌*◌, ◌^◌, ℕ, suc, Bool, true, false, List, [], ◌∷◌, length, map, Option, Some, None, refl, ap, ◌∙◌, arith, inl}
use Rattle.std.specs.Prelude.{IsSome, if◌then◌else◌, nat_le}
use Rattle.std.specs.List.{flat_map, AllZip, zip}
use Rattle.std.proofs.lemmas.List.{length-append, length-map}
use Rattle.std.proofs.lemmas.List.Sorted.{length_permutation}
use Rattle.std.proofs.lemmas.Option.{none-some, same_Some}
use Rattle.std.proofs.lemmas.Slice.Zip.{AllZip-long}
use Rattle.ex_base.specs.declared.names.PageNo.{PageNo}
use Rattle.ex_base.specs.declared.names.Place.{Place}
use Rattle.ex_base.specs.declared.names.Root.{Root}
use Rattle.ex_base.specs.Even.{sum_of}
use Rattle.ex_base.specs.Fields.{IsPageField}
use Rattle.ex_base.specs.Order.{Rising}
use Rattle.object_files.specs.Catalog.{FileEntry, name_of}
use Rattle.object_records.specs.Record.{IsRootField}
use Rattle.version_lists.specs.Sorted.{in_order}
use Rattle.version_lists.proofs.Lists.{Has, Rises}
use Rattle.version_lists.proofs.Sorted.{order_permutation}
use Rattle.volume_model.specs.Volume.{FileContent, Stored, number_at, number_if, stands_at, unique_of}
use Rattle.volume_model.proofs.Places.{stands_has}
use Rattle.history_model.specs.FilePages.{pages_filled, pages_for, record_size}
use Rattle.history_model.specs.History.{HistoryFile, HistoryVersion, number_in}
use Rattle.history_volumes.specs.Transcribed.{place_of}
use Rattle.history_volumes.specs.Histories.{IsFileOn, IsVersionOn, page_placed, root_placed}

-- ---- the pages that a history needs are few

pub filled_most : (page_size room : ℕ) (sizes : List ℕ) → pages_filled page_size room sizes ≤ length sizes
filled_most page_size room [] = omega arith
filled_most page_size room (n ∷ sizes) = by (nat_le (n + 4) room) (filled_most page_size (room - (n + 4)) sizes) (filled_most page_size (page_size - 16 - (n + 4)) sizes)
  where
    by : (b : Bool) → pages_filled page_size (room - (n + 4)) sizes ≤ length sizes → pages_filled page_size (page_size - 16 - (n + 4)) sizes ≤ length sizes
        → (if b then pages_filled page_size (room - (n + 4)) sizes else suc (pages_filled page_size (page_size - 16 - (n + 4)) sizes)) ≤ suc (length sizes)
    by true one other = omega (arith, one)
    by false one other = omega (arith, other)

file_most : (page_size : ℕ) (f : HistoryFile) → pages_for page_size f ≤ 2 * length f.versions + 4
file_most page_size f =
    let q = filled_most page_size 0 (map (λ (v : HistoryVersion). record_size v.content) f.versions) in
    let n = length-map f.versions (λ (v : HistoryVersion). record_size v.content) in
    omega (arith, q, n)

pub needed_most : (page_size : ℕ) (files : List HistoryFile) → sum_of (pages_for page_size) files ≤ 2 * length (flat_map (λ (f : HistoryFile). f.versions) files) + 4 * length files
needed_most page_size [] = omega arith
needed_most page_size (f ∷ files) =
    omega (arith, file_most page_size f, needed_most page_size files, length-append f.versions (flat_map (λ (x : HistoryFile). x.versions) files))

-- ---- as many versions as records

module _ (leaf node : ℕ → ℕ) where
  pub file_long : (f : HistoryFile) (row : FileEntry × FileContent) → IsFileOn leaf node f row → length f.versions ≡ length row.1.stored
  file_long f row is =
      let a = AllZip-long (IsVersionOn leaf node row.1.stored) f.versions (in_order unique_of row.1.stored) is.versions in
      let b = length_permutation row.1.stored (in_order unique_of row.1.stored) (order_permutation unique_of row.1.stored) in
      omega (arith, a, b)

  pub files_long : (fs : List HistoryFile) (entries : List FileEntry) (files : List FileContent) → AllZip (IsFileOn leaf node) fs (zip entries files) → length (flat_map (λ (f : HistoryFile). f.versions) fs) ≤ length (flat_map (λ (f : FileContent). f.stored) files)
  files_long [] entries files both = omega arith
  files_long (f ∷ fs) [] files both = absurd both
  files_long (f ∷ fs) (e ∷ entries) [] both = absurd both
  files_long (f ∷ fs) (e ∷ entries) (x ∷ files) both =
      omega (
        arith,
        file_long f (e, x) both.0,
        files_long fs entries files both.1,
        length-append f.versions (flat_map (λ (y : HistoryFile). y.versions) fs),
        length-append x.stored (flat_map (λ (y : FileContent). y.stored) files),
      )

  -- ---- names

  pub names_same : (P : FileEntry → FileContent → Type 0) (fs : List HistoryFile) (entries : List FileEntry) (files : List FileContent) → AllZip P entries files → AllZip (IsFileOn leaf node) fs (zip entries files)
      → map (λ (f : HistoryFile). f.name) fs ≡ map name_of entries
  names_same P [] [] files parts both = refl
  names_same P [] (e ∷ entries) [] parts both = absurd parts
  names_same P [] (e ∷ entries) (x ∷ files) parts both = absurd both
  names_same P (f ∷ fs) [] files parts both = absurd both
  names_same P (f ∷ fs) (e ∷ entries) [] parts both = absurd parts
  names_same P (f ∷ fs) (e ∷ entries) (x ∷ files) parts both =
      ap (λ (n : List ℕ). n ∷ map (λ (y : HistoryFile). y.name) fs) both.0.name ∙ ap (λ (ns : List (List ℕ)). e.name ∷ ns) (names_same P fs entries files parts.1 both.1)

  -- ---- versions in order of their numbers

  pub numbers_same : (stored : List Stored) (ws : List HistoryVersion) (xs : List Stored) → AllZip (IsVersionOn leaf node stored) ws xs → map number_in ws ≡ map unique_of xs
  numbers_same stored [] [] both = refl
  numbers_same stored [] (s ∷ xs) both = absurd both
  numbers_same stored (w ∷ ws) [] both = absurd both
  numbers_same stored (w ∷ ws) (s ∷ xs) both =
      ap (λ (n : ℕ). n ∷ map number_in ws) both.0.unique ∙ ap (λ (ns : List ℕ). unique_of s ∷ ns) (numbers_same stored ws xs both.1)

  -- ---- roots with numbers in the place of places

  pub root_field : (root : Root) → IsRootField (root_placed leaf node root) → ((number : PageNo) → root.page ≡ Some number → (0 < number.0) × (number.0 < 2 ^ 32)) → IsRootField root
  root_field root is number = record {
    height = is.height;
    size = is.size;
    page = by root.page number;
    empty = λ none. let e = is.empty none in (e.0, unplaced (place_of leaf node root.height) root.page e.1);
    named = λ some. unplaced_some (place_of leaf node root.height) root.page (is.named some);
  }
    where
      by : (page : Option PageNo) → ((number : PageNo) → page ≡ Some number → (0 < number.0) × (number.0 < 2 ^ 32)) → IsPageField page
      by None number = tt
      by (Some page) number = number page refl

      unplaced : (place : ℕ → ℕ) (page : Option PageNo) → page_placed place page ≡ None → page ≡ None
      unplaced place None e = refl
      unplaced place (Some page) e = absurd cc

      unplaced_some : (place : ℕ → ℕ) (page : Option PageNo) → IsSome (page_placed place page) → IsSome page
      unplaced_some place None e = e
      unplaced_some place (Some page) e = refl

pub rising_of : (xs : List Stored) → Rises unique_of xs → Rising (map unique_of xs)
rising_of [] rise = tt
rising_of (s ∷ []) rise = tt
rising_of (s ∷ t ∷ xs) rise = (rise.0 t (inl refl), rising_of (t ∷ xs) rise.1)

-- ---- the number of an older version is a record's

pub number_of_record : (stored : List Stored) (link : Option Place) (number : ℕ) → number_at stored link ≡ Some number → (s : Stored) × Has stored s × (unique_of s ≡ number)
number_of_record stored None number is = absurd (none-some number is)
number_of_record stored (Some place) number is = by (stands_at place stored) refl is
  where
    by : (o : Option Stored) → stands_at place stored ≡ o → number_if o ≡ Some number → (s : Stored) × Has stored s × (unique_of s ≡ number)
    by None found e = absurd (none-some number e)
    by (Some s) found e = (s, (stands_has stored place s found).0, same_Some (unique_of s) number e)
