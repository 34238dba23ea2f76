-- The objects of all files, file by file: no object of one file is one of another.
use Rattle.std.proofs.Common.{◌≡◌, ◌<◌, ◌≤◌, ◌+◌, ℕ, suc, List, [], ◌∷◌, ◌++◌, length, map, Option, Some, None, refl, sym, ap, subst, ◌∙◌, ◌⊎◌, ⊎_elim, inl, inr, arith, append_assoc}
use Rattle.std.specs.List.{flat_map, AllByRecursion}
use Rattle.std.proofs.lemmas.List.{append-nil, length-append, length-map, map-append}
use Rattle.ex_base.specs.declared.names.Place.{Place}
use Rattle.ex_base.specs.Ports.{times}
use Rattle.ex_base.proofs.Counts.{contains_times, times-append}
use Rattle.slotted_pages.specs.FilePage.{Slot}
use Rattle.slotted_pages.specs.Reads.{page_on}
use Rattle.trees.specs.Trees.{Units}
use Rattle.version_lists.proofs.Lists.{Has, contains_has, has_back, has_contains, has_either, has_flat_from, has_front, has_map, has_map_from}
use Rattle.volume_model.specs.Volume.{Stored, stands_at}
use Rattle.volume_model.specs.Links.{IsOlder}
use Rattle.volume_model.specs.Parts.{bodies_from}
use Rattle.volume_model.proofs.Links.{linked_olders, older_at}
use Rattle.volume_model.proofs.Places.{each_has, stands_has, stands_none}
use Rattle.file_walk.specs.declared.Found.{Found}
use Rattle.file_walk.specs.declared.records.Standing.{Standing}
use Rattle.file_walk.specs.declared.indexes.FilePages.{FilePages}
use Rattle.file_walk.specs.Indexes.{walked_pages}
use Rattle.file_walk.specs.Objects.{AreObjects, found_of, found_with}
use Rattle.file_walk.specs.Records.{AddsFile, AddsFiles, files_rows, rows_among, rows_of, rows_on, standing_at, stored_at}
use Rattle.file_walk.specs.Walk.{page_numbers}
use Rattle.file_walk.proofs.Contents.{good_links, label_objects}

-- the bodies of a file
abbrev Rows : Type 0
Rows = List (Place × List ℕ)

abbrev pub stored_in : Rows → List Stored
stored_in rows = map stored_at rows

-- the records of files
abbrev pub all_stored : List Rows → List Stored
all_stored files = flat_map stored_in files

-- ---- records of two files stand at different places

abbrev Elsewhere : Rows → List Rows → Type 0
Elsewhere rows rest = (s t : Stored) → Has (stored_in rows) s → Has (all_stored rest) t → s.place ≡ t.place → ⊥

abbrev pub FilesApart : List Rows → Type 0
FilesApart [] = Unit {0}
FilesApart (rows ∷ rest) = Elsewhere rows rest × FilesApart rest

body_page : (page slot : ℕ) (slots : List Slot) (row : Place × List ℕ) → Has (bodies_from page slot slots) row → row.0.page.0 ≡ page
body_page page slot [] row h = absurd h
body_page page slot (None ∷ slots) row h = body_page page (suc slot) slots row h
body_page page slot (Some body ∷ slots) row (inl same) = ap (λ (r : Place × List ℕ). r.0.page.0) (sym same)
body_page page slot (Some body ∷ slots) row (inr h) = body_page page (suc slot) slots row h

record_page : (images : Units) (ns : List ℕ) (s : Stored) → Has (stored_in (rows_among images ns)) s → Has ns s.place.page.0
record_page images ns s h =
    let row = has_map_from stored_at (rows_among images ns) s h in
    let page = has_flat_from (rows_on images) ns row.0 row.1 in
    subst (Has ns) (sym (body_page page.0 0 (page_on (images page.0)).slots row.0 page.2) ∙ ap (λ (t : Stored). t.place.page.0) row.2) page.1

record_pages : (images : Units) (files : List FilePages) (s : Stored) → Has (all_stored (files_rows images files)) s → Has (flat_map walked_pages files) s.place.page.0
record_pages images [] s h = absurd h
record_pages images (f ∷ files) s h = ⊎_elim
    (λ here. has_front (walked_pages f) (flat_map walked_pages files) s.place.page.0 (has_front (page_numbers f.numbers.items) (page_numbers f.index_pages.items) s.place.page.0 (record_page images (page_numbers f.numbers.items) s here)))
    (λ rest. has_back (walked_pages f) (flat_map walked_pages files) s.place.page.0 (record_pages images files s rest))
    (has_either (stored_in (rows_of images f)) (all_stored (files_rows images files)) s h)

pub files_apart : (images : Units) (files : List FilePages) → ((page : ℕ) → times page (flat_map walked_pages files) ≤ 1) → FilesApart (files_rows images files)
files_apart images [] once = tt
files_apart images (f ∷ files) once = (
  λ s t here there same.
      let own = has_front (page_numbers f.numbers.items) (page_numbers f.index_pages.items) s.place.page.0 (record_page images (page_numbers f.numbers.items) s here) in
      let other = subst (Has (flat_map walked_pages files)) (sym (ap (λ (p : Place). p.page.0) same)) (record_pages images files t there) in
      absurd (omega (
        arith,
        once s.place.page.0,
        times-append s.place.page.0 (walked_pages f) (flat_map walked_pages files),
        contains_times s.place.page.0 (walked_pages f) (has_contains (walked_pages f) s.place.page.0 own),
        contains_times s.place.page.0 (flat_map walked_pages files) (has_contains (flat_map walked_pages files) s.place.page.0 other),
      )),
  files_apart images files (λ page. omega (arith, once page, times-append page (walked_pages f) (flat_map walked_pages files))),
)

-- ---- objects of files that follow one another

-- Records of files were added, with objects above those of all records before.
pub record Joined (old new : List Found) (files : List Rows) : Type 0 where
  pub object : Place → ℕ
  pub joined : (s older : Stored) → Has (all_stored files) s → Has (all_stored files) older → s.body.head.older ≡ Some older.place → object s.place ≡ object older.place
  pub one_first : (s t : Stored) → Has (all_stored files) s → Has (all_stored files) t → s.body.head.older ≡ None → t.body.head.older ≡ None → object s.place ≡ object t.place → s.place ≡ t.place
  pub above : (s : Stored) → Has (all_stored files) s → length old ≤ object s.place
  pub olders : (s : Stored) → Has (all_stored files) s → (place : Place) → s.body.head.older ≡ Some place → (o : Stored) × Has (all_stored files) o × (o.place ≡ place)
  pub added : new ≡ old ++ map (found_of object) (all_stored files)

none_joined : (old new : List Found) → new ≡ old → Joined old new []
none_joined old new same = record {
  object = λ place. 0;
  joined = λ s older h. absurd h;
  one_first = λ s t h. absurd h;
  above = λ s h. absurd h;
  olders = λ s h. absurd h;
  added = same ∙ sym (append-nil old);
}

abbrev pick : Option Stored → ℕ → ℕ → ℕ
pick None a b = b
pick (Some s) a b = a

map_has : {A B : Type 0} (f g : A → B) (xs : List A) → ((x : A) → Has xs x → f x ≡ g x) → map f xs ≡ map g xs
map_has f g [] same = refl
map_has {A} {B} f g (x ∷ xs) same = ap (λ (b : B). b ∷ map f xs) (same x (inl refl)) ∙ ap (λ (t : List B). g x ∷ t) (map_has f g xs (λ y h. same y (inr h)))

module _ (old mid new : List Found) (rows : Rows) (rest : List Rows) (elsewhere : Elsewhere rows rest) (adds : AddsFile old mid rows) (more : Joined mid new rest) where
  abbrev here : List Stored
  here = stored_in rows

  abbrev label : Place → ℕ
  label = adds.numbered.label

  labels : AreObjects here label
  labels = label_objects rows label adds.numbered.objects

  abbrev object : Place → ℕ
  object place = pick (stands_at place here) (length old + label place) (more.object place)

  own : (s : Stored) → Has here s → object s.place ≡ length old + label s.place
  own s h = by (stands_at s.place here) refl
    where
      by : (o : Option Stored) → stands_at s.place here ≡ o → pick o (length old + label s.place) (more.object s.place) ≡ length old + label s.place
      by None e = absurd (stands_none here s.place s e h refl)
      by (Some t) e = refl

  behind : (s : Stored) → Has (all_stored rest) s → object s.place ≡ more.object s.place
  behind s h = by (stands_at s.place here) refl
    where
      by : (o : Option Stored) → stands_at s.place here ≡ o → pick o (length old + label s.place) (more.object s.place) ≡ more.object s.place
      by None e = refl
      by (Some t) e = let r = stands_has here s.place t e in absurd (elsewhere t s r.0 h r.1)

  count : length mid ≡ length old + length rows
  count =
      ap length adds.numbered.added ∙ length-append old _
      ∙ ap (λ (n : ℕ). length old + n) (length-map (map standing_at rows) (λ (s : Standing). found_with (length old + label s.linked.place) s) ∙ length-map rows standing_at)

  below : (s : Stored) → Has here s → label s.place < length rows
  below s h =
      let row = has_map_from stored_at rows s h in
      let at : label (standing_at row.0).linked.place < length (map standing_at rows) =
      each_has (λ (x : Standing). label x.linked.place < length (map standing_at rows)) (map standing_at rows) adds.numbered.within (standing_at row.0) (has_map standing_at rows row.0 row.1) in
      omega (arith, at, length-map rows standing_at, ap (λ (t : Stored). label t.place) row.2)

  older_here : (s : Stored) → Has here s → (place : Place) → s.body.head.older ≡ Some place → (o : Stored) × Has here o × (o.place ≡ place)
  older_here s h place named = let o = older_at here (linked_olders here (good_links rows adds.good)) s h place named in (o.older, contains_has here o.older o.there, o.place_is)

  front : (s : Stored) → Has (here ++ all_stored rest) s → Has here s ⊎ Has (all_stored rest) s
  front s h = has_either here (all_stored rest) s h

  joined : (s older : Stored) → Has here s ⊎ Has (all_stored rest) s → Has here older ⊎ Has (all_stored rest) older → s.body.head.older ≡ Some older.place → object s.place ≡ object older.place
  joined s older (inl h) (inl k) named = own s h ∙ ap (λ (n : ℕ). length old + n) (labels.joined s older (has_contains here s h) (has_contains here older k) named) ∙ sym (own older k)
  joined s older (inl h) (inr k) named = let o = older_here s h older.place named in absurd (elsewhere o.0 older o.1 k o.2)
  joined s older (inr h) (inl k) named = let o = more.olders s h older.place named in absurd (elsewhere older o.0 k o.1 (sym o.2))
  joined s older (inr h) (inr k) named = behind s h ∙ more.joined s older h k named ∙ sym (behind older k)

  far : (s t : Stored) → Has here s → Has (all_stored rest) t → object s.place ≡ object t.place → ⊥
  far s t h k same = absurd (omega (arith, own s h, below s h, count, more.above t k, behind t k, same))

  one_first : (s t : Stored) → Has here s ⊎ Has (all_stored rest) s → Has here t ⊎ Has (all_stored rest) t → s.body.head.older ≡ None → t.body.head.older ≡ None → object s.place ≡ object t.place → s.place ≡ t.place
  one_first s t (inl h) (inl k) none too same = labels.one_first s t (has_contains here s h) (has_contains here t k) none too (omega (arith, own s h, own t k, same))
  one_first s t (inl h) (inr k) none too same = absurd (far s t h k same)
  one_first s t (inr h) (inl k) none too same = absurd (far t s k h (sym same))
  one_first s t (inr h) (inr k) none too same = more.one_first s t h k none too (sym (behind s h) ∙ same ∙ behind t k)

  above : (s : Stored) → Has here s ⊎ Has (all_stored rest) s → length old ≤ object s.place
  above s (inl h) = omega (arith, own s h)
  above s (inr h) = omega (arith, behind s h, more.above s h, count)

  olders : (s : Stored) → Has here s ⊎ Has (all_stored rest) s → (place : Place) → s.body.head.older ≡ Some place → (o : Stored) × Has (here ++ all_stored rest) o × (o.place ≡ place)
  olders s (inl h) place named = let o = older_here s h place named in (o.0, has_front here (all_stored rest) o.0 o.1, o.2)
  olders s (inr h) place named = let o = more.olders s h place named in (o.0, has_back here (all_stored rest) o.0 o.1, o.2)

  abbrev listed : Place × List ℕ → Found
  listed row = found_of object (stored_at row)

  front_added : map (λ (s : Standing). found_with (length old + label s.linked.place) s) (map standing_at rows) ≡ map (found_of object) here
  front_added = by rows (λ row h. own (stored_at row) (has_map stored_at rows row h))
    where
      by : (some : Rows) → ((row : Place × List ℕ) → Has some row → object (stored_at row).place ≡ length old + label (stored_at row).place)
          → map (λ (s : Standing). found_with (length old + label s.linked.place) s) (map standing_at some) ≡ map (found_of object) (stored_in some)
      by [] same = refl
      by (row ∷ some) same =
          ap (λ (n : ℕ). found_with n (standing_at row) ∷ map (λ (s : Standing). found_with (length old + label s.linked.place) s) (map standing_at some)) (sym (same row (inl refl)))
          ∙ ap (λ (t : List Found). listed row ∷ t) (by some (λ other h. same other (inr h)))

  files_joined : Joined old new (rows ∷ rest)
  files_joined = record {
    object = object;
    joined = λ s older h k. joined s older (front s h) (front older k);
    one_first = λ s t h k. one_first s t (front s h) (front t k);
    above = λ s h. above s (front s h);
    olders = λ s h. olders s (front s h);
    added =
        more.added
        ∙ ap (λ (t : List Found). t ++ map (found_of more.object) (all_stored rest)) (adds.numbered.added ∙ ap (λ (t : List Found). old ++ t) front_added)
        ∙ append_assoc old (map (found_of object) here) (map (found_of more.object) (all_stored rest))
        ∙ ap (λ (t : List Found). old ++ (map (found_of object) here ++ t)) (map_has (found_of more.object) (found_of object) (all_stored rest) (λ s h. ap (found_as s) (sym (behind s h))))
        ∙ ap (λ (t : List Found). old ++ t) (sym (map-append (found_of object) here (all_stored rest)));
  }
    where
      found_as : Stored → ℕ → Found
      found_as s n = found_of (λ place. n) s

pub joined_files : (old new : List Found) (files : List Rows) → FilesApart files → AddsFiles old new files → Joined old new files
joined_files old new [] apart same = none_joined old new same
joined_files old new (rows ∷ rest) apart (mid, adds, more) = files_joined old mid new rows rest apart.0 adds (joined_files mid new rest apart.1 more)

pub joined_objects : (old new : List Found) (files : List Rows) (j : Joined old new files) → AreObjects (all_stored files) j.object
joined_objects old new files j = record {
  joined = λ s older there from. j.joined s older (contains_has (all_stored files) s there) (contains_has (all_stored files) older from);
  one_first = λ s t there here. j.one_first s t (contains_has (all_stored files) s there) (contains_has (all_stored files) t here);
}
