-- A file that stands once its records have links and its index is written.
use Rattle.std.proofs.Common.{◌≡◌, ◌<◌, ◌≤◌, ◌+◌, ℕ, zero, suc, List, [], ◌∷◌, ◌++◌, length, map, Some, None, refl, sym, ap, subst, ◌∙◌, arith, inl, inr}
use Rattle.std.specs.List.{AllByRecursion, AllZip}
use Rattle.ex_base.specs.declared.geometry.Geometry.{Geometry}
use Rattle.ex_base.specs.Order.{Rising}
use Rattle.ex_base.specs.Ports.{times}
use Rattle.ex_base.proofs.Counts.{contains_times, none_or_some, once_differ, same_or_not, times-append, times_apart, times_here}
use Rattle.ex_base.proofs.Each.{each_from}
use Rattle.ex_base.proofs.Rows.{each-append}
use Rattle.file_index.specs.Index.{pages_of}
use Rattle.object_records.specs.Record.{IsRecord, Record}
use Rattle.version_lists.specs.Sorted.{in_order}
use Rattle.volume_model.specs.Homes.{home}
use Rattle.volume_model.specs.Volume.{Stored, unique_of}
use Rattle.history_writes.specs.Indexed.{IsIndexed, from_on}
use Rattle.history_writes.specs.declared.index.IndexEnd.{IndexEnd}
use Rattle.history_fronts.specs.Fronts.{HasOlders}
use Rattle.history_links.specs.declared.PlacedVersion.{PlacedVersion}
use Rattle.history_links.specs.Linked.{links_of}
use Rattle.history_model.specs.History.{HistoryFile, number_in}
use Rattle.history_writes.specs.Contents.{content_on, in_row, placed_in}
use Rattle.history_writes.specs.Laid.{ArePagesOn, all_of}
use Rattle.history_writes.proofs.Holding.{rows_are_files}
use Rattle.history_volumes.specs.Histories.{IsVersionOn}
use Rattle.history_writes.specs.Places.{leaf_place, node_place}
use Rattle.history_writes.specs.Records.{unlinked}
use Rattle.history_load.specs.AtHand.{LiesBehind, StandsAt, file_entry, pages_linked, versions_placed}
use Rattle.history_load.proofs.Linking.{are_linked, in_order_stored, newer_ones, older_ones, versions_on}
use Rattle.history_load.proofs.Plain.{all_may_have, each_row, links_fields, rows_length, rows_records}

-- ---- numbers in a row

in_row_is : (first : ℕ) (pages : List (List Record)) → in_row first pages ≡ from_on first (length pages)
in_row_is first [] = refl
in_row_is first (records ∷ pages) = ap (λ (rest : List ℕ). first ∷ rest) (in_row_is (suc first) pages)

none_below : (first count x : ℕ) → x < first → times x (from_on first count) ≡ 0
none_below first zero x lt = refl
none_below first (suc count) x lt = times_apart x first (from_on (suc first) count) (λ e. omega (arith, e, lt)) ∙ none_below (suc first) count x (omega (arith, lt))

row_once : (first count x : ℕ) → times x (from_on first count) ≤ 1
row_once first zero x = omega arith
row_once first (suc count) x = elim (same_or_not x first) [
  | inl e ↦ (let here = times_here x first (from_on (suc first) count) e in let rest = none_below (suc first) count x (omega (arith, e)) in omega arith)
  | inr n ↦ (let here = times_apart x first (from_on (suc first) count) n in let rest = row_once (suc first) count x in omega arith)
]

row_within : (first count x : ℕ) → 1 ≤ times x (from_on first count) → (first ≤ x) × (x < first + count)
row_within first zero x some = absurd (omega (arith, some))
row_within first (suc count) x some = elim (same_or_not x first) [
  | inl e ↦ (omega (arith, e), omega (arith, e))
  | inr n ↦ (let here = times_apart x first (from_on (suc first) count) n in let rest = row_within (suc first) count x (omega (arith, some, here)) in (omega (arith, rest.0), omega (arith, rest.1)))
]

row_placed : (first count low high : ℕ) → low ≤ first → first + count ≤ high → AllByRecursion (λ (page : ℕ). (low ≤ page) × (page < high)) (from_on first count)
row_placed first zero low high le end = tt
row_placed first (suc count) low high le end = ((omega arith, omega arith), row_placed (suc first) count low high (omega (arith, le)) (omega (arith, end)))

-- ---- the file

-- What is known of a file that is done.
pub record IsDone (g : Geometry) (image : List ℕ) (all : List PlacedVersion) (f : HistoryFile) (file_no first : ℕ) (pages : List (List Record)) (end : IndexEnd) : Type 0 where
  pub bodies : map (unlinked g) f.versions ≡ all_of pages
  pub placed : all ≡ versions_placed f.versions (placed_in first pages)
  pub rising : Rising (map number_in f.versions)
  pub olders : HasOlders f
  pub records : AllByRecursion IsRecord (map (unlinked g) f.versions)
  pub lie : AllByRecursion LiesBehind all
  pub are : ArePagesOn (home g image) file_no first (pages_linked all pages)
  pub index : IsIndexed g image file_no first (length pages) end

pub stands : (g : Geometry) (image : List ℕ) (all : List PlacedVersion) (f : HistoryFile) (file_no first : ℕ) (pages : List (List Record)) (end : IndexEnd) → IsDone g image all f file_no first pages end
    → StandsAt g (home g image) first end.next f (file_entry f.name file_no end.level (Some end.root))
stands g image all f file_no first pages end done =
    let linked = are_linked g all f.versions first pages done.bodies done.placed done.rising in
    let long : length (pages_linked all pages) ≡ length pages = rows_length (map (links_of all) all) pages in
    let row : in_row first (pages_linked all pages) ≡ from_on first (length pages) = in_row_is first (pages_linked all pages) ∙ ap (from_on first) long in
    let records = rows_records (map (links_of all) all) pages (links_fields all done.lie) (all_may_have g all f.versions first pages done.bodies done.placed) (each_row g f.versions pages done.bodies done.records) in
    let holds = rows_are_files (home g image) (file_entry f.name file_no end.level (Some end.root)) first (pages_of (home g image) end.level (Some end.root)) (pages_linked all pages) done.are records in
    let ordered : in_order unique_of (placed_in first (pages_linked all pages)) ≡ placed_in first (pages_linked all pages) = in_order_stored g all f.versions (placed_in first (pages_linked all pages)) linked.zip done.rising in
    record {
      content = content_on file_no first (pages_of (home g image) end.level (Some end.root)) (pages_linked all pages);
      index = record { whole = done.index.whole.whole; numbers = row ∙ sym done.index.whole.keys; index_pages = refl };
      pages = holds.pages;
      records = holds.records;
      on = record { name = refl; versions = subst (λ (ss : List Stored). AllZip (IsVersionOn (leaf_place g) node_place (placed_in first (pages_linked all pages))) f.versions ss) (sym ordered) (versions_on g all f (placed_in first (pages_linked all pages)) linked done.olders) };
      newer = newer_ones g all f (placed_in first (pages_linked all pages)) linked done.olders;
      older = older_ones g all f (placed_in first (pages_linked all pages)) linked done.olders;
      placed = each-append (λ (page : ℕ). (first ≤ page) × (page < end.next)) (in_row first (pages_linked all pages)) (pages_of (home g image) end.level (Some end.root))
          (subst (λ (ps : List ℕ). AllByRecursion (λ (page : ℕ). (first ≤ page) × (page < end.next)) ps) (sym row) (row_placed first (length pages) first end.next (omega arith) (omega (arith, done.index.end_is))))
          (each_from (λ (page : ℕ). (first ≤ page) × (page < end.next)) (pages_of (home g image) end.level (Some end.root)) (λ page has. index_within page (contains_times page (pages_of (home g image) end.level (Some end.root)) has)));
      differ = once_differ (in_row first (pages_linked all pages) ++ pages_of (home g image) end.level (Some end.root)) (λ page. once page row);
    }
  where
    index_within : (page : ℕ) → 1 ≤ times page (pages_of (home g image) end.level (Some end.root)) → (first ≤ page) × (page < end.next)
    index_within page some =
        let same = done.index.whole.pages_are page in
        let within = row_within (first + length pages) done.index.index_pages page (omega (arith, same, some)) in
        (omega (arith, within.0), omega (arith, within.1, done.index.end_is))

    once : (page : ℕ) → in_row first (pages_linked all pages) ≡ from_on first (length pages) → times page (in_row first (pages_linked all pages) ++ pages_of (home g image) end.level (Some end.root)) ≤ 1
    once page row =
        let split = times-append page (in_row first (pages_linked all pages)) (pages_of (home g image) end.level (Some end.root)) in
        let here : times page (in_row first (pages_linked all pages)) ≡ times page (from_on first (length pages)) = ap (times page) row in
        let there = done.index.whole.pages_are page in
        elim (none_or_some (times page (from_on first (length pages)))) [
          | inl none ↦ (let most = row_once (first + length pages) done.index.index_pages page in omega arith)
          | inr some ↦ (
              let within = row_within first (length pages) page some in
              let most = row_once first (length pages) page in
              let none = none_below (first + length pages) done.index.index_pages page (omega (arith, within.1)) in
              omega arith)
        ]

-- a file without versions stands without a page
pub stands_empty : (g : Geometry) (image : List ℕ) (f : HistoryFile) (file_no first next : ℕ) → f.versions ≡ [] → StandsAt g (home g image) first next f (file_entry f.name file_no 0 None)
stands_empty g image f file_no first next none = record {
  content = content_on file_no first [] [];
  index = record { whole = record { whole = refl; rising = tt; once = λ page. omega arith }; numbers = refl; index_pages = refl };
  pages = tt;
  records = tt;
  on = record { name = refl; versions = subst (λ vs. AllZip (IsVersionOn (leaf_place g) node_place []) vs []) (sym none) tt };
  newer = tt;
  older = tt;
  placed = tt;
  differ = tt;
}
