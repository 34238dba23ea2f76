-- Pages in a row, and the file that they are.
use Rattle.std.proofs.Common.{ℕ, suc, List, [], ◌∷◌, ◌++◌, map, refl, arith}
use Rattle.std.specs.List.{AllByRecursion, AllZip, flat_map, zip}
use Rattle.std.proofs.lemmas.List.{length-map}
use Rattle.object_files.specs.Catalog.{FileEntry}
use Rattle.object_records.specs.Record.{IsRecord, Record}
use Rattle.slotted_pages.specs.FilePage.{FilePage}
use Rattle.trees.specs.Trees.{Units}
use Rattle.volume_model.specs.Parts.{HasPage, IsStored, bodies_from}
use Rattle.history_writes.specs.Contents.{RowsAreFiles, in_row, placed_from, placed_in}
use Rattle.history_writes.specs.Laid.{ArePagesOn, page_of, slot_for}

zip_joined : {A B : Type 0} (R : A → B → Type 0) (xs us : List A) (ys vs : List B) → AllZip R xs ys → AllZip R us vs → AllZip R (xs ++ us) (ys ++ vs)
zip_joined R [] us [] vs one two = two
zip_joined R [] us (y ∷ ys) vs one two = absurd one
zip_joined R (x ∷ xs) us [] vs one two = absurd one
zip_joined R (x ∷ xs) us (y ∷ ys) vs one two = (one.0, zip_joined R xs us ys vs one.1 two)

has_pages : (units : Units) (entry : FileEntry) (first : ℕ) (pages : List (List Record)) → ArePagesOn units entry.file_no first pages → AllZip (HasPage units entry) (in_row first pages) (map (page_of entry.file_no) pages)
has_pages units entry first [] are = tt
has_pages units entry first (records ∷ pages) are = ((are.0, omega (arith, are.1, length-map records slot_for), refl), has_pages units entry (suc first) pages are.2)

page_stored : (page slot : ℕ) (records : List Record) → AllByRecursion IsRecord records → AllZip IsStored (bodies_from page slot (map slot_for records)) (placed_from page slot records)
page_stored page slot [] are = tt
page_stored page slot (r ∷ records) are = ((refl, record { fits = are.0; spelled = refl }), page_stored page (suc slot) records are.1)

all_stored : (file_no first : ℕ) (pages : List (List Record)) → AllByRecursion (AllByRecursion IsRecord) pages
    → AllZip IsStored (flat_map (λ (row : ℕ × FilePage). bodies_from row.0 0 row.1.slots) (zip (in_row first pages) (map (page_of file_no) pages))) (placed_in first pages)
all_stored file_no first [] are = tt
all_stored file_no first (records ∷ pages) are =
    zip_joined IsStored (bodies_from first 0 (map slot_for records)) (flat_map (λ (row : ℕ × FilePage). bodies_from row.0 0 row.1.slots) (zip (in_row (suc first) pages) (map (page_of file_no) pages))) (placed_from first 0 records) (placed_in (suc first) pages)
    (page_stored first 0 records are.0) (all_stored file_no (suc first) pages are.1)

pub rows_are_files : RowsAreFiles
rows_are_files units entry first index_pages pages are records = record { pages = has_pages units entry first pages are; records = all_stored entry.file_no first pages records }
