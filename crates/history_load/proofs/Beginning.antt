-- A file that begins.
use Rattle.std.proofs.Common.{◌≡◌, ◌+◌, ℕ, Bool, true, false, List, [], ◌∷◌, length, map, refl, sym, ap, subst, ◌∙◌, arith, inl, inr}
use Rattle.std.specs.Prelude.{Contains, if◌then◌else◌}
use Rattle.std.specs.Cmp.Lexicographic.{slice_cmp}
use Rattle.std.specs.Ordering.{is_lt, nat_cmp}
use Rattle.std.proofs.lemmas.List.{length-append, nil_from_length}
use Rattle.ex_base.specs.declared.geometry.Geometry.{Geometry}
use Rattle.object_files.specs.Catalog.{CatalogOf, FileEntry, number_of}
use Rattle.object_files.specs.Edits.{IsLowestUnused, entries_on, entry_inserted, new_file, numbers_on, with_entries}
use Rattle.object_files.specs.Reads.{catalog_on}
use Rattle.object_records.specs.Record.{Record}
use Rattle.slotted_pages.specs.FilePage.{Slot}
use Rattle.slotted_pages.specs.Edits.{slots_of}
use Rattle.trees.specs.Trees.{Units}
use Rattle.version_lists.proofs.Lists.{Has, has_contains, has_map}
use Rattle.volume_model.specs.Homes.{home}
use Rattle.history_writes.specs.Laid.{AreLaid, all_of, page_of, slot_for}
use Rattle.history_writes.specs.declared.file_pages.FilePages.{FilePages}
use Rattle.history_writes.proofs.Laying.{slots_are}
use Rattle.history_load.specs.AtHand.{BeginsFile, IsFilledAs, room_behind}
use Rattle.history_load.specs.declared.files_at_hand.FilesAtHand.{FilesAtHand}
use Rattle.history_load.proofs.Entries.{entries_are}

-- ---- its entry

has_either_way : (b : Bool) (e : FileEntry) (xs ys : List FileEntry) → Has xs e → Has ys e → Has (if b then xs else ys) e
has_either_way true e xs ys here there = here
has_either_way false e xs ys here there = there

has_inserted : (e : FileEntry) (es : List FileEntry) → Has (entry_inserted e es) e
has_inserted e [] = inl refl
has_inserted e (f ∷ fs) = has_either_way (is_lt (slice_cmp nat_cmp e.name f.name)) e (e ∷ f ∷ fs) (f ∷ entry_inserted e fs) (inl refl) (inr (has_inserted e fs))

pub has_number : (page was name : List ℕ) (file_no : ℕ) → CatalogOf page (with_entries (catalog_on was) (entry_inserted (new_file name file_no) (entries_on was))) → Contains (numbers_on page) file_no
has_number page was name file_no is =
    let entries = entries_are page was (entry_inserted (new_file name file_no) (entries_on was)) is in
    let has = has_map number_of (entry_inserted (new_file name file_no) (entries_on was)) (new_file name file_no) (has_inserted (new_file name file_no) (entries_on was)) in
    subst (λ (es : List FileEntry). Contains (map number_of es) file_no) (sym entries) (has_contains (map number_of (entry_inserted (new_file name file_no) (entries_on was))) file_no has)

-- ---- its page

none_laid : (units : Units) (pages : FilePages) → AreLaid units pages [] → slots_of pages.page.items ≡ []
none_laid units pages laid =
    let count : 0 ≡ length (all_of laid.full) + length laid.last = ap (λ (rs : List Record). length rs) laid.records_are ∙ length-append (all_of laid.full) laid.last in
    let none : laid.last ≡ [] = nil_from_length laid.last (omega (arith, count)) in
    slots_are pages.page.items (page_of pages.file_no laid.last) laid.at_hand ∙ ap (map slot_for) none

pub filled_none : (g : Geometry) (files : FilesAtHand) → ((units : Units) → AreLaid units files.pages []) → files.pages.written ≡ 0 → IsFilledAs g files (record { others = 0; filled = 0; room = 0 })
filled_none g files laid written =
    let none = none_laid (λ page. []) files.pages (laid (λ page. [])) in
    let count : length (slots_of files.pages.page.items) ≡ 0 = ap (λ (ss : List Slot). length ss) none in
    record { filled = omega (arith, written, count); room = ap (room_behind g.page_size) none }

pub begins : (g : Geometry) (old new : FilesAtHand) (name was page : List ℕ) (file_no : ℕ) → was ≡ old.catalog.items → new.catalog.items ≡ page → new.pages.file_no ≡ file_no → IsLowestUnused (numbers_on was) file_no
    → CatalogOf page (with_entries (catalog_on was) (entry_inserted (new_file name file_no) (entries_on was))) → ((units : Units) → AreLaid units new.pages []) → new.pages.written ≡ 0 → new.versions.items ≡ [] → new.next ≡ old.next → new.count ≡ old.count → BeginsFile g old new name
begins g old new name was page file_no before after number unused catalog laid written none next count = record {
  number = subst (λ (n : ℕ). IsLowestUnused (numbers_on old.catalog.items) n) (sym number) (subst (λ (b : List ℕ). IsLowestUnused (numbers_on b) file_no) before unused);
  catalog = subst (λ (n : ℕ). CatalogOf new.catalog.items (with_entries (catalog_on old.catalog.items) (entry_inserted (new_file name n) (entries_on old.catalog.items)))) (sym number)
      (subst (λ (b : List ℕ). CatalogOf b (with_entries (catalog_on old.catalog.items) (entry_inserted (new_file name file_no) (entries_on old.catalog.items)))) (sym after)
      (subst (λ (b : List ℕ). CatalogOf page (with_entries (catalog_on b) (entry_inserted (new_file name file_no) (entries_on b)))) before catalog));
  at_hand = λ image. record { records = tt; laid = laid (home g image); placed = none };
  filled = filled_none g new laid written;
  next = next;
  count = count;
}
