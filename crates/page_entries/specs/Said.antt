-- What a record of the log says of a page: all of it, or what changed on it.
use Rattle.std.specs.Prelude.{◌≡◌, ℕ, zero, suc, ◌+◌, ◌*◌, ◌<◌, ◌≤◌, ◌^◌, List, [], ◌∷◌, ◌++◌, length, map, take, Contains}
use Rattle.std.specs.List.{flat_map, AllByRecursion}
use Rattle.ex_base.specs.Bytes.{bytes_at}
use Rattle.ex_base.specs.Fields.{two_bytes, four_bytes, eight_bytes, zeros, number_at}
use Rattle.ex_base.specs.Order.{Rising}
use Rattle.slotted_pages.specs.FilePage.{Slot, body_of, IsSlot}
use Rattle.slotted_pages.specs.Edits.{slot_with}
use Rattle.object_files.specs.Catalog.{FileEntry, Catalog, entry_bytes, IsCatalog, number_of}
use Rattle.object_files.specs.Reads.{read_entries}
use Rattle.page_entries.specs.declared.form.EntryForm.{EntryForm}
use Rattle.page_entries.specs.declared.form.EntryForm.TheVariants.{Image, SlotChanges, FileChanges}

-- a slot and what it gets
abbrev pub SlotChange : Type 0
SlotChange = ℕ × Slot

-- all bytes of a page; slots of a page of a file; the numbers of the catalog, the files that leave it and those that are put into it
pub data Said : Type 0 where
  Whole : List ℕ → Said
  Slots : List SlotChange → Said
  Files : ℕ → ℕ → List ℕ → List FileEntry → Said

-- ---- the spelling

abbrev pub change_bytes : SlotChange → List ℕ
change_bytes change = two_bytes change.0 ++ (two_bytes (length (body_of change.1)) ++ body_of change.1)

abbrev pub said_bytes : Said → List ℕ
said_bytes (Whole image) = image
said_bytes (Slots changes) = zeros 4 ++ (two_bytes (length changes) ++ flat_map change_bytes changes)
said_bytes (Files next_unique last removed put) =
    eight_bytes next_unique ++ (eight_bytes last ++ (two_bytes (length removed) ++ (flat_map four_bytes removed ++ (two_bytes (length put) ++ flat_map entry_bytes put))))

abbrev pub form_of : Said → EntryForm
form_of (Whole image) = Image
form_of (Slots changes) = SlotChanges
form_of (Files next_unique last removed put) = FileChanges

-- ---- what has a spelling

-- a slot that gets a body gets at least one byte: no bytes make it vacant
abbrev pub FitsChange : SlotChange → Type 0
FitsChange change = (change.0 < 2 ^ 16) × (length (body_of change.1) < 2 ^ 16) × IsSlot change.1

abbrev pub FitsNumber : ℕ → Type 0
FitsNumber n = n < 2 ^ 32

abbrev pub slot_of_change : SlotChange → ℕ
slot_of_change change = change.0

-- no number of the first stands in the second
abbrev pub NoneOf : List ℕ → List ℕ → Type 0
NoneOf xs ys = AllByRecursion (λ x. ¬ Contains ys x) xs

abbrev pub put_catalog : ℕ → ℕ → List FileEntry → Catalog
put_catalog next_unique last put = record { next_unique = next_unique; last = last; entries = put }

-- The numbers and the files that are put are such as a catalog of a page has. No more files are removed than it has room for, and none of those that are put.
pub record FitsFiles (size next_unique last : ℕ) (removed : List ℕ) (put : List FileEntry) : Type 0 where
  pub put_fits : IsCatalog size (put_catalog next_unique last put)
  pub few : 32 + 48 * length removed ≤ size
  pub numbers : AllByRecursion FitsNumber removed
  pub rising : Rising removed
  pub apart : NoneOf removed (map number_of put)

abbrev pub IsSaid : ℕ → Said → Type 0
IsSaid size (Whole image) = length image ≡ size
IsSaid size (Slots changes) = AllByRecursion FitsChange changes × Rising (map slot_of_change changes) × (length changes < 2 ^ 16)
IsSaid size (Files next_unique last removed put) = FitsFiles size next_unique last removed put

-- ---- what bytes say, whatever they are

-- so many changes, the first of which begins at a position
abbrev pub changes_read : List ℕ → ℕ → ℕ → List SlotChange
changes_read bytes zero at = []
changes_read bytes (suc n) at = (number_at 2 bytes at, slot_with (bytes_at bytes (at + 4) (number_at 2 bytes (at + 2)))) ∷ changes_read bytes n (at + 4 + number_at 2 bytes (at + 2))

-- so many numbers of four bytes
abbrev pub numbers_read : List ℕ → ℕ → ℕ → List ℕ
numbers_read bytes zero at = []
numbers_read bytes (suc n) at = number_at 4 bytes at ∷ numbers_read bytes n (at + 4)

-- how many files an entry of the catalog removes and puts, and where the first of those that it puts stands
abbrev pub removed_count : List ℕ → ℕ
removed_count fields = number_at 2 fields 16

abbrev pub put_count : List ℕ → ℕ
put_count fields = number_at 2 fields (18 + 4 * removed_count fields)

abbrev pub put_begin : List ℕ → ℕ
put_begin fields = 20 + 4 * removed_count fields

unfoldable pub said_on : EntryForm → List ℕ → Said
said_on Image fields = Whole fields
said_on SlotChanges fields = Slots (changes_read fields (number_at 2 fields 4) 6)
said_on FileChanges fields =
    Files (number_at 8 fields 0) (number_at 8 fields 8) (numbers_read fields (removed_count fields) 18)
    (read_entries fields (put_count fields) (put_begin fields))

-- the first n bytes say something in this form
pub record Says (size : ℕ) (form : EntryForm) (bytes : List ℕ) (n : ℕ) : Type 0 where
  pub said : Said
  pub fits : IsSaid size said
  pub form_is : form_of said ≡ form
  pub spelled : take n bytes ≡ said_bytes said
  pub inside : n ≤ length bytes

-- no bytes at the front say anything in this form
abbrev pub SaysNothing : ℕ → EntryForm → List ℕ → Type 0
SaysNothing size form bytes = (said : Said) (rest : List ℕ) → IsSaid size said → form_of said ≡ form → bytes ≡ said_bytes said ++ rest → ⊥

-- the bytes say something in this form
abbrev pub AreFields : ℕ → EntryForm → List ℕ → Type 0
AreFields size form bytes = (said : Said) × IsSaid size said × (form_of said ≡ form) × (bytes ≡ said_bytes said)
