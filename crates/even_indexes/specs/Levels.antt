-- The index of a file, written level by level: the entries of a level are spread evenly over the least number of pages that hold them.
use Rattle.std.specs.Prelude.{◌≡◌, ◌≤◌, ℕ, zero, suc, List, [], ◌∷◌, ◌++◌, length, map, slice_index_or, take}
use Rattle.ex_base.specs.declared.names.PageNo.{PageNo}
use Rattle.ex_base.specs.Even.{cut_by, evenly, least_parts, sum_of}
use Rattle.file_index.specs.declared.Entry.{Entry}
use Rattle.file_index.specs.IndexPage.{index_page, most_entries}
use Rattle.file_index.specs.Nodes.{first_key, heads}

-- the entry of a page of the file
abbrev pub leaf : ℕ → Entry
leaf page = record { key = page; page = record { 0 = page } }

-- the entries of the file's pages
abbrev pub leaves : List ℕ → List Entry
leaves pages = map leaf pages

-- how many index pages stand over so many entries
abbrev pub pages_over : ℕ → ℕ → ℕ
pages_over size entries = least_parts (most_entries size) entries

-- the entries of a level, cut into those of each page over them
abbrev pub shares : ℕ → List Entry → List (List Entry)
shares size below = cut_by (evenly (pages_over size (length below)) (length below)) below

-- the share of a page, by its place among those of its level
abbrev pub share_at : ℕ → List Entry → ℕ → List Entry
share_at size below index = slice_index_or (shares size below) index []

-- how many of a total stand in the parts before one, where it stands evenly in so many parts
abbrev pub before : ℕ → ℕ → ℕ → ℕ
before parts total index = sum_of (λ n. n) (take index (evenly parts total))

-- A page has a share of the entries, and the entry names it by the first key of that.
pub record IsOver (size : ℕ) (image : ℕ → List ℕ) (file_no level : ℕ) (share : List Entry) (over : Entry) : Type 0 where
  pub key : over.key ≡ first_key share
  pub page : image over.page.0 ≡ index_page size level file_no share

-- Each share has its page.
abbrev pub AreOver : ℕ → (ℕ → List ℕ) → ℕ → ℕ → List (List Entry) → List Entry → Type 0
AreOver size image file_no level [] [] = Unit {0}
AreOver size image file_no level [] (e ∷ above) = ⊥
AreOver size image file_no level (share ∷ rest) [] = ⊥
AreOver size image file_no level (share ∷ rest) (e ∷ above) = IsOver size image file_no level share e × AreOver size image file_no level rest above

-- One entry is left, and it names the root.
pub record IsTop (below : List Entry) (root : PageNo) (written : List ℕ) : Type 0 where
  pub key : ℕ
  pub one : below ≡ record { key = key; page = root } ∷ []
  pub none : written ≡ []

-- A level was written over entries: these are its pages, and the entries that name them stand above. What follows holds of those.
pub record IsLevel (size : ℕ) (image : ℕ → List ℕ) (file_no level : ℕ) (below : List Entry) (written : List ℕ) (Follows : List Entry → List ℕ → Type 0) : Type 0 where
  pub two : 2 ≤ length below
  pub above : List Entry
  pub over : AreOver size image file_no level (shares size below) above
  pub later : List ℕ
  pub all : written ≡ heads above ++ later
  pub follows : Follows above later

-- So many levels were written over entries of a level until one entry was left, which names the root. These are the pages that were written.
abbrev pub Written : ℕ → (ℕ → List ℕ) → ℕ → ℕ → ℕ → List Entry → PageNo → List ℕ → Type 0
Written size image file_no zero level below root written = IsTop below root written
Written size image file_no (suc levels) level below root written =
    IsLevel size image file_no (suc level) below written (λ above later. Written size image file_no levels (suc level) above root later)
