-- The least file page that is not below a key.
use Rattle.std.specs.Prelude.{◌≡◌, ◌≤◌, ◌<◌, ℕ, List, [], ◌∷◌, length, slice_get, Option, Some, None, nat_lt, if◌then◌else◌, Contains}
use Rattle.ex_base.specs.declared.names.PageNo.{PageNo}
use Rattle.file_index.specs.declared.Entry.{Entry}
use Rattle.file_index.specs.declared.step.Step.{Step}

-- the least of the pages that is not below the key; none where there is none
abbrev pub IsLeastFrom : List ℕ → ℕ → Option PageNo → Type 0
IsLeastFrom pages key None = (page : ℕ) → Contains pages page → page < key
IsLeastFrom pages key (Some least) = Contains pages least.0 × (key ≤ least.0) × ((page : ℕ) → Contains pages page → key ≤ page → least.0 ≤ page)

abbrev pub page_no : ℕ → PageNo
page_no n = record { 0 = n }

-- none, or a page that is not below the key
abbrev pub IsAtLeast : ℕ → Option PageNo → Type 0
IsAtLeast key None = Unit {0}
IsAtLeast key (Some page) = key ≤ page.0

-- the first of the pages that is not below the key, else what comes next
abbrev pub first_from : ℕ → List ℕ → Option PageNo → Option PageNo
first_from key [] next = next
first_from key (x ∷ xs) next = if nat_lt x key then first_from key xs next else Some (page_no x)

-- the last entry whose key is not above the key, else the first one, and the page behind all that it leads to
abbrev pub pick_from : Entry → List Entry → ℕ → Option PageNo → Step
pick_from entry [] key next = record { child = entry; next = next }
pick_from entry (after ∷ entries) key next = if nat_lt key after.key then record { child = entry; next = Some (page_no after.key) } else pick_from after entries key next

abbrev pub pick : List Entry → ℕ → Option PageNo → Step
pick [] key next = record { child = record { key = 0; page = page_no 0 }; next = next }
pick (entry ∷ entries) key next = pick_from entry entries key next

-- the index of the first entry behind the first one whose key is above the key, else the number of entries
pub record IsFirstAbove (key : ℕ) (entries : List Entry) (index : ℕ) : Type 0 where
  pub behind : 1 ≤ index
  pub inside : index ≤ length entries
  pub above : (entry : Entry) → slice_get entries index ≡ Some entry → key < entry.key
  pub none_before : (k : ℕ) (entry : Entry) → 1 ≤ k → k < index → slice_get entries k ≡ Some entry → entry.key ≤ key
