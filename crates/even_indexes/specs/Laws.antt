-- What holds of the index of a file that was written level by level.
use Rattle.std.specs.Prelude.{◌≡◌, ◌≤◌, ◌<◌, ◌+◌, ◌/◌, ◌^◌, ℕ, List, [], ◌∷◌, length, Some}
use Rattle.std.specs.List.{AllByRecursion}
use Rattle.ex_base.specs.declared.geometry.Geometry.{Geometry}
use Rattle.ex_base.specs.declared.names.PageNo.{PageNo}
use Rattle.ex_base.specs.Order.{Rising}
use Rattle.ex_base.specs.Ports.{times}
use Rattle.file_index.specs.Index.{IsFilesPage, IsIndex, keys_of, pages_of}
use Rattle.even_indexes.specs.Levels.{Written, leaves}

-- The pages of a file rise, and are pages that a file may have; so are those that were written, each of which was written once.
pub record IsEven (g : Geometry) (image : ℕ → List ℕ) (file_no levels : ℕ) (pages : List ℕ) (root : PageNo) (written : List ℕ) : Type 0 where
  pub number : file_no < 2 ^ 32
  pub rising : Rising pages
  pub files : AllByRecursion (IsFilesPage g) pages
  pub placed : AllByRecursion (IsFilesPage g) written
  pub once : (page : ℕ) → times page written ≤ 1
  pub levels_are : Written g.page_size image file_no levels 0 (leaves pages) root written

-- It is a whole index of the file's pages, whose index pages are those that were written: at most a sixteenth of the file's pages and four.
pub record IsWholeOver (g : Geometry) (image : ℕ → List ℕ) (file_no levels : ℕ) (pages : List ℕ) (root : PageNo) (written : List ℕ) : Type 0 where
  pub whole : IsIndex g image file_no levels (Some root)
  pub keys : keys_of image levels (Some root) ≡ pages
  pub pages_are : (page : ℕ) → times page (pages_of image levels (Some root)) ≡ times page written
  pub few : length written ≤ length pages / 16 + 4
  pub low : levels ≤ 4

abbrev pub EvenIsWhole : Type 0
EvenIsWhole = (g : Geometry) (image : ℕ → List ℕ) (file_no levels : ℕ) (pages : List ℕ) (root : PageNo) (written : List ℕ)
    → IsEven g image file_no levels pages root written → IsWholeOver g image file_no levels pages root written

-- A file of one page has no index page.
abbrev pub OneIsItself : Type 0
OneIsItself = (g : Geometry) (image : ℕ → List ℕ) (file_no page : ℕ) → file_no < 2 ^ 32 → IsFilesPage g page
    → IsEven g image file_no 0 (page ∷ []) (record { 0 = page }) []
