-- The index of pages in a row.
use Rattle.std.specs.Prelude.{◌≡◌, ℕ, zero, suc, ◌+◌, ◌<◌, List, [], ◌∷◌, length, Some}
use Rattle.disk_model.specs.Outside.{Outside}
use Rattle.even_indexes.specs.Laws.{IsWholeOver}
use Rattle.even_indexes.specs.Levels.{AreOver, leaves, shares}
use Rattle.ex_base.specs.declared.geometry.Geometry.{Geometry}
use Rattle.ex_base.specs.Area.{InPageArea}
use Rattle.file_index.specs.declared.Entry.{Entry}
use Rattle.file_index.specs.Nodes.{heads}
use Rattle.volume_model.specs.Homes.{home}
use Rattle.history_writes.specs.declared.index.IndexEnd.{IndexEnd}
use Rattle.history_writes.specs.declared.index.Level.{Level}

-- so many numbers from one on
abbrev pub from_on : ℕ → ℕ → List ℕ
from_on first zero = []
from_on first (suc count) = first ∷ from_on (suc first) count

-- the entries of so many pages from one on
abbrev pub leaves_from : ℕ → ℕ → List Entry
leaves_from first count = leaves (from_on first count)

-- All pages of a level over entries stand on an image, one behind the other, and these entries name them. The pages before them are as in another image.
pub record IsLevelOn (g : Geometry) (image later : List ℕ) (level : Level) (below above : List Entry) : Type 0 where
  pub over : AreOver g.page_size (home g later) level.file_no level.number (shares g.page_size below) above
  pub heads_are : heads above ≡ from_on level.first (length above)
  pub before : (page : ℕ) → InPageArea g page → page < level.first → home g later page ≡ home g image page

-- Whatever stood on the disk, it stands there now with a level over these entries.
abbrev pub LevelWritten : Geometry → Outside → Outside → Level → List Entry → List Entry → Type 0
LevelWritten g was now level below above = (image : List ℕ) → was.disk ≡ Some image → (later : List ℕ) × (now.disk ≡ Some later) × IsLevelOn g image later level below above

-- With this end, an index of so many pages stands on the units, on the pages behind them.
pub record IsIndexed (g : Geometry) (image : List ℕ) (file_no first count : ℕ) (end : IndexEnd) : Type 0 where
  pub index_pages : ℕ
  pub whole : IsWholeOver g (home g image) file_no end.level (from_on first count) end.root (from_on (first + count) index_pages)
  pub end_is : end.next ≡ first + count + index_pages

-- Whatever stood on the disk, it stands there now.
abbrev pub Indexes : Geometry → Outside → Outside → ℕ → ℕ → ℕ → IndexEnd → Type 0
Indexes g was now file_no first count end = (image : List ℕ) → was.disk ≡ Some image → (later : List ℕ) × (now.disk ≡ Some later) × IsIndexed g later file_no first count end
