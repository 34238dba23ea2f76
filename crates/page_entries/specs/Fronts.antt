-- What the front of bytes has to show to be the fields of an entry.
use Rattle.std.specs.Prelude.{◌≡◌, ℕ, zero, suc, ◌+◌, ◌*◌, ◌≤◌, List, length}
use Rattle.std.specs.List.{flat_map}
use Rattle.ex_base.specs.Bytes.{bytes_at}
use Rattle.ex_base.specs.Fields.{number_at}
use Rattle.object_files.specs.Catalog.{FileEntry, entry_bytes, IsCatalog}
use Rattle.object_files.specs.Reads.{read_entries}
use Rattle.page_entries.specs.Said.{put_catalog, numbers_read, removed_count, put_count, put_begin}

-- a change stands at a position, of no slot below the least one
pub record ChangeAt (bytes : List ℕ) (least at : ℕ) : Type 0 where
  pub head : at + 4 ≤ length bytes
  pub least_is : least ≤ number_at 2 bytes at
  pub body : at + 4 + number_at 2 bytes (at + 2) ≤ length bytes

-- where that change ends
abbrev pub change_end : List ℕ → ℕ → ℕ
change_end bytes at = at + 4 + number_at 2 bytes (at + 2)

-- so many changes stand one behind the other, in rising order of slots
abbrev pub ChangesAt : List ℕ → ℕ → ℕ → ℕ → Type 0
ChangesAt bytes least zero at = Unit {0}
ChangesAt bytes least (suc n) at = ChangeAt bytes least at × ChangesAt bytes (number_at 2 bytes at + 1) n (change_end bytes at)

abbrev pub changes_end : List ℕ → ℕ → ℕ → ℕ
changes_end bytes zero at = at
changes_end bytes (suc n) at = changes_end bytes n (change_end bytes at)

-- these are the files that are put, and with the numbers they are such as a catalog of a page has
pub record ArePut (size : ℕ) (bytes : List ℕ) (put : List FileEntry) : Type 0 where
  pub fits : IsCatalog size (put_catalog (number_at 8 bytes 0) (number_at 8 bytes 8) put)
  pub count : length put ≡ put_count bytes
  pub spelled : bytes_at bytes (put_begin bytes) (48 * put_count bytes) ≡ flat_map entry_bytes put

-- the numbers that are removed
abbrev pub removed_read : List ℕ → List ℕ
removed_read bytes = numbers_read bytes (removed_count bytes) 18

-- the files that are put
abbrev pub put_read : List ℕ → List FileEntry
put_read bytes = read_entries bytes (put_count bytes) (put_begin bytes)
