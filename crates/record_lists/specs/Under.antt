-- What stands under a page that an index names.
use Rattle.std.specs.Prelude.{ℕ, List}
use Rattle.std.specs.List.{AllByRecursion, flat_map}
use Rattle.ex_base.specs.declared.geometry.Geometry.{Geometry}
use Rattle.file_index.specs.Index.{IsUnder, keys_under}
use Rattle.file_index.specs.declared.named.Named.{Named}
use Rattle.file_bodies.specs.Bodies.{Row, bodies_on}
use Rattle.file_bodies.specs.Files.{IsPageOf}
use Rattle.versions.specs.Listed.{AreReadable}

-- the bodies on the pages of a file that an index of a level leads to
abbrev pub rows_under : (ℕ → List ℕ) → ℕ → ℕ → List Row
rows_under image level page = flat_map (bodies_on image) (keys_under image level page)

-- What is named is an index of pages of the file, or such a page, and each body on them is a record.
pub record IsReadable (g : Geometry) (image : ℕ → List ℕ) (named : Named) : Type 0 where
  pub index : IsUnder g named.file_no image named.level named.least named.page.0
  pub pages : AllByRecursion (λ page. IsPageOf named.file_no (image page)) (keys_under image named.level named.page.0)
  pub records : AreReadable (rows_under image named.level named.page.0)
