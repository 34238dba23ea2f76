-- Numbers of pages and lengths of bodies: where they lie, and that they fit their fields.
use Rattle.std.proofs.Common.{◌≡◌, ◌≤◌, ◌<◌, ◌+◌, ◌-◌, ℕ, List, Option, Some, None, refl, arith}
use Rattle.std.specs.Prelude.{Contains, IsSome}
use Rattle.ex_base.specs.Area.{InPageArea, catalog_no}
use Rattle.ex_base.specs.Fields.{IsPageField}
use Rattle.ex_base.specs.Sizes.{most_page}
use Rattle.ex_base.specs.declared.geometry.Geometry.{Geometry}
use Rattle.ex_base.specs.declared.names.PageNo.{PageNo}
use Rattle.file_index.specs.Index.{IsFilesPage, HasRoot, HasPlacedRoot}
use Rattle.file_index.specs.Least.{IsLeastFrom}

pub catalog_lies : (geo : Geometry) → InPageArea geo catalog_no
catalog_lies geo = (omega arith, omega (arith, geo.some_pages))

-- the number behind a page of a file
pub small_next : (geo : Geometry) (page : ℕ) → IsFilesPage geo page → page + 1 < 4294967296
small_next geo page lies = omega (arith, geo.few_pages, lies.0.1)

-- a search that goes on behind a page comes nearer to the end
pub nearer_end : (was now : Geometry) (low page : ℕ) → now.pages ≡ was.pages → low ≤ page → IsFilesPage was page
    → 257 + now.pages - (page + 1) < 257 + was.pages - low
nearer_end was now low page same le lies = omega (arith, lies.0.1)

pub short_body : (geo : Geometry) (len : ℕ) → len + 20 ≤ geo.page_size → len < 4294967296
short_body geo len fits = omega (arith, most_page geo)

-- the root of an index, as the catalog's entry has it
pub root_field : (geo : Geometry) (root : Option PageNo) → HasPlacedRoot geo root → IsPageField root
root_field geo None placed = tt
root_field geo (Some page) placed = (omega (arith, placed.0.0), omega (arith, placed.0.1, geo.few_pages))

pub root_some : (level : ℕ) (root : Option PageNo) → HasRoot level root → 0 < level → IsSome root
root_some level None has some = absurd (omega arith)
root_some level (Some page) has some = refl

-- a number that is named is the least from itself on
pub least_named : (keys : List ℕ) (page : ℕ) (found : PageNo) → IsLeastFrom keys page (Some found) → Contains keys page → found.0 ≡ page
least_named keys page found least named = omega (arith, least.1, least.2 page named (omega arith))
