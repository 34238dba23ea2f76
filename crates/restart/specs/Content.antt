-- What the pages of a volume hold behind the catalog, and which part of it fails first.
use Rattle.std.specs.Prelude.{◌≡◌, ◌↔◌, ◌-◌, ℕ, true, List, [], ◌∷◌, length, take, Option, Some, None, Contains}
use Rattle.std.specs.List.{flat_map, AllByRecursion}
use Rattle.ex_base.specs.declared.geometry.Geometry.{Geometry}
use Rattle.ex_base.specs.declared.names.Root.{Root}
use Rattle.ex_base.specs.Area.{area_end, catalog_no}
use Rattle.object_files.specs.Catalog.{Catalog}
use Rattle.file_walk.specs.declared.Found.{Found}
use Rattle.node_walk.specs.declared.ObjectRoot.{ObjectRoot}
use Rattle.page_alloc.specs.UnitSet.{used_at, refs_at}
use Rattle.session_views.specs.declared.part.Part.{Part}
use Rattle.session_views.specs.declared.part.Part.TheVariants.{File, Page, Body, Node, Balance, Unique}
use Rattle.trees.specs.Trees.{Units}
use Rattle.tree_store.specs.Stored.{IsCounted}
use Rattle.volume_model.specs.FreshView.{OwnsUnits}
use Rattle.volume_model.specs.Parts.{HoldsOf, rank}
use Rattle.volume_model.specs.Volume.{FileContent, Volume, file_pages, reach_of}
use Rattle.volume_port.specs.Logged.{LoggedSet, is_held}
use Rattle.volume_port.specs.Ported.{IsUsed}
use Rattle.restart.specs.declared.content.Reached.{Reached}

abbrev pub volume_of : Catalog → List FileContent → Volume
volume_of c files = record { catalog = c; files = files }

-- the parts behind the catalog, in the order in which an opening tests them
abbrev pub file_parts : List Part
file_parts = File ∷ Page ∷ Body ∷ Node ∷ Balance ∷ Unique ∷ []

-- These files hold the first n of those parts.
abbrev pub FilesHold : Geometry → Units → Catalog → ℕ → List FileContent → Type 0
FilesHold g units c n files = AllByRecursion (HoldsOf g [] units (volume_of c files)) (take n file_parts)

-- The part is the first behind the catalog that fails: some files hold those before it, and none holds it besides.
pub record IsFirstBad (g : Geometry) (units : Units) (c : Catalog) (part : Part) : Type 0 where
  pub files : List FileContent
  pub earlier : FilesHold g units c (rank part - 3) files
  pub fails : (files : List FileContent) → FilesHold g units c (rank part - 2) files → ⊥

-- the roots of large records, each with its object
abbrev pub root_list : ℕ → Option Root → List ObjectRoot
root_list object None = []
root_list object (Some root) = record { object = object; root = root } ∷ []

abbrev pub roots_found : List Found → List ObjectRoot
roots_found records = flat_map (λ (found : Found). root_list found.object found.root) records

-- the pages that are there are the catalog and these
abbrev pub AreHeld : LoggedSet → List ℕ → Type 0
AreHeld pages files = (page : ℕ) → (is_held pages page ≡ true) ↔ Contains (catalog_no ∷ files) page

-- What was found is of a geometry: the numbers of used units name units, and what has a reference is used; the catalog's page is there, and each page that
-- is there is used.
pub record IsReached (g : Geometry) (r : Reached) : Type 0 where
  pub counted : IsCounted g r.units
  pub held_len : length r.pages ≡ area_end g
  pub home : is_held r.pages catalog_no ≡ true
  pub in_use : (page : ℕ) → IsUsed (used_at r.units) r.pages page

-- These files hold all parts. The units in use are exactly those that the volume reaches, each with as many references as owners, and the logged pages are
-- exactly the catalog and the pages of its files.
pub record FilesReached (g : Geometry) (units : Units) (c : Catalog) (r : Reached) : Type 0 where
  pub files : List FileContent
  pub holds : FilesHold g units c 6 files
  pub used : (unit : ℕ) → (used_at r.units unit ≡ true) ↔ Contains (reach_of units (volume_of c files)) unit
  pub owned : OwnsUnits g units (volume_of c files) (used_at r.units) (refs_at r.units)
  pub held : AreHeld r.pages (file_pages (volume_of c files))
