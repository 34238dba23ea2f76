-- The files of a volume, as a plan reads them.
use Rattle.std.specs.Prelude.{◌≡◌, ℕ, ◌+◌, ◌/◌, List, [], ◌∷◌, map, Option, Some, None}
use Rattle.std.specs.List.{AllByRecursion, AllZip, flat_map}
use Rattle.ex_base.specs.declared.geometry.Geometry.{Geometry}
use Rattle.ex_base.specs.declared.ground.Ground as ground
use Rattle.ex_base.specs.declared.names.Index.{Index}
use Rattle.ex_base.specs.declared.names.Root.{Root}
use Rattle.ex_base.specs.Order.{AllDiffer}
use Rattle.file_bodies.specs.Bodies.{bodies_of}
use Rattle.file_bodies.specs.Files.{HasFile}
use Rattle.object_files.specs.Catalog.{Catalog, number_of}
use Rattle.trees.specs.Trees.{Units, RootNamed, RootSized}
use Rattle.version_lists.specs.Sorted.{in_order}
use Rattle.volume_model.specs.Parts.{IsStored}
use Rattle.volume_model.specs.Volume.{FileContent, Stored, roots_in, unique_of}
use Rattle.history_model.specs.FilePages.{pages_filled, record_size}
use Rattle.record_lists.specs.declared.Listed.{Listed}
use Rattle.history_plans.specs.declared.catalog.Contents.{Contents}

-- what the catalog says
pub record IsContentsOf (c : Catalog) (contents : Contents) : Type 0 where
  pub next_unique : contents.next_unique ≡ c.next_unique
  pub last : contents.last ≡ c.last
  pub files : contents.files.items ≡ map number_of c.entries

-- the root that is listed of a record, as a list
abbrev pub root_if : Option Root → List Root
root_if None = []
root_if (Some root) = root ∷ []

abbrev pub root_listed : Listed → List Root
root_listed listed = root_if listed.root

abbrev pub roots_listed : List Listed → List Root
roots_listed records = flat_map root_listed records

-- the roots of a file in order of the numbers of its versions
abbrev pub roots_stored : FileContent → List Root
roots_stored file = roots_in (in_order unique_of file.stored)

abbrev pub size_stored : Stored → ℕ
size_stored s = record_size s.body.content

-- the pages that its records fill, and room for its index
abbrev pub filled_stored : ℕ → FileContent → ℕ
filled_stored page_size file = pages_filled page_size 0 (map size_stored (in_order unique_of file.stored))

abbrev pub pages_stored : ℕ → FileContent → ℕ
pages_stored page_size file = filled_stored page_size file + filled_stored page_size file / 16 + 4

-- The port has the file with a number whole, with these records, whose numbers differ.
pub record HasStored {S : Type 0} (g : ground.Ghosts S) (s : S) (number : ℕ) (file : FileContent) : Type 0 where
  pub index : Index
  pub whole : HasFile g s index
  pub is : index.file_no ≡ number
  pub records : AllZip IsStored (bodies_of (g.image s) index) file.stored
  pub differ : AllDiffer (map unique_of file.stored)

-- the trees of roots are well formed
abbrev pub AreNamed : Geometry → Units → List Root → Type 0
AreNamed g units roots = AllByRecursion (λ (root : Root). RootNamed g units root.height root.page) roots

-- and each has the bytes that its root says
abbrev pub AreTrees : Geometry → Units → List Root → Type 0
AreTrees g units roots = AllByRecursion (λ (root : Root). RootNamed g units root.height root.page × RootSized g units root.height root.size root.page) roots
