-- An index as the catalog may hold it.
use Rattle.std.specs.Prelude.{◌≡◌, ◌≤◌, ◌∷◌, [], ℕ}
use Rattle.ex_base.specs.declared.ground.Ground as ground
use Rattle.ex_base.specs.Area.{catalog_no}
use Rattle.ex_base.specs.declared.names.Index.{Index}
use Rattle.file_index.specs.Changes.{Changes}
use Rattle.file_index.specs.Index.{HasRoot, index_level_most}
use Rattle.object_files.specs.Catalog.{CatalogOf}
use Rattle.object_files.specs.Reads.{catalog_on}
use Rattle.file_bodies.specs.Files.{with_index}

-- The index of the file with a number, of a level that an index may have, with a root above level 0.
pub record IsUsable (file_no : ℕ) (index : Index) : Type 0 where
  pub same_file : index.file_no ≡ file_no
  pub level : index.level ≤ index_level_most
  pub root : HasRoot index.level index.root

-- The catalog gets an index in the entry of its file, and no other page changes.
pub record SetsIndex {S : Type 0} (g : ground.Ghosts S) (old new : S) (index : Index) : Type 0 where
  pub catalog : CatalogOf (g.image new catalog_no) (with_index (catalog_on (g.image old catalog_no)) index)
  pub changes : Changes g old new (catalog_no ∷ []) (catalog_no ∷ [])
