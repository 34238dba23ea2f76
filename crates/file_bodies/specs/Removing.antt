-- A page that leaves its file.
use Rattle.std.specs.Prelude.{◌≡◌, ℕ, ◌∷◌, Contains}
use Rattle.ex_base.specs.declared.ground.Ground as ground
use Rattle.ex_base.specs.Area.{catalog_no}
use Rattle.object_files.specs.Reads.{catalog_on}
use Rattle.ex_base.specs.declared.names.Index.{Index}
use Rattle.file_index.specs.Changes.{Changes}
use Rattle.file_index.specs.Edits.{take_out}
use Rattle.file_bodies.specs.Bodies.{pages_in}
use Rattle.file_bodies.specs.Files.{HasFile, all_pages, with_index}

-- A page leaves its file and is given back. All other pages stay as they are.
pub record LeavesFile {S : Type 0} (g : ground.Ghosts S) (old new : S) (index : Index) (page : ℕ) : Type 0 where
  pub after : Index
  pub file : HasFile g new after
  pub same_file : after.file_no ≡ index.file_no
  pub pages : pages_in (g.image new) after ≡ take_out page (pages_in (g.image old) index)
  pub images : (p : ℕ) → Contains (pages_in (g.image new) after) p → g.image new p ≡ g.image old p
  pub catalog : catalog_on (g.image new catalog_no) ≡ with_index (catalog_on (g.image old catalog_no)) after
  pub changes : Changes g old new (catalog_no ∷ all_pages (g.image old) index) (catalog_no ∷ all_pages (g.image new) after)
